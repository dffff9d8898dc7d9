use Rattle.std.proofs.Common.{sym, ap, ◌∙◌, length}
use Rattle.match_spec.specs.declared.expression.Expression.TheVariants.{Constant}
use Rattle.match_spec.specs.inside.CompiledExpressions.{call_expression}
use Rattle.match_spec.proofs.ExpressionLaws.{constant_else-one, constant_else-other, constant_else-named}
use Rattle.match_spec.proofs.expression.compile.application.Goals as goal
use Rattle.match_spec.proofs.expression.compile.application.Goals.{else-arguments-eq1-via-then-arguments-eq1+else-eq, else-arguments-eq1-via-else-arguments-eq1}

pub returns-then-eq : goal.returns-then-eq
returns-then-eq c =
    ap Constant c.in_ok-try_clone.ensures ∙ constant_else-one c.args.name.now _ c.index-arguments-0.result
    (call_expression c.args.name.now (length c.args.arguments.now) c.args.compiled) c.if-arguments-eq1.true (sym c.index-arguments-0.is) (sym c.eq.ensures ∙ c.if-eq.true)

pub returns : goal.returns
returns c = c.call_expression.ensures ∙ elim c.else-arguments-eq1.branch [
  | else-arguments-eq1-via-then-arguments-eq1+else-eq w ↦ constant_else-named c.args.name.now c.args.arguments.now _ (sym w.eq.ensures ∙ w.if-eq.false)
  | else-arguments-eq1-via-else-arguments-eq1 w ↦ constant_else-other c.args.name.now c.args.arguments.now _ w.if-arguments-eq1.false
]
