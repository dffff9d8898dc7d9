use Rattle.std.proofs.Common.{◌<◌, List, length, sym, ap, ◌∙◌, arith}
use Rattle.std.proofs.lemmas.Bool.Decides.{nat_tests}
use Rattle.ets_term.specs.declared.term.Term.{Term}
use Rattle.match_spec.specs.declared.expression.Expression.TheVariants.{Tuple}
use Rattle.match_spec.specs.inside.CompiledExpressions.{expressions_of}
use Rattle.ets_term.specs.Data.{data_of, data_list}
use Rattle.std.proofs.Common.{map}
use Rattle.match_spec.proofs.ExpressionLaws.{of-tuple, of-tuples, of-atom, of-other, rest-whole}
use Rattle.match_spec.proofs.expression.compile.+expression.Goals as goal

pub tuple_expression-returns-in_ok-expressions_of-in-Tuple : goal.tuple_expression-returns-in_ok-expressions_of-in-Tuple
tuple_expression-returns-in_ok-expressions_of-in-Tuple t c =
    ap Tuple (c.in_ok-expressions_of-in-Tuple.ensures ∙ ap (λ (ts : List Term). expressions_of c.args.first.now.entries (data_list (map data_of ts))) c.as_slice.ensures)
    ∙ of-tuple _ _ c.index-terms-0.result _ c.if-terms-eq1.true (sym c.index-terms-0.is) c.in-Tuple.is

pub tuple_expression-returns-else-terms-eq1 : goal.tuple_expression-returns-else-terms-eq1
tuple_expression-returns-else-terms-eq1 t c =
    let some : 0 < length c.args.terms.now = grind (arith, nat_tests) in
    of-tuples _ _ c.index-terms-0.result _ some c.if-terms-eq1.false (sym c.index-terms-0.is) c.in-Tuple.is

pub tuple_expression-returns-in_ok-compiled-in-Atom : goal.tuple_expression-returns-in_ok-compiled-in-Atom
tuple_expression-returns-in_ok-compiled-in-Atom t c =
    let some : 0 < length c.args.terms.now = grind (arith, nat_tests) in
    rw (← of-atom c.args.first.now.entries c.args.terms.now c.index-terms-0.result c.in-Atom.name some (sym c.index-terms-0.is) c.in-Atom.is, ← c.text.ensures.text, ← c.in_ok-compiled-in-Atom.ensures) (rw (rest-whole c.args.terms.now) at c.application.ensures)

pub tuple_expression-returns-in_default : goal.tuple_expression-returns-in_default
tuple_expression-returns-in_default t c =
    let some : 0 < length c.args.terms.now = grind (arith, nat_tests) in
    of-other _ _ c.index-terms-0.result some (sym c.index-terms-0.is) c.in_default.not-Tuple c.in_default.not-Atom
