use Rattle.std.proofs.Common.{suc, ◌<◌, length, ap, sym, ◌∙◌, add-one, arith}
use Rattle.std.specs.Option.{option_map}
use Rattle.match_spec.specs.inside.CompiledExpressions.{value_data}
use Rattle.match_spec.specs.Functions.{boolean}
use Rattle.match_spec.proofs.ValueLaws.{short_circuit_of-next}
use Rattle.match_spec.proofs.expression.evaluate.+evaluate.Goals as goal

pub eval_short_circuit-loop-i-preserved : goal.eval_short_circuit-loop-i-preserved
eval_short_circuit-loop-i-preserved t c =
    let more : suc c.loop-i.i < length c.args.arguments.now = omega (arith, c.if-i-arguments.false) in
    let value = sym c.in_ok-x.ensures ∙ ap (option_map value_data) c.in-Some.is in
    let truth = ap boolean (sym c.term.ensures) ∙ sym c.boolean.ensures ∙ c.in-Some-boolean.is in
    rw add-one (short_circuit_of-next _ _ _ _ _ c.index-arguments-i.result _ _ more (sym c.index-arguments-i.is) value truth (sym c.decides.ensures ∙ c.if-decides.false) ∙ c.loop-i.invariant)
