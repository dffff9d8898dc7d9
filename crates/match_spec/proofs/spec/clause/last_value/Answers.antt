use Rattle.std.proofs.Common.{suc, ◌<◌, length, ap, sym, ◌∙◌, add-one, arith}
use Rattle.std.specs.Option.{option_map}
use Rattle.match_spec.specs.inside.CompiledExpressions.{value_data}
use Rattle.match_spec.proofs.ValueLaws.{last_value_of-next}
use Rattle.match_spec.proofs.spec.clause.last_value.Goals as goal

pub loop-i-preserved : goal.loop-i-preserved
loop-i-preserved c =
    let more : suc c.loop-i.i < length c.args.body.now = omega (arith, c.if-i-body.false) in
    let value = sym c.in_ok-x.ensures ∙ ap (option_map value_data) c.in-Some.is in
    rw add-one (last_value_of-next _ _ _ _ c.index-body-i.result _ more (sym c.index-body-i.is) value ∙ c.loop-i.invariant)
