use Rattle.std.proofs.Common.{arith, refl, sym, ◌∙◌}
use Rattle.node_list.proofs.WalkLaws.{cells_from-step, cells_from-step_at}
use Rattle.node_list.proofs.InsertLaws.{last_not_above-step, last_not_above-end}
use Rattle.node_list.proofs.insert.last_not_above.Goals as goal

pub header-requires-in-Some : goal.header-requires-in-Some
header-requires-in-Some c =
    let st = cells_from-step_at c.args.nodes.now c.loop-place.last c.header.ensures.node c.loop-place.invariant.linked c.header.ensures.is in
    let on = rw (c.header.ensures.next ∙ (sym c.get.ensures ∙ c.in-Some.is)) at st.onward in
    rw (cells_from-step c.args.nodes.now c.in-Some.place on).1.at refl

pub returns-then-split_key-header : goal.returns-then-split_key-header
returns-then-split_key-header c =
    sym ((last_not_above-step c.args.nodes.now c.args.split_key c.loop-place.last c.in-Some.place c.header.ensures.node c.header-in-Some.ensures.node c.loop-place.invariant.linked c.loop-place.invariant.up_to c.header.ensures.is (c.header.ensures.next ∙ (sym c.get.ensures ∙ c.in-Some.is)) c.header-in-Some.ensures.is).past (omega (arith, c.if-split_key-header.true, c.header-in-Some.ensures.key))) ∙ c.loop-place.invariant.same

pub loop-place-smaller : goal.loop-place-smaller
loop-place-smaller c = (last_not_above-step c.args.nodes.now c.args.split_key c.loop-place.last c.in-Some.place c.header.ensures.node c.header-in-Some.ensures.node c.loop-place.invariant.linked c.loop-place.invariant.up_to c.header.ensures.is (c.header.ensures.next ∙ (sym c.get.ensures ∙ c.in-Some.is)) c.header-in-Some.ensures.is).smaller

pub loop-place-preserved : goal.loop-place-preserved
loop-place-preserved c =
    let h = (last_not_above-step c.args.nodes.now c.args.split_key c.loop-place.last c.in-Some.place c.header.ensures.node c.header-in-Some.ensures.node c.loop-place.invariant.linked c.loop-place.invariant.up_to c.header.ensures.is (c.header.ensures.next ∙ (sym c.get.ensures ∙ c.in-Some.is)) c.header-in-Some.ensures.is) in
    record {
      linked = h.linked;
      up_to = record { node = c.header-in-Some.ensures.node; is = c.header-in-Some.ensures.is; up_to = (omega (arith, c.if-split_key-header.false, c.header-in-Some.ensures.key)) };
      same = h.on (omega (arith, c.if-split_key-header.false, c.header-in-Some.ensures.key)) ∙ c.loop-place.invariant.same;
    }

pub returns : goal.returns
returns c =
    sym (last_not_above-end c.args.nodes.now c.args.split_key c.loop-place.last c.header.ensures.node c.loop-place.invariant.linked c.loop-place.invariant.up_to c.header.ensures.is (c.header.ensures.next ∙ (sym c.get.ensures ∙ c.in_default.is))) ∙ c.loop-place.invariant.same
