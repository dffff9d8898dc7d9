use Rattle.std.proofs.Common.{sym, ◌∙◌}
use Rattle.node_list.proofs.WalkLaws.{cells_from-step, cells_from-step_at}
use Rattle.node_list.proofs.UnlinkLaws.{predecessor-step, last-has_no_next}
use Rattle.node_list.proofs.unlink.predecessor.Goals as goal

pub returns-then-place-at : goal.returns-then-place-at
returns-then-place-at c =
    let next = c.header.ensures.next ∙ (sym c.get.ensures ∙ c.in-Some.is) in
    let st = cells_from-step_at c.args.nodes.now c.loop-place.before c.header.ensures.node c.loop-place.invariant.linked c.header.ensures.is in
    let there = cells_from-step c.args.nodes.now c.in-Some.place (rw next at st.onward) in
    let w = predecessor-step c.args.nodes.now c.loop-place.before c.in-Some.place c.args.at c.header.ensures.node there.0 c.loop-place.invariant.linked c.loop-place.invariant.ahead c.header.ensures.is next there.1.at in
    c.loop-place.invariant.up_to c.loop-place.before (w.here c.if-place-at.true)

pub loop-place-smaller : goal.loop-place-smaller
loop-place-smaller c =
    let next = c.header.ensures.next ∙ (sym c.get.ensures ∙ c.in-Some.is) in
    let st = cells_from-step_at c.args.nodes.now c.loop-place.before c.header.ensures.node c.loop-place.invariant.linked c.header.ensures.is in
    let there = cells_from-step c.args.nodes.now c.in-Some.place (rw next at st.onward) in
    (predecessor-step c.args.nodes.now c.loop-place.before c.in-Some.place c.args.at c.header.ensures.node there.0 c.loop-place.invariant.linked c.loop-place.invariant.ahead c.header.ensures.is next there.1.at).smaller

pub loop-place-preserved : goal.loop-place-preserved
loop-place-preserved c =
    let next = c.header.ensures.next ∙ (sym c.get.ensures ∙ c.in-Some.is) in
    let st = cells_from-step_at c.args.nodes.now c.loop-place.before c.header.ensures.node c.loop-place.invariant.linked c.header.ensures.is in
    let there = cells_from-step c.args.nodes.now c.in-Some.place (rw next at st.onward) in
    let w = predecessor-step c.args.nodes.now c.loop-place.before c.in-Some.place c.args.at c.header.ensures.node there.0 c.loop-place.invariant.linked c.loop-place.invariant.ahead c.header.ensures.is next there.1.at in
    record {
      linked = w.linked;
      ahead = w.ahead c.if-place-at.false;
      up_to = λ x b. c.loop-place.invariant.up_to x (w.up_to x b);
    }

pub unreachable-requires : goal.unreachable-requires
unreachable-requires c =
    absurd (last-has_no_next c.args.nodes.now c.loop-place.before c.args.at c.header.ensures.node c.loop-place.invariant.linked c.loop-place.invariant.ahead c.header.ensures.is (c.header.ensures.next ∙ (sym c.get.ensures ∙ c.in_default.is)))
