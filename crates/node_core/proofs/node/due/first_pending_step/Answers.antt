use Rattle.std.proofs.Common.{◌≡◌, ◌∙◌, inl, inr, get_or, sym, ap, arith}
use Rattle.std.specs.Option.{option_and_then}
use Rattle.std.proofs.lemmas.Option.{get_or_from_slice_get}
use Rattle.node_core.specs.Pending.{pending_step_at}
use Rattle.node_core.proofs.pending.Due.{due-dirty, due-here, due-behind}
use Rattle.node_core.proofs.node.due.first_pending_step.Goals as goal

pub loop-i-init : goal.loop-i-init
loop-i-init g c = λ t some. elim (c.requires.due t some) [ inl among ↦ inl (record { among = among; behind = omega arith }) | inr last ↦ inr last ]

pub returns-in-Some : goal.returns-in-Some
returns-in-Some g c =
    let tables = c.args.world.now.tables in
    let pending = c.args.pending.now in
    let here : get_or pending.queue c.loop-i.i 0 ≡ c.in_ok-id.id = get_or_from_slice_get pending.queue c.loop-i.i c.in_ok-id.id 0 (sym c.in_ok-id.ensures) in
    let first = due-here tables pending c.loop-i.i c.loop-i.invariant c.reveal_invariant.ensures c.in_ok-id.id here c.in-Some.step (sym c.in-Some.ensures) in
    cc

pub loop-i-preserved : goal.loop-i-preserved
loop-i-preserved g c =
    let pending = c.args.pending.now in
    let here : get_or pending.queue c.loop-i.i 0 ≡ c.in_ok-id.id = get_or_from_slice_get pending.queue c.loop-i.i c.in_ok-id.id 0 (sym c.in_ok-id.ensures) in
    due-behind c.args.world.now.tables pending c.loop-i.i c.loop-i.invariant c.reveal_invariant.ensures c.in_ok-id.id here (sym c.pending_step_at.ensures ∙ c.in_default.is)

pub returns-in_err-dirty_table : goal.returns-in_err-dirty_table
returns-in_err-dirty_table g c =
    let tables = c.args.world.now.tables in
    let end = c.len-i-end.ensures in
    let left = due-dirty tables c.args.pending.now c.loop-i.i c.loop-i.invariant (omega (arith, c.loop-i-test.false, end)) in
    c.from_residual-in_err-dirty_table.ensures ∙ ap (option_and_then (pending_step_at tables)) c.in_err-dirty_table.ensures ∙ sym left

pub returns : goal.returns
returns g c =
    let tables = c.args.world.now.tables in
    let end = c.len-i-end.ensures in
    let left = due-dirty tables c.args.pending.now c.loop-i.i c.loop-i.invariant (omega (arith, c.loop-i-test.false, end)) in
    c.pending_step_at-2.ensures ∙ ap (option_and_then (pending_step_at tables)) c.in_ok-dirty_table.ensures ∙ sym left
