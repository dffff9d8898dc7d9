use Rattle.std.proofs.Common.{◌∙◌, length, sym, ap, subst, arith}
use Rattle.node_core.specs.inside.PendingTables.{PendingTablesState, HasRoomFor, AreBelow, IsAmong}
use Rattle.node_core.proofs.pending.Due.{there}
use Rattle.node_core.proofs.pending.Index.{dirty-queued}
use Rattle.node_core.proofs.node.due.mark_dirty.Goals as goal

pub insert-requires : goal.insert-requires
insert-requires g c =
    let tables = c.args.world.now.tables in
    let less = there c.in-Some.last tables c.in-Some.last (sym c.is_pending.ensures ∙ c.if-is_pending.true) in
    subst (λ (s : PendingTablesState). HasRoomFor s c.in-Some.last) (sym c.set_dirty.ensures.rest) (record { bound = length tables; below = c.requires.below; less = less; room = c.requires.room })

pub returns-then-is_pending-clause-pending : goal.returns-then-is_pending-clause-pending
returns-then-is_pending-clause-pending g c =
    let tables = c.args.world.now.tables in
    let replaced = c.set_dirty.ensures.rest in
    let less = there c.in-Some.last tables c.in-Some.last (sym c.is_pending.ensures ∙ c.if-is_pending.true) in
    dirty-queued tables c.args.pending.now c.insert.new.self c.in-Some.last c.requires (sym c.in-Some.ensures.before)
    (c.insert.ensures.below (length tables) (subst (λ (s : PendingTablesState). AreBelow s.queue (length tables)) (sym replaced) c.requires.below) less)
    (omega (arith, c.insert.ensures.capacity, ap (λ (s : PendingTablesState). s.capacity) replaced))
    (λ t own. c.insert.ensures.old t (subst (λ (s : PendingTablesState). IsAmong s.queue t) (sym replaced) own))
    c.insert.ensures.new
