use Rattle.std.proofs.Common.{◌≡◌, ◌≤◌, ◌+◌, ◌∙◌, rules, Some, length, sym, subst, arith}
use Rattle.ownership.specs.World.{World}
use Rattle.ownership.specs.Tables.{new_metadata, with_table}
use Rattle.node_core.specs.inside.PendingTables.{AreBelow, IsAmong}
use Rattle.node_core.specs.inside.Due.{TracksPending}
use Rattle.node_core.proofs.pending.Index.{roomier, added}
use Rattle.node_core.proofs.pending.Keeping.{new-refused, new-made}
use Rattle.node_core.proofs.node.tables.add_table.Goals as goal

pub returns-in_err-answer-clause-pending : goal.returns-in_err-answer-clause-pending
returns-in_err-answer-clause-pending g c =
    let old = c.args.world.now in
    let same : c.new_table.new.self ≡ old = new-refused old c.new_table.new.self c.args.pid c.args.name.now c.args.options c.args.table c.in_err-answer.field-0.0 c.in_err-answer.ensures in
    subst (λ (w : World). TracksPending w.tables c.reserve.new.self) (sym same) (roomier old.tables c.args.pending.now c.reserve.new.self c.requires c.reserve.ensures.same c.reserve.ensures.dirty c.reserve.ensures.more)

pub insert-requires : goal.insert-requires
insert-requires g c =
    let tables = c.args.world.now.tables in
    let room : c.made-id.result + 1 ≤ c.reserve.new.self.capacity = search rules in
    record {
      bound = length tables + 1;
      below = subst (λ ids. AreBelow ids (length tables + 1)) (sym c.reserve.ensures.same) (λ i h. omega (arith, c.requires.below i h));
      less = omega (arith, c.made-id.ensures);
      room = omega (arith, room, c.made-id.ensures);
    }

pub returns-clause-pending : goal.returns-clause-pending
returns-clause-pending g c =
    let old = c.args.world.now in
    let tables = old.tables in
    let room : c.made-id.result + 1 ≤ c.reserve.new.self.capacity = search rules in
    let under : AreBelow c.reserve.new.self.queue (length tables + 1) = subst (λ ids. AreBelow ids (length tables + 1)) (sym c.reserve.ensures.same) (λ i h. omega (arith, c.requires.below i h)) in
    let made : c.new_table.new.self ≡ with_table old (new_metadata c.args.pid c.args.name.now c.args.options) c.args.table = new-made old c.new_table.new.self c.args.pid c.args.name.now c.args.options c.args.table c.in_ok-answer.answer c.in_ok-answer.ensures in
    subst (λ (w : World). TracksPending w.tables c.insert.new.self) (sym made) (added tables c.args.pending.now c.insert.new.self (Some (record { metadata = new_metadata c.args.pid c.args.name.now c.args.options; state = c.args.table })) c.requires
    (c.insert.ensures.below (length tables + 1) under (omega (arith, c.made-id.ensures)))
    (omega (arith, room, c.made-id.ensures, c.insert.ensures.capacity))
    (subst (IsAmong c.insert.new.self.queue) c.made-id.ensures c.insert.ensures.new)
    (λ t among. c.insert.ensures.old t (subst (λ ids. IsAmong ids t) (sym c.reserve.ensures.same) among))
    (c.insert.ensures.dirty ∙ c.reserve.ensures.dirty))
