use Rattle.std.proofs.Common.{rules, ◌≡◌, ◌≤◌, sym, ap, subst, arith}
use Rattle.std.specs.VecDeque.{deque_len, deque_capacity}
use Rattle.std.specs.List.{insert}
use Rattle.node_core.specs.inside.PendingTables.{PendingTablesState, Ascends, IsAmong, AreBelow}
use Rattle.node_core.proofs.pending.Ascending.{gap-of, ascends-with, below-with, room-with, among-still}
use Rattle.node_core.proofs.pending_tables.PendingTables.insert.Goals as goal

pub unreachable-requires : goal.unreachable-requires
unreachable-requires c =
    let items = c.self.inside.queue.items in
    let below : AreBelow items c.requires.bound = subst (λ (s : PendingTablesState). AreBelow s.queue c.requires.bound) (sym c.self.view_is) c.requires.below in
    let room = room-with items c.args.id c.in-Err.index (gap-of items c.args.id c.in-Err.index c.self.invariant c.in-Err.ensures.position) c.requires.bound c.self.invariant below c.requires.less in
    let full : deque_capacity c.self.inside.queue ≤ deque_len c.self.inside.queue = search rules in
    omega (arith, room, full, c.requires.room, ap (λ (s : PendingTablesState). s.capacity) c.self.view_is, c.self.inside.queue.ok.0)

pub invariant_of-self : goal.invariant_of-self
invariant_of-self c =
    let items = c.self.inside.queue.items in
    let gap = gap-of items c.args.id c.in-Err.index c.self.invariant c.in-Err.ensures.position in
    let is : c.insert.new.self.items ≡ insert items c.in-Err.index c.args.id = search rules in
    subst Ascends (sym is) (ascends-with items c.args.id c.in-Err.index gap c.self.invariant)

pub returns-else-is_err-clause-old : goal.returns-else-is_err-clause-old
returns-else-is_err-clause-old c =
    let items = c.self.inside.queue.items in
    let gap = gap-of items c.args.id c.in-Err.index c.self.invariant c.in-Err.ensures.position in
    let is : c.insert.new.self.items ≡ insert items c.in-Err.index c.args.id = search rules in
    λ other among. subst (λ xs. IsAmong xs other) (sym is) (among-still items c.args.id c.in-Err.index gap other (subst (λ (s : PendingTablesState). IsAmong s.queue other) (sym c.self.view_is) among))

pub returns-else-is_err-clause-below : goal.returns-else-is_err-clause-below
returns-else-is_err-clause-below c =
    let items = c.self.inside.queue.items in
    let gap = gap-of items c.args.id c.in-Err.index c.self.invariant c.in-Err.ensures.position in
    let is : c.insert.new.self.items ≡ insert items c.in-Err.index c.args.id = search rules in
    λ bound below less. subst (λ xs. AreBelow xs bound) (sym is) (below-with items c.args.id c.in-Err.index gap bound (subst (λ (s : PendingTablesState). AreBelow s.queue bound) (sym c.self.view_is) below) less)
