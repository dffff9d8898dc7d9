use Rattle.node_shared.specs.inside.Lines.{history_of}
use Rattle.node_shared.proofs.Prefixes.{prefix_trans}
use Rattle.node_shared.proofs.Lines.{history-prefix}
use Rattle.node_shared.proofs.history.owner.HistoryOwner.enter.Goals as goal

pub returns-clause-before : goal.returns-clause-before
returns-clause-before g c =
    let r = g.B.HistoryId.root in
    let was = c.seen.inside.seen.log in
    let learned = c.learn-2.new.self.log in
    let next = c.new_pen-next.new.seen.log in
    let own = c.new_pen-own.new.seen.log in
    let early = prefix_trans was learned own c.learn-2.ensures.3 (prefix_trans learned next own c.new_pen-next.ensures.later c.new_pen-own.ensures.later) in
    rw (← c.seen.view_is, ← c.self.view_is) (prefix_trans (history_of r was) (history_of r own) (history_of r c.self.inside.seen.log) (history-prefix r was own early) c.open_turn.ensures.before)
