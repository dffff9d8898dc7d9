use Rattle.node_shared.specs.inside.Lines.{history_of}
use Rattle.node_shared.proofs.Prefixes.{prefix_trans}
use Rattle.node_shared.proofs.Lines.{history-prefix}
use Rattle.node_shared.proofs.history.owner.HistoryOwner.show.Goals as goal

pub returns-clause-before : goal.returns-clause-before
returns-clause-before g c =
    let r = g.B.HistoryId.root in
    let early = history-prefix r c.seen.inside.seen.log c.learn.new.self.log c.learn.ensures.3 in
    rw (← c.seen.view_is, ← c.self.view_is) (prefix_trans (history_of r c.seen.inside.seen.log) (history_of r c.learn.new.self.log) (history_of r c.self.inside.seen.log) early c.confirm.ensures.before)
