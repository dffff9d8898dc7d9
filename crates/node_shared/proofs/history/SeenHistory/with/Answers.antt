use Rattle.std.proofs.Common.{ap, subst, List}
use mathlib.Core.List.{IsPrefix}
use Rattle.node_shared.specs.declared.history.rule.Line.{Line}
use Rattle.node_shared.proofs.Lines.{history-prefix}
use Rattle.node_shared.proofs.history.SeenHistory.with.Goals as goal

pub returns-clause-this : goal.returns-clause-this
returns-clause-this g c =
    let both = c.learn.new.self.log in
    let this : IsPrefix c.self.inside.seen.log both = subst (λ (l : List Line). IsPrefix l both) (ap (λ s. s.log) c.again-seen.ensures) c.learn.ensures.2 in
    rw (← c.self.view_is) (history-prefix g.B.HistoryId.root c.self.inside.seen.log both this)

pub returns-clause-that : goal.returns-clause-that
returns-clause-that g c =
    rw (← c.other.view_is) (history-prefix g.B.HistoryId.root c.other.inside.seen.log c.learn.new.self.log c.learn.ensures.3)
