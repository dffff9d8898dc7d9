use Rattle.std.proofs.Common.{◌≤◌, ap, subst, arith, length, List}
use mathlib.Core.List.{IsPrefix}
use Rattle.node_shared.specs.declared.history.rule.Line.{Line}
use Rattle.node_shared.specs.inside.Lines.{history_of}
use Rattle.node_shared.proofs.Prefixes.{prefix_shorter}
use Rattle.node_shared.proofs.Lines.{history-prefix}
use Rattle.node_shared.proofs.history.SeenHistory.begins.Goals as goal

pub returns : goal.returns
returns g c =
    let r = g.B.HistoryId.root in
    let both = c.learn.new.self.log in
    let mine = c.self.inside.seen.log in
    let theirs = c.other.inside.seen.log in
    let this : IsPrefix mine both = subst (λ (l : List Line). IsPrefix l both) (ap (λ s. s.log) c.again-both.ensures) c.learn.ensures.2 in
    let less : length (history_of r mine) ≤ length (history_of r theirs) = omega (arith, ap length c.self.view_is, ap length c.other.view_is, c.requires) in
    rw (← c.self.view_is, ← c.other.view_is) (prefix_shorter (history_of r mine) (history_of r theirs) (history_of r both) (history-prefix r mine both this) (history-prefix r theirs both c.learn.ensures.3) less)
