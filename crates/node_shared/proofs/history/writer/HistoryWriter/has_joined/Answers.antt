use Rattle.std.proofs.Common.{◌≡◌, [], None, Some, sym, ap, ◌∙◌}
use Rattle.node_shared.specs.Journal.{entries_of}
use Rattle.node_shared.specs.inside.Lines.{history_of}
use Rattle.node_shared.proofs.Lines.{none-turn}
use Rattle.node_shared.proofs.history.writer.HistoryWriter.has_joined.Goals as goal

pub returns : goal.returns
returns g c none =
    let r = g.B.HistoryId.root in
    let w = c.self.inside in
    let empty : entries_of w.pid (history_of r w.mine.log) ≡ [] = ap (λ s. s.entries) c.self.view_is ∙ none in
    let both : None ≡ Some w.turn.nib.key = sym (none-turn r w.pid w.mine.log empty) ∙ c.self.invariant.3 in
    absurd (cc both)
