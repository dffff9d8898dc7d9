use Rattle.std.proofs.Common.{◌≡◌, ◌∙◌, List, refl, sym, ap, subst}
use Rattle.node_core.specs.State.{empty}
use Rattle.node_shared.specs.declared.entry.Entry.{Entry}
use Rattle.node_shared.specs.Journal.{IsRun}
use Rattle.node_shared.specs.inside.Steps.{entry_count}
use Rattle.node_shared.specs.inside.Known.{AreKnown}
use Rattle.node_shared.proofs.served.ServedNode.new.Goals as goal

pub invariant_of-result : goal.invariant_of-result
invariant_of-result g c =
    subst (λ (h : List Entry). IsRun g.B.HistoryId.limits h c.new.result × (0 ≡ entry_count h) × AreKnown h c.new.result) (sym c.requires.none) (c.new.ensures ∙ ap empty c.requires.limits, refl, λ p unknown. refl)
