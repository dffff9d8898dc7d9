use Rattle.std.proofs.Common.{[], subst, sym}
use Rattle.std.proofs.lemmas.List.Elements.{All-nil, All-cons}
use Rattle.ets_term.specs.declared.term.Term.TheVariants.{Pid}
use Rattle.node_core.specs.declared.step.Reply.{Reply}
use Rattle.node_core.specs.declared.step.Reply.TheVariants.{Value}
use Rattle.node_core.specs.declared.step.Step.TheVariants.{Enrol}
use Rattle.node_shared.specs.declared.entry.Entry.{Entry}
use Rattle.node_shared.specs.Journal.{entry}
use Rattle.node_shared.specs.Running.{EndsRun, AllEndRuns}
use Rattle.node_shared.proofs.shared.Shared.client.Goals as goal

pub of-requires-clause-runs : goal.of-requires-clause-runs
of-requires-clause-runs g c =
    let pid = c.pid-pid.result in
    let own : Entry → Type 0 = λ e. EndsRun g.L.Ledger.parts e.step e.reply in
    let run : EndsRun g.L.Ledger.parts (Enrol pid) (Value (Pid pid)) = subst (λ (r : Reply). EndsRun g.L.Ledger.parts (Enrol pid) r) c.in-Ok-joined.ensures.pid c.in-Ok-joined.ensures.run in
    subst (AllEndRuns g.L.Ledger.parts) (sym c.in-Ok.ensures) (All-cons own (entry (Enrol pid) (Value (Pid pid))) [] run (All-nil own))
