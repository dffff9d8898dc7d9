use Rattle.std.proofs.Common.{◌≡◌, ℕ, true, false, List, [], sym, ap, subst, rules, ◌∙◌}
use Rattle.std.specs.Prelude.{is_some}
use Rattle.ownership.specs.World.{process_at}
use Rattle.node_core.specs.declared.step.Step.TheVariants.{Enrol}
use Rattle.node_core.specs.Values.{is_value}
use Rattle.node_core.specs.Observable.{observable}
use Rattle.node_core.proofs.calls.Enrolling.{not-enrolled}
use Rattle.node_shared.specs.declared.entry.Entry.{Entry}
use Rattle.node_shared.specs.Journal.{entry, IsRun, entries_of}
use Rattle.node_shared.specs.Serving.{ServedState}
use Rattle.node_shared.proofs.Growing.{run-on, counts-on}
use Rattle.node_shared.proofs.Lines.{same-number}
use Rattle.node_shared.proofs.Knowing.{known-on, same-process}
use Rattle.node_shared.proofs.Enrolments.{enrol-granted, enrol-refused, enrol-fresh, enrol-known}
use Rattle.node_shared.proofs.served.ServedNode.join.Goals as goal

pub invariant_of-self-then-not-is_value : goal.invariant_of-self-then-not-is_value
invariant_of-self-then-not-is_value g c =
    let refused : is_value c.in-Ok.reply ≡ false = search rules in
    let same : c.step.new.self ≡ c.self.inside.node = not-enrolled c.self.inside.node c.step.new.self c.args.pid c.in-Ok.reply refused c.in-Ok.ensures.ok c.in-Ok.ensures.buckets in
    rw same c.self.invariant

pub returns-then-not-is_value-clause-err : goal.returns-then-not-is_value-clause-err
returns-then-not-is_value-clause-err g c =
    let refused : is_value c.in-Ok.reply ≡ false = search rules in
    let same : c.step.new.self ≡ c.self.inside.node = not-enrolled c.self.inside.node c.step.new.self c.args.pid c.in-Ok.reply refused c.in-Ok.ensures.ok c.in-Ok.ensures.buckets in
    (λ i. record { state = same i; history = c.self.inside.owner }) ∙ c.self.view_is

pub enter_first-writer-requires-clause-none : goal.enter_first-writer-requires-clause-none
enter_first-writer-requires-clause-none g c =
    let granted : is_value c.in-Ok.reply ≡ true = search rules in
    c.self.invariant.2 c.args.pid (enrol-fresh (observable c.self.inside.node) (observable c.step.new.self) c.args.pid c.in-Ok.reply granted c.in-Ok.ensures.ok)

pub invariant_of-self-2 : goal.invariant_of-self-2
invariant_of-self-2 g c =
    let granted : is_value c.in-Ok.reply ≡ true = search rules in
    let did = c.in-Ok.ensures in
    let was = c.self.invariant in
    let h = c.self.inside.owner in
    let old = c.self.inside.node in
    let new = c.step.new.self in
    let p = c.args.pid in
    let reply = c.in-Ok.reply in
    let known : is_some (process_at new.world.processes p) ≡ true = enrol-known (observable old) (observable new) p reply granted did.ok in (
      rw c.enter_first-writer.ensures.all (run-on g.B.HistoryId.limits old new h (Enrol p) reply was.0 (did.ok, did.buckets)),
      rw (c.saturating_add-self-inside.ensures, c.enter_first-writer.ensures.all) (counts-on h (entry (Enrol p) reply) c.self.inside.count was.1),
      rw c.enter_first-writer.ensures.all (known-on h old new (Enrol p) reply was.2 (did.ok, did.buckets) (λ q is. subst (λ (i : ℕ). is_some (process_at new.world.processes i) ≡ true) (same-process p q (Enrol p) (same-number p) is) known)),
    )

pub returns-clause-pid : goal.returns-clause-pid
returns-clause-pid g c =
    let granted : is_value c.in-Ok.reply ≡ true = search rules in
    ap (λ (e : Entry). e.reply) c.enter_first-writer.ensures.same ∙ enrol-granted (observable c.self.inside.node) (observable c.step.new.self) c.args.pid c.in-Ok.reply granted c.in-Ok.ensures.ok

pub returns-clause-none : goal.returns-clause-none
returns-clause-none g c =
    let granted : is_value c.in-Ok.reply ≡ true = search rules in
    let none : entries_of c.args.pid c.self.inside.owner ≡ [] = c.self.invariant.2 c.args.pid (enrol-fresh (observable c.self.inside.node) (observable c.step.new.self) c.args.pid c.in-Ok.reply granted c.in-Ok.ensures.ok) in
    ap (λ (s : ServedState). entries_of c.args.pid s.history) (sym c.self.view_is) ∙ none

pub returns-clause-run : goal.returns-clause-run
returns-clause-run g c =
    let did = c.in-Ok.ensures in
    let limits = g.B.HistoryId.limits in
    let new = c.step.new.self in
    subst (λ (es : List Entry). IsRun limits es new) (sym c.enter_first-writer.ensures.all) (run-on limits c.self.inside.node new c.self.inside.owner (Enrol c.args.pid) c.in-Ok.reply c.self.invariant.0 (did.ok, did.buckets))

pub returns-then-not-is_value-clause-refused_run : goal.returns-then-not-is_value-clause-refused_run
returns-then-not-is_value-clause-refused_run g c =
    let refused : is_value c.in-Ok.reply ≡ false = search rules in
    let did = c.in-Ok.ensures in
    let old = c.self.inside.node in
    let new = c.step.new.self in (
      enrol-refused (observable old) (observable new) c.args.pid c.in-Ok.reply refused did.ok,
      c.self.inside.owner,
      new,
      run-on g.B.HistoryId.limits old new c.self.inside.owner (Enrol c.args.pid) c.in-Ok.reply c.self.invariant.0 (did.ok, did.buckets),
    )
