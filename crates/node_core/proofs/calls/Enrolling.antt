-- What a step that enrols a process leaves: one process more, or nothing changed.
use Rattle.std.proofs.Common.{◌≡◌, ℕ, ◌+◌, ◌<◌, Bool, true, false, [], ◌∷◌, Result, Ok, Err, refl, sym, ap, ◌∙◌, length, length-append}
use Rattle.std.specs.Prelude.{nat_le, is_some}
use Rattle.std.specs.Bool.{MatchBool}
use Rattle.std.proofs.lemmas.Bool.{leb-false}
use Rattle.ets_term.specs.declared.term.Term.TheVariants.{Pid}
use Rattle.ownership.specs.declared.fault.WorldFault.{WorldFault}
use Rattle.ownership.specs.declared.fault.WorldFault.TheVariants as fault
use Rattle.ownership.specs.World.{World, process_at}
use Rattle.ownership.specs.Tables.{after_enrol}
use Rattle.node_core.specs.declared.step.Step.TheVariants.{Enrol}
use Rattle.node_core.specs.declared.step.Reply.{Reply}
use Rattle.node_core.specs.declared.step.Reply.TheVariants.{Value, Badarg, SystemLimit}
use Rattle.node_core.specs.State.{State}
use Rattle.node_core.specs.Access.{WorldResultToReply}
use Rattle.node_core.specs.Observable.{observable}
use Rattle.node_core.specs.Machine.{step}
use Rattle.node_core.specs.rules.Growth.{step_on_buckets}
use Rattle.node_core.specs.Values.{is_value}
use Rattle.node_core.proofs.buckets.Unobservable.{unobservable-same}

-- the result of an enrolment: refused if the number was enrolled before, or if the limit of processes is reached
abbrev Enrols : World → World → ℕ → Bool → Bool → Result (Unit {0}) WorldFault → Type 0
Enrols old new p known full r =
    MatchBool known ((r ≡ Err fault.Badarg) × (new ≡ old)) (MatchBool full ((r ≡ Err fault.SystemLimit) × (new ≡ old)) ((r ≡ Ok tt) × (new ≡ after_enrol old p)))

no-value : (answer r : Reply) → r ≡ answer → is_value answer ≡ false → is_value r ≡ true → ⊥
no-value answer r is refused granted = let both : true ≡ false = sym granted ∙ ap is_value is ∙ refused in cc

-- an enrolled process is one more, and the limit was not reached before
pub enrolled : (old new : State) (p : ℕ) (r : Reply) → is_value r ≡ true → step old (Enrol p) r new
    → (length new.world.processes ≡ length old.world.processes + 1) × (length old.world.processes < old.world.max_processes)
enrolled old new p r granted h = by (is_some (process_at old.world.processes p)) (nat_le old.world.max_processes (length old.world.processes)) refl h.0 h.1 h.2
  where
    by : (known full : Bool) → nat_le old.world.max_processes (length old.world.processes) ≡ full → (x : Result (Unit {0}) WorldFault) → Enrols old.world new.world p known full x
        → WorldResultToReply (λ _. Value (Pid p)) x r → (length new.world.processes ≡ length old.world.processes + 1) × (length old.world.processes < old.world.max_processes)
    by true full f x a b = let is : r ≡ Badarg = rw a.0 at b in absurd (no-value Badarg r is refl granted)
    by false true f x a b = let is : r ≡ SystemLimit = rw a.0 at b in absurd (no-value SystemLimit r is refl granted)
    by false false f x a b =
        let more : length new.world.processes ≡ length (after_enrol old.world p).processes = ap (λ (w : World). length w.processes) a.1 in
        (more ∙ length-append old.world.processes ((p, record { lives = true; mailbox = [] }) ∷ []), leb-false old.world.max_processes (length old.world.processes) f)

-- a refused one changes nothing, not even buckets
pub not-enrolled : (old new : State) (p : ℕ) (r : Reply) → is_value r ≡ false → step (observable old) (Enrol p) r (observable new) → step_on_buckets old (Enrol p) r new → new ≡ old
not-enrolled old new p r refused h kept =
    unobservable-same old new (by (is_some (process_at (observable old).world.processes p)) (nat_le (observable old).world.max_processes (length (observable old).world.processes)) h.0 h.1 h.2 h.3) kept.0
  where
    same : (observable new).world ≡ (observable old).world → observable new ≡ record (observable old) { world = (observable new).world } → observable new ≡ observable old
    same w e = e ∙ ap (λ (x : World). record (observable old) { world = x }) w

    by : (known full : Bool) (x : Result (Unit {0}) WorldFault) → Enrols (observable old).world (observable new).world p known full x → WorldResultToReply (λ _. Value (Pid p)) x r
        → observable new ≡ record (observable old) { world = (observable new).world } → observable new ≡ observable old
    by true full x a b e = same a.1 e
    by false true x a b e = same a.1 e
    by false false x a b e =
        let is : r ≡ Value (Pid p) = rw a.0 at b in
        let both : true ≡ false = ap is_value (sym is) ∙ refused in
        absurd (cc)
