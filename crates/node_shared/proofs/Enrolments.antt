-- The replies to a step that enrols a process.
use Rattle.std.proofs.Common.{◌≡◌, ℕ, ◌==◌, Bool, true, false, cond, [], ◌∷◌, ◌++◌, Some, None, Result, Ok, Err, refl, sym, ap, ◌∙◌, length, inl, inr, arith}
use Rattle.std.specs.Prelude.{nat_le, is_some}
use Rattle.std.specs.Bool.{MatchBool}
use Rattle.std.proofs.lemmas.Bool.Decides.{nat_tests}
use Rattle.ets_term.specs.declared.term.Term.TheVariants.{Pid}
use Rattle.ownership.specs.declared.fault.WorldFault.{WorldFault}
use Rattle.ownership.specs.declared.fault.WorldFault.TheVariants as fault
use Rattle.ownership.specs.declared.process.Process.{Process}
use Rattle.ownership.specs.World.{World, Processes, process_at}
use Rattle.ownership.specs.Tables.{after_enrol}
use Rattle.node_core.specs.declared.step.Step.TheVariants.{Enrol}
use Rattle.node_core.specs.declared.step.Reply.{Reply}
use Rattle.node_core.specs.declared.step.Reply.TheVariants.{Value, Badarg, SystemLimit}
use Rattle.node_core.specs.State.{State}
use Rattle.node_core.specs.Access.{WorldResultToReply}
use Rattle.node_core.specs.Machine.{step}
use Rattle.node_core.specs.Values.{is_value}
use Rattle.node_shared.specs.Running.{IsEnrolRefusal}

-- the result of the world, where a process of this number is known, or where all places are taken
abbrev Enrols : World → World → ℕ → Bool → Bool → Result (Unit {0}) WorldFault → Type 0
Enrols old new p known full r =
    MatchBool known ((r ≡ Err fault.Badarg) × (new ≡ old)) (MatchBool full ((r ≡ Err fault.SystemLimit) × (new ≡ old)) ((r ≡ Ok tt) × (new ≡ after_enrol old p)))

differs : (answer r : Reply) (a b : Bool) → r ≡ answer → is_value answer ≡ a → is_value r ≡ b → a ≡ b
differs answer r a b same is was = sym is ∙ sym (ap is_value same) ∙ was

-- a reply that is not a refusal is the number
pub enrol-granted : (old new : State) (p : ℕ) (r : Reply) → is_value r ≡ true → step old (Enrol p) r new → r ≡ Value (Pid p)
enrol-granted old new p r granted h = by (is_some (process_at old.world.processes p)) (nat_le old.world.max_processes (length old.world.processes)) h.0 h.1 h.2
  where
    by : (known full : Bool) (x : Result (Unit {0}) WorldFault) → Enrols old.world new.world p known full x → WorldResultToReply (λ _. Value (Pid p)) x r → r ≡ Value (Pid p)
    by true full x a b = let same : r ≡ Badarg = rw a.0 at b in let bad : false ≡ true = differs Badarg r false true same refl granted in absurd (cc)
    by false true x a b = let same : r ≡ SystemLimit = rw a.0 at b in let bad : false ≡ true = differs SystemLimit r false true same refl granted in absurd (cc)
    by false false x a b = rw a.0 at b

-- and a refusal is one of two
pub enrol-refused : (old new : State) (p : ℕ) (r : Reply) → is_value r ≡ false → step old (Enrol p) r new → IsEnrolRefusal r
enrol-refused old new p r refused h = by (is_some (process_at old.world.processes p)) (nat_le old.world.max_processes (length old.world.processes)) h.0 h.1 h.2
  where
    by : (known full : Bool) (x : Result (Unit {0}) WorldFault) → Enrols old.world new.world p known full x → WorldResultToReply (λ _. Value (Pid p)) x r → IsEnrolRefusal r
    by true full x a b = let same : r ≡ Badarg = rw a.0 at b in inl same
    by false true x a b = let same : r ≡ SystemLimit = rw a.0 at b in inr same
    by false false x a b = let same : r ≡ Value (Pid p) = rw a.0 at b in let bad : true ≡ false = differs (Value (Pid p)) r true false same refl refused in absurd (cc)

-- a number that is enrolled was not known before
pub enrol-fresh : (old new : State) (p : ℕ) (r : Reply) → is_value r ≡ true → step old (Enrol p) r new → is_some (process_at old.world.processes p) ≡ false
enrol-fresh old new p r granted h = by (is_some (process_at old.world.processes p)) (nat_le old.world.max_processes (length old.world.processes)) refl h.0 h.1 h.2
  where
    by : (known full : Bool) → is_some (process_at old.world.processes p) ≡ known → (x : Result (Unit {0}) WorldFault) → Enrols old.world new.world p known full x → WorldResultToReply (λ _. Value (Pid p)) x r
        → is_some (process_at old.world.processes p) ≡ false
    by true full k x a b = let same : r ≡ Badarg = rw a.0 at b in let bad : false ≡ true = differs Badarg r false true same refl granted in absurd (cc)
    by false full k x a b = k

last-known : (p : ℕ) (es : Processes) (own : Process) → is_some (process_at (es ++ (p, own) ∷ []) p) ≡ true
last-known p [] own = let here : (p == p) ≡ true = grind (arith, nat_tests) in ap (λ (b : Bool). is_some (cond b (Some own) None)) here
last-known p (e ∷ es) own = by (p == e.0) (last-known p es own)
  where
    by : (b : Bool) → is_some (process_at (es ++ (p, own) ∷ []) p) ≡ true → is_some (cond b (Some e.1) (process_at (es ++ (p, own) ∷ []) p)) ≡ true
    by true rest = refl
    by false rest = rest

-- and is known afterwards
pub enrol-known : (old new : State) (p : ℕ) (r : Reply) → is_value r ≡ true → step old (Enrol p) r new → is_some (process_at new.world.processes p) ≡ true
enrol-known old new p r granted h = by (is_some (process_at old.world.processes p)) (nat_le old.world.max_processes (length old.world.processes)) h.0 h.1 h.2
  where
    by : (known full : Bool) (x : Result (Unit {0}) WorldFault) → Enrols old.world new.world p known full x → WorldResultToReply (λ _. Value (Pid p)) x r
        → is_some (process_at new.world.processes p) ≡ true
    by true full x a b = let same : r ≡ Badarg = rw a.0 at b in let bad : false ≡ true = differs Badarg r false true same refl granted in absurd (cc)
    by false true x a b = let same : r ≡ SystemLimit = rw a.0 at b in let bad : false ≡ true = differs SystemLimit r false true same refl granted in absurd (cc)
    by false false x a b = ap (λ (w : World). is_some (process_at w.processes p)) a.1 ∙ last-known p old.world.processes (record { lives = true; mailbox = [] })
