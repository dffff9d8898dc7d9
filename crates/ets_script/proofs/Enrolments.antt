-- An enrolment under a name.
use Rattle.std.proofs.Common.{◌≡◌, ℕ, ◌⊎◌, List, length, None, ap, subst, inl, inr, ◌∙◌}
use Rattle.node_core.specs.Machine.{step}
use Rattle.node_core.specs.declared.step.Step.TheVariants.{Enrol}
use Rattle.ets_script.specs.Script.{ScriptState, Spawns, KeepsState, names_after}
use Rattle.ets_script.specs.inside.Enrolments.{Enrols}
use Rattle.ets_script.specs.declared.answer.Answer.{Answer}
use Rattle.ets_script.specs.declared.answer.Answer.TheVariants.{NoMemory}

same-state : (old new : ScriptState) → new.names ≡ old.names → new.node ≡ old.node → new ≡ old
same-state old new p q = λ i. record { names = p i; node = q i }

-- an enrolment under a new name
pub enrol-spawns : (old new : ScriptState) (names : List (List ℕ)) (number : ℕ) (name copy : List ℕ) (answer : Answer) → names ≡ old.names → number ≡ length old.names → copy ≡ name
    → Enrols names old.node number copy answer new.names new.node → Spawns None old name answer new ⊎ KeepsState old NoMemory answer new
enrol-spawns old new names number name copy answer same counted copied (inl (r, is, did, after)) =
    inl (r, is, subst (λ (n : ℕ). step old.node (Enrol n) r new.node) counted did, after ∙ ap (λ l. names_after r l copy) same ∙ ap (λ l. names_after r old.names l) copied)
enrol-spawns old new names number name copy answer same counted copied (inr (is, after, kept)) = inr (is, same-state old new (after ∙ same) kept)
