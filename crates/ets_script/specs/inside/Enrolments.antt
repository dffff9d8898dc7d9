-- What private contracts say of an enrolment.
use Rattle.std.specs.Prelude.{◌≡◌, ℕ, ◌⊎◌, List}
use Rattle.node_core.specs.State.{State}
use Rattle.node_core.specs.Machine.{step}
use Rattle.node_core.specs.declared.step.Step.TheVariants.{Enrol}
use Rattle.node_core.specs.declared.step.Reply.{Reply}
use Rattle.ets_script.specs.Script.{names_after}
use Rattle.ets_script.specs.declared.answer.Answer.{Answer}
use Rattle.ets_script.specs.declared.answer.Answer.TheVariants.{Replied, NoMemory}

-- an enrolment of the next number, or no memory for it
abbrev pub Enrols : List (List ℕ) → State → ℕ → List ℕ → Answer → List (List ℕ) → State → Type 0
Enrols names old number name answer after new =
    ((r : Reply) × (answer ≡ Replied r) × step old (Enrol number) r new × (after ≡ names_after r names name))
    ⊎ ((answer ≡ NoMemory) × (after ≡ names) × (new ≡ old))
