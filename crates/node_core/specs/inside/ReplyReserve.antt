-- What a step does to a node's own state, and the memory that a second copy of its reply needs.
use Rattle.std.specs.Prelude.{◌≡◌, ◌≤◌, ◌⊎◌, ℕ, Bool, true, false, nat_le, length, List, [], vec_capacity}
use Rattle.std.specs.List.{list_all}
use Rattle.ets_term.specs.declared.term.Term.{Term, out-Term}
use Rattle.ets_term.specs.declared.term.Term.TheOpen.{Term-F}
use Rattle.ets_term.specs.declared.term.Term.TheVariants as term
use Rattle.table_ops.specs.Outcomes.{Outcome}
use Rattle.node_core.specs.declared.step.Step.{Step}
use Rattle.node_core.specs.declared.step.Step.TheVariants.{Grow, Ready}
use Rattle.node_core.specs.declared.step.Reply.{Reply}
use Rattle.node_core.specs.declared.step.Reply.TheVariants.{Value}
use Rattle.node_core.specs.declared.node.reply_reserve.ReplyReserve.{ReplyReserve}
use Rattle.node_core.specs.declared.node.reply_reserve.ReplyReserve.TheVariants.{Nothing, Predicted, Capacity}
use Rattle.node_core.specs.State.{State}
use Rattle.node_core.specs.Machine.{step}
use Rattle.node_core.specs.rules.Growth.{in_table, Grows, Readies}

-- a step of a node: of Grow and Ready, also what it does to the buckets; of any other, a step of the machine
abbrev pub StepsWithBuckets : State → Step → Outcome Reply State
StepsWithBuckets old (Grow t) reply new = in_table old t Grows reply new
StepsWithBuckets old (Ready t bucket) reply new = in_table old t (Readies bucket) reply new
StepsWithBuckets old event reply new = step old event reply new

-- whether a copy of a term of this form takes no memory
abbrev pub is_flat_form : Term-F Term → Bool
is_flat_form (Term-F.Int n) = true
is_flat_form (Term-F.Atom text) = nat_le (length text) 22
is_flat_form (Term-F.Pid p) = true
is_flat_form (Term-F.Tid t) = true
is_flat_form _ = false

abbrev pub is_flat_term : Term → Bool
is_flat_term term = is_flat_form (out-Term term)

abbrev pub is_flat : Reply → Bool
is_flat (Value term) = is_flat_term term
is_flat _ = true

-- the terms of a list; any other term has none
abbrev pub list_terms_form : Term-F Term → List Term
list_terms_form (Term-F.List terms) = terms
list_terms_form _ = []

abbrev pub list_terms : Term → List Term
list_terms term = list_terms_form (out-Term term)

-- the reply is a list of terms whose copies take no memory, and there is capacity for the list
pub record FitsCapacity (capacity : ℕ) (reply : Reply) : Type 0 where
  pub terms : List Term
  pub reply_is : reply ≡ Value (term.List terms)
  pub flat : list_all is_flat_term terms ≡ true
  pub few : length terms ≤ capacity

-- the reply can be copied with the memory that was reserved before the step
abbrev pub CanCopy : ReplyReserve → Reply → Type 0
CanCopy Nothing reply = Unit {0}
CanCopy (Predicted copy) reply = (is_flat reply ≡ true) ⊎ (copy ≡ reply)
CanCopy (Capacity room) reply =
    (is_flat reply ≡ true) ⊎ (FitsCapacity (vec_capacity room) reply × (room.items ≡ []))

-- each reply that an outcome allows takes no memory, or nothing has changed
abbrev pub TakesNoMemory : State → Outcome Reply State → Type 0
TakesNoMemory old outcome =
    (reply : Reply) (new : State) → outcome reply new → (is_flat reply ≡ true) ⊎ (new ≡ old)

-- each reply that an outcome allows takes no memory, or equals the predicted one
abbrev pub Predicts : Outcome Reply State → Reply → Type 0
Predicts outcome copy =
    (reply : Reply) (new : State) → outcome reply new → (is_flat reply ≡ true) ⊎ (copy ≡ reply)

-- each reply that an outcome allows takes no memory, or is a list of terms that take none, for which there is capacity
abbrev pub FitCapacity : Outcome Reply State → ℕ → Type 0
FitCapacity outcome capacity =
    (reply : Reply) (new : State) → outcome reply new
    → (is_flat reply ≡ true) ⊎ FitsCapacity capacity reply

-- the reserved memory suffices for each reply that the outcome allows; with nothing reserved, a reply that takes memory
-- is the reply to a step that changed nothing
abbrev pub Suffices : State → Outcome Reply State → ReplyReserve → Type 0
Suffices old outcome Nothing = TakesNoMemory old outcome
Suffices old outcome (Predicted copy) = Predicts outcome copy
Suffices old outcome (Capacity room) = FitCapacity outcome (vec_capacity room) × (room.items ≡ [])

abbrev pub is_nothing : ReplyReserve → Bool
is_nothing Nothing = true
is_nothing _ = false
