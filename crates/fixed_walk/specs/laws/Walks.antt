-- Exact traversals: the calls first, next(k1), .., next(km) at one moment after another, each with the slots that the
-- table has at that moment.
use Rattle.std.specs.Prelude.{◌≡◌, true, List, [], ◌∷◌, Option, Some, None}
use Rattle.std.specs.List.{AllByRecursion, IsDistinct, Contains}
use Rattle.std.specs.Map.{keys_of}
use Rattle.ets_term.specs.declared.term.Term.{Term}
use Rattle.ets_term.specs.Order.{same}
use Rattle.bucket_table.specs.Slots.{Slot}
use Rattle.bucket_table.specs.Rows.{HasDistinctKeys}
use Rattle.table_ops.specs.Content.{is_present}
use Rattle.fixed_walk.specs.Walk.{first_key, next_key}
use Rattle.fixed_walk.specs.laws.Kept.{IsSubsequence}

-- the slots at the moments of a traversal: no key has two slots, and all keys of a moment are keys of the next moment,
-- in the same order
abbrev pub MomentsKeepKeys : List (List Slot) → Type 0
MomentsKeepKeys [] = Unit {0}
MomentsKeepKeys (slots ∷ []) = HasDistinctKeys slots
MomentsKeepKeys (slots ∷ next ∷ later) =
    HasDistinctKeys slots × IsSubsequence (keys_of slots) (keys_of next) × MomentsKeepKeys (next ∷ later)

-- the answer of a call of a traversal: of first, or of next with the previous key
abbrev pub walk_answer : Option Term → List Slot → Option (Option Term)
walk_answer None slots = Some (first_key slots)
walk_answer (Some key) slots = next_key slots key

-- the calls of a traversal, one at each moment, answer these keys, and the last call answers that there is no further
-- key
abbrev pub IsWalk : Option Term → List (List Slot) → List Term → Type 0
IsWalk before [] keys = ⊥
IsWalk before (slots ∷ later) [] = (walk_answer before slots ≡ Some None) × (later ≡ [])
IsWalk before (slots ∷ later) (key ∷ keys) =
    (walk_answer before slots ≡ Some (Some key)) × IsWalk (Some key) later keys

-- an exact traversal: no key is answered twice, and each key that has objects at every moment is answered
pub record IsWholeOverSlots (moments : List (List Slot)) (keys : List Term) : Type 0 where
  pub once : IsDistinct same keys
  pub all : (key : Term) → AllByRecursion (λ slots. is_present slots key ≡ true) moments
      → Contains keys key

-- if the slots keep their keys from each moment to the next, each traversal is exact
abbrev pub SlotWalksAreWhole : Type 0
SlotWalksAreWhole =
    (moments : List (List Slot)) (keys : List Term) → MomentsKeepKeys moments → IsWalk None moments keys
    → IsWholeOverSlots moments keys
