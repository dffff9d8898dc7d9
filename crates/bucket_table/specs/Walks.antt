-- A traversal of the slots from place to place.
use Rattle.std.specs.Prelude.{◌≡◌, ℕ, List, [], ◌∷◌, Option, Some, None, IsSome}
use Rattle.ets_term.specs.declared.term.Term.{Term}
use Rattle.bucket_table.specs.Slots.{Slot, objects_of, slots_behind}

-- The first of these slots is at this place.
pub record IsFirstAt (key_at : ℕ → Option Term) (slots : List Slot) (place : ℕ) : Type 0 where
  pub slot : Slot
  pub rest : List Slot
  pub is : slots ≡ slot ∷ rest
  pub key : key_at place ≡ Some slot.0

-- The place of the first of these slots. `None` if there are no slots.
abbrev pub IsFirstPlace : (ℕ → Option Term) → List Slot → Option ℕ → Type 0
IsFirstPlace key_at slots None = slots ≡ []
IsFirstPlace key_at slots (Some place) = IsFirstAt key_at slots place

-- The slots after the slot of this key. `None` if there is no key, or if it has no slot.
abbrev pub behind_in : List Slot → Option Term → Option (List Slot)
behind_in slots None = None
behind_in slots (Some key) = slots_behind slots key

-- The place of the first slot after the slot of this key. `None` if that slot is the last.
pub record IsNextPlace (key_at : ℕ → Option Term) (slots : List Slot)
    (key : Option Term) (next : Option ℕ) : Type 0 where
  pub rest : List Slot
  pub is : behind_in slots key ≡ Some rest
  pub first : IsFirstPlace key_at rest next

-- The slot of one key is before that of another.
pub record ComesBefore (slots : List Slot) (first second : Term) : Type 0 where
  pub rest : List Slot
  pub is : slots_behind slots first ≡ Some rest
  pub has : IsSome (objects_of rest second)
