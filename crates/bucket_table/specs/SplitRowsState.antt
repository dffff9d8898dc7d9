-- The model state of `SplitRows`.
use Rattle.std.specs.Prelude.{ℕ, Bool, List, Option, nat_eq, refl}
use Rattle.std.specs.Map.{lookup}
use Rattle.std.specs.Coded.{Coded, code_by, coded×, coded_ℕ, coded_list, coded_bool}
use Rattle.ets_term.specs.declared.term.Term.{Term}
use Rattle.ets_term.specs.contracts.term.Term as term
use Rattle.bucket_table.specs.Slots.{Slot}

-- The hasher, the slots in the order of their places, and the place and key of each. Then the number of slots that
-- can be inserted without an allocation, and for each bucket whether it is ready.
pub record SplitRowsState (H : Type 0) : Type 0 where
  pub hasher : H
  pub slots : List Slot
  pub places : List (ℕ × Term)
  pub room : ℕ
  pub ready : List Bool

-- The key of the slot at a place.
abbrev pub key_of_place : List (ℕ × Term) → ℕ → Option Term
key_of_place places place = lookup (nat_eq place) places

-- The code of a slot, as a tuple of its fields.
abbrev pub slot_code : Coded Slot
slot_code = coded× term.the_row.coded (coded_list term.the_row.coded)

-- The code of the state, as a tuple of its fields.
abbrev pub state_code : {H : Type 0} → Coded H → Coded (SplitRowsState H)
state_code {H} code =
    code_by
    (H × (List Slot × (List (ℕ × Term) × (ℕ × List Bool))))
    (coded× code (coded× (coded_list slot_code)
    (coded× (coded_list (coded× coded_ℕ term.the_row.coded)) (coded× coded_ℕ (coded_list coded_bool)))))
    (λ s. (s.hasher, (s.slots, (s.places, (s.room, s.ready)))))
    (λ p. record { hasher = p.0; slots = p.1.0; places = p.1.1.0; room = p.1.1.1.0; ready = p.1.1.1.1 })
    (λ _. refl)
