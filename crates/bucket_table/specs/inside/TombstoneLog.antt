-- The logged hashes of tombstones, by which a purge finds them without a scan.
use Rattle.std.specs.Prelude.{◌≡◌, ◌⊎◌, ℕ, Bool, true, false, List, [], ◌∷◌}
use Rattle.ets_term.specs.declared.term.Term.{Term}
use Rattle.bucket_table.specs.Slots.{Slot, has_objects}

-- The hash is one of these.
abbrev pub IsAmong : ℕ → List ℕ → Type 0
IsAmong hash [] = ⊥
IsAmong hash (h ∷ hs) = (h ≡ hash) ⊎ IsAmong hash hs

-- Each tombstone has one of these hashes.
abbrev pub TombstonesAreAmong : (Term → ℕ) → List ℕ → List Slot → Type 0
TombstonesAreAmong hash_of hashes [] = Unit {0}
TombstonesAreAmong hash_of hashes (slot ∷ slots) =
    (has_objects slot.1 ≡ false → IsAmong (hash_of slot.0) hashes) × TombstonesAreAmong hash_of hashes slots

-- The invariant of a tombstone log: unless it overflowed, it has the hashes of all tombstones.
abbrev pub LogInvariant : (Term → ℕ) → Bool → List ℕ → List Slot → Type 0
LogInvariant hash_of overflowed hashes slots = overflowed ≡ false → TombstonesAreAmong hash_of hashes slots

-- Logging keeps the old hashes, and adds the new one if the slot is a tombstone, unless the log overflows.
abbrev pub LogsHash : Bool → ℕ → Bool → List ℕ → Bool → List ℕ → Type 0
LogsHash is_tombstone hash had_overflowed old overflowed new =
    overflowed ≡ false → (had_overflowed ≡ false)
    × ((h : ℕ) → IsAmong h old → IsAmong h new)
    × (is_tombstone ≡ true → IsAmong hash new)
