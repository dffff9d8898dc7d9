-- Rows with the hashes of their keys.
use Rattle.std.proofs.Common.{◌≡◌, ℕ, List, [], ◌∷◌, map, length, refl, ap}
use Rattle.ets_term.specs.declared.term.Term.{Term}
use Rattle.bucket_table.specs.Slots.{Slot}

-- a row with the hash of its key
abbrev pub hashed : (Term → ℕ) → Slot → ℕ × Slot
hashed hash row = (hash row.0, row)

-- the rows without their hashes
abbrev pub rows_of : List (ℕ × Slot) → List Slot
rows_of hs = map (λ (h : ℕ × Slot). h.1) hs

-- each row has the hash of its key
abbrev pub AreHashed : (Term → ℕ) → List (ℕ × Slot) → Type 0
AreHashed hash hs = hs ≡ map (hashed hash) (rows_of hs)

pub rows-hashed : (hash : Term → ℕ) (rows : List Slot) → rows_of (map (hashed hash) rows) ≡ rows
rows-hashed hash [] = refl
rows-hashed hash (r ∷ rs) = ap (λ l. r ∷ l) (rows-hashed hash rs)

pub are-hashed : (hash : Term → ℕ) (rows : List Slot) → AreHashed hash (map (hashed hash) rows)
are-hashed hash [] = refl
are-hashed hash (r ∷ rs) = ap (λ l. hashed hash r ∷ l) (are-hashed hash rs)

pub first-hash : (hash : Term → ℕ) (h : ℕ × Slot) (hs : List (ℕ × Slot)) → AreHashed hash (h ∷ hs) → h.0 ≡ hash h.1.0
first-hash hash h hs e = let first : h ≡ hashed hash h.1 = cc in ap (λ (p : ℕ × Slot). p.0) first

pub rest-hashed : (hash : Term → ℕ) (h : ℕ × Slot) (hs : List (ℕ × Slot)) → AreHashed hash (h ∷ hs) → AreHashed hash hs
rest-hashed hash h hs e = cc

pub none-left : (hs : List (ℕ × Slot)) → length hs ≡ 0 → hs ≡ []
none-left [] e = refl
none-left (h ∷ hs) e = cc
