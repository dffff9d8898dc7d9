-- The number of nodes that a search for a key visits.
use Rattle.std.specs.Prelude.{◌≡◌, ℕ, ◌+◌, ◌%◌, ◌≤◌, Bool, true, false, List, None, IsSome, length, get_or, count_by, nat_eq}
use Rattle.ets_term.specs.declared.term.Term.{Term}
use Rattle.node_list.specs.Ticks.{ticks}
use Rattle.bucket_table.specs.Slots.{Slot, objects_of}

-- The number of keys of slots with this hash.
abbrev pub hash_keys : (Term → ℕ) → ℕ → List Slot → ℕ
hash_keys hash_of hash slots = count_by (λ slot. nat_eq (hash_of slot.0) hash) slots

-- The number of keys of slots in bucket `bucket` of `size`.
abbrev pub bucket_keys : (Term → ℕ) → ℕ → ℕ → List Slot → ℕ
bucket_keys hash_of size bucket slots = count_by (λ slot. nat_eq (hash_of slot.0 % size) bucket) slots

-- The number of nodes that a search for a key visits and counts. If the key has a slot, it is at least 1; if not, at
-- least the number of keys with the same hash. If its bucket is ready, it is at most the number of keys of the bucket,
-- plus 2.
pub record HasLooked (hash_of : Term → ℕ) (slots : List Slot) (ready : List Bool)
    (key : Term) (old new : ℕ) : Type 0 where
  pub nodes : ℕ
  pub ticked : new ≡ ticks nodes old
  pub present : IsSome (objects_of slots key) → 1 ≤ nodes
  pub absent : objects_of slots key ≡ None → hash_keys hash_of (hash_of key) slots ≤ nodes
  pub bound : get_or ready (hash_of key % length ready) false ≡ true
      → nodes ≤ bucket_keys hash_of (length ready) (hash_of key % length ready) slots + 2
