-- The queue of tables in ascending order, each once, the dirty table, and the capacity.
use Rattle.std.specs.Prelude.{◌≡◌, ◌<◌, ◌≤◌, ◌⊎◌, ℕ, List, Option, Some, length, get_or, refl}
use Rattle.std.specs.Coded.{Coded, code_by, coded×, coded_ℕ, coded_list, coded_option}

pub record PendingTablesState : Type 0 where
  pub queue : List ℕ
  pub dirty : Option ℕ
  pub capacity : ℕ

abbrev pub pending_tables_code : Coded PendingTablesState
pending_tables_code =
    code_by
    (List ℕ × (Option ℕ × ℕ))
    (coded× (coded_list coded_ℕ) (coded× (coded_option coded_ℕ) coded_ℕ))
    (λ s. (s.queue, (s.dirty, s.capacity)))
    (λ p. record { queue = p.0; dirty = p.1.0; capacity = p.1.1 })
    (λ _. refl)

abbrev pub Ascends : List ℕ → Type 0
Ascends ids = (i j : ℕ) → i < j → j < length ids → get_or ids i 0 < get_or ids j 0

-- an identifier is in the queue
pub record IsAmong (ids : List ℕ) (id : ℕ) : Type 0 where
  pub place : ℕ
  pub inside : place < length ids
  pub here : get_or ids place 0 ≡ id

abbrev pub AreBelow : List ℕ → ℕ → Type 0
AreBelow ids bound = (i : ℕ) → i < length ids → get_or ids i 0 < bound

-- an identifier is in the queue, or is the dirty table
abbrev pub IsIn : PendingTablesState → ℕ → Type 0
IsIn s id = IsAmong s.queue id ⊎ (s.dirty ≡ Some id)

-- there is capacity for all below a bound, which is above this one and those in the queue
pub record HasRoomFor (s : PendingTablesState) (id : ℕ) : Type 0 where
  pub bound : ℕ
  pub below : AreBelow s.queue bound
  pub less : id < bound
  pub room : bound ≤ s.capacity
