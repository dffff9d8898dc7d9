-- Delete plans: the slots that lose objects, and the slots after a plan is executed.
use Rattle.std.specs.Prelude.{ℕ, nat_lt, Bool, not, ◌||◌, if◌then◌else◌, List, [], ◌∷◌, Option, Some, None, is_some, filter, map}
use Rattle.std.specs.Prelude.{◌≡◌, true, false}
use Rattle.ets_term.specs.Order.{same}
use Rattle.std.specs.List.{AllByRecursion}
use Rattle.ets_term.specs.declared.term.Term.{Term}
use Rattle.ets_term.specs.Depth.{element_at}
use Rattle.bucket_table.specs.Slots.{Slot, with_objects, has_objects}
use Rattle.bucket_table.specs.Rows.{without}
use Rattle.bucket_table.specs.Walks.{ComesBefore}
use Rattle.table_ops.specs.declared.delete_plan.SlotDelete.{SlotDelete}
use Rattle.table_ops.specs.declared.partition.Partition.{Partition}
use Rattle.table_ops.specs.Results.{chosen_count}

-- a test holds only of objects with the bound key
abbrev pub RequiresKey : ℕ → Option Term → (Term → Bool) → Type 0
RequiresKey keypos None test = Unit {0}
RequiresKey keypos (Some key) test =
    (object : Term) → test object ≡ true → element_at keypos object ≡ Some key

-- a test holds of no object in slots of other keys than the bound key
abbrev pub MatchesOnlyKey : (Term → Bool) → Option Term → List Slot → Type 0
MatchesOnlyKey test None slots = Unit {0}
MatchesOnlyKey test (Some key) slots =
    AllByRecursion (λ slot. same key slot.0 ≡ false → chosen_count test slot.1 ≡ 0) slots

-- the objects that are not chosen
abbrev pub objects_kept : (Term → Bool) → List Term → List Term
objects_kept choose objects = filter (λ object. not (choose object)) objects

-- the kept objects as a plan stores them: none unless some are removed
abbrev pub kept_of : Bool → (Term → Bool) → List Term → List Term
kept_of some choose objects = if some then objects_kept choose objects else []

-- `removed` of these objects are chosen, and `kept` are the others if some are chosen
pub record ArePartitioned (choose : Term → Bool) (objects : List Term)
    (removed : ℕ) (kept : List Term) : Type 0 where
  pub counted : removed ≡ chosen_count choose objects
  pub stay : kept ≡ kept_of (nat_lt 0 removed) choose objects

-- a partition is that of these objects
abbrev pub IsPartition : (Term → Bool) → List Term → Partition → Type 0
IsPartition choose objects partition = ArePartitioned choose objects partition.removed partition.kept

-- the key of a slot that loses objects, and the objects that stay
abbrev pub PlannedSlot : Type 0
PlannedSlot = Option Term × List Term

-- the plan for one slot
abbrev pub plan_of_slot : (Term → Bool) → Slot → List PlannedSlot
plan_of_slot choose slot =
    if nat_lt 0 (chosen_count choose slot.1) then (Some slot.0, objects_kept choose slot.1) ∷ [] else []

abbrev pub plan_with_slot : Bool → Slot → (Term → Bool) → List PlannedSlot → List PlannedSlot
plan_with_slot some slot choose plan = if some then (Some slot.0, objects_kept choose slot.1) ∷ plan else plan

-- the plan for all slots
abbrev pub plan_of : (Term → Bool) → List Slot → List PlannedSlot
plan_of choose [] = []
plan_of choose (slot ∷ slots) =
    plan_with_slot (nat_lt 0 (chosen_count choose slot.1)) slot choose (plan_of choose slots)

-- the plan of these slot deletes
abbrev pub plan_at : (ℕ → Option Term) → List SlotDelete → List PlannedSlot
plan_at key_at plan = map (λ delete. (key_at delete.place, delete.kept)) plan

-- the slots after one slot keeps only these objects
abbrev pub with_kept : Bool → Option Term → List Term → List Slot → List Slot
with_kept hold None kept slots = slots
with_kept hold (Some key) kept slots =
    if hold || has_objects kept then with_objects slots key kept else without slots key

-- the slots after a plan is executed, the last slot first
abbrev pub after_plan : Bool → List PlannedSlot → List Slot → List Slot
after_plan hold [] slots = slots
after_plan hold (n ∷ plan) slots = with_kept hold n.0 n.1 (after_plan hold plan slots)

abbrev pub IsBefore : List Slot → Option Term → Option Term → Type 0
IsBefore slots None second = ⊥
IsBefore slots (Some first) None = ⊥
IsBefore slots (Some first) (Some second) = ComesBefore slots first second

-- all slots before a place keep their places
abbrev pub KeepsPlacesBefore : List Slot → (ℕ → Option Term) → (ℕ → Option Term) → ℕ → Type 0
KeepsPlacesBefore slots old new place =
    (other : ℕ) → IsBefore slots (old other) (old place) → new other ≡ old other

-- the slots of a plan exist and are in the order of the table
abbrev pub AreInOrder : List Slot → List PlannedSlot → Type 0
AreInOrder slots [] = Unit {0}
AreInOrder slots (n ∷ plan) =
    (is_some n.0 ≡ true) × AllByRecursion (λ m. IsBefore slots n.0 m.0) plan × AreInOrder slots plan
