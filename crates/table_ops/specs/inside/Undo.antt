-- What private calls of an insertion do, and what it does to undo one.
use Rattle.std.specs.Prelude.{◌≡◌, ℕ, ◌+◌, ◌-◌, ◌<◌, ◌≤◌, Bool, false, List, [], ◌∷◌, length, take, unwrap_or, Option, Some, None, Result, Ok, Err}
use Rattle.ets_term.specs.declared.term.Term.{Term}
use Rattle.bucket_table.specs.Slots.{Slot, with_objects, object_count}
use Rattle.bucket_table.specs.Rows.{without}
use Rattle.table_ops.specs.declared.kind.Kind.{Kind}
use Rattle.table_ops.specs.declared.refusal.Refusal.{Refusal}
use Rattle.table_ops.specs.declared.refusal.Refusal.TheVariants.{Badarg, SystemLimit, Memory}
use Rattle.table_ops.specs.declared.undo.Undo.{Undo}
use Rattle.table_ops.specs.declared.undo.Undo.TheVariants.{NewSlot, Objects, LastObject, Nothing}
use Rattle.table_ops.specs.Content.{key_of, objects_under}
use Rattle.table_ops.specs.Put.{add, Puts, PutsAll}

-- the key exists, and P holds for it
abbrev pub ForKey : Option Term → (Term → Type 0) → Type 0
ForKey None P = ⊥
ForKey (Some key) P = P key

-- all objects but the last
abbrev pub but_last : List Term → List Term
but_last objects = take (length objects - 1) objects

-- the slots after an insertion under a key is undone
abbrev pub after_undo : Undo → Term → List Slot → List Slot
after_undo NewSlot key slots = without slots key
after_undo (Objects objects) key slots = with_objects slots key objects
after_undo LastObject key slots = with_objects slots key (but_last (objects_under slots key))
after_undo Nothing key slots = slots

abbrev pub added_to : List Term → ℕ
added_to [] = 1
added_to (object ∷ objects) = 0

-- by how many objects an insertion made the table grow
abbrev pub added_objects : Undo → ℕ
added_objects NewSlot = 1
added_objects (Objects objects) = added_to objects
added_objects LastObject = 1
added_objects Nothing = 0

-- the slots after insertions are undone, the last one first; the log belongs to the first of these objects
abbrev pub after_roll_back : ℕ → List Undo → List Term → List Slot → List Slot
after_roll_back keypos [] objects slots = slots
after_roll_back keypos (undo ∷ undos) [] slots = slots
after_roll_back keypos (undo ∷ undos) (object ∷ objects) slots =
    after_undo undo (unwrap_or (key_of keypos object) object) (after_roll_back keypos undos objects slots)

-- one object is inserted; `below_limit` says whether one more object is allowed
abbrev pub PutsOne : Bool → Kind → Term → Term → List Slot → Result Undo Refusal
    → List Slot → Type 0
PutsOne below_limit kind key object old (Ok undo) new =
    Puts kind old key object new × (after_undo undo key new ≡ old)
    × (object_count new ≡ object_count old + added_objects undo) × (below_limit ≡ false → added_objects undo ≡ 0)
PutsOne below_limit kind key object old (Err Badarg) new = ⊥
PutsOne below_limit kind key object old (Err SystemLimit) new =
    (new ≡ old) × (below_limit ≡ false)
    × (length (add kind (objects_under old key) object) ≡ length (objects_under old key) + 1)
PutsOne below_limit kind key object old (Err Memory) new = new ≡ old

-- one object is inserted into the slot at a place, whose key this is
abbrev pub PutsAt : Bool → Kind → Option Term → Term → List Slot → Result Undo Refusal
    → List Slot → Type 0
PutsAt below_limit kind at object old r new = ForKey at (λ key. PutsOne below_limit kind key object old r new)

-- one object is inserted under its own key
abbrev pub PutsObject : Bool → Kind → ℕ → Term → List Slot → Result Undo Refusal
    → List Slot → Type 0
PutsObject below_limit kind keypos object old r new =
    PutsAt below_limit kind (key_of keypos object) object old r new

-- all objects are inserted, and the result is how many objects the table has then
abbrev pub PutsEach : ℕ → Kind → ℕ → List Term → List Slot → Result ℕ Refusal → List Slot → Type 0
PutsEach limit kind keypos objects old (Ok count) new =
    PutsAll kind keypos old objects new × (count ≡ object_count new) × (count ≤ limit)
PutsEach limit kind keypos objects old (Err Badarg) new = ⊥
PutsEach limit kind keypos objects old (Err SystemLimit) new =
    (new ≡ old)
    × ((slots : List Slot) × PutsAll kind keypos old objects slots × (limit < object_count slots))
PutsEach limit kind keypos objects old (Err Memory) new = new ≡ old
