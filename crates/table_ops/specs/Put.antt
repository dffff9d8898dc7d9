-- What insertion does to a content (stdlib manual, module ets, insert/2 and insert_new/2).
use Rattle.std.specs.Prelude.{◌≡◌, ℕ, nat_lt, Bool, true, false, if◌then◌else◌, List, [], ◌∷◌, ◌++◌, Some, MatchOption, Ok, Err}
use Rattle.std.specs.Bool.{MatchBool}
use Rattle.std.specs.List.{list_any, list_all}
use Rattle.std.specs.Option.{option_map_or}
use Rattle.ets_term.specs.declared.term.Term.{Term}
use Rattle.ets_term.specs.Depth.{is_too_deep}
use Rattle.ets_term.specs.Order.{same}
use Rattle.bucket_table.specs.Slots.{Slot, objects_of, with_objects, Enters, object_count}
use Rattle.table_ops.specs.declared.kind.Kind.{Kind}
use Rattle.table_ops.specs.declared.kind.Kind.TheVariants.{Set, Bag, DuplicateBag}
use Rattle.table_ops.specs.declared.refusal.Refusal.TheVariants.{Badarg, SystemLimit}
use Rattle.table_ops.specs.Content.{Content, key_of, is_object, objects_under, is_present}
use Rattle.table_ops.specs.Outcomes.{Change, gives, refuse}

-- the objects of a key after an insertion: a set replaces its object; a bag changes nothing if it has an equal object;
-- else the object is appended
abbrev pub add : Kind → List Term → Term → List Term
add Set objects object = object ∷ []
add Bag objects object = if list_any (same object) objects then objects else objects ++ object ∷ []
add DuplicateBag objects object = objects ++ object ∷ []

-- a key gets these objects: in its slot, which may be a tombstone, or in a new slot at some position
abbrev pub SetsObjects : List Slot → Term → List Term → List Slot → Type 0
SetsObjects old key objects new =
    MatchOption (objects_of old key) (Enters old key objects new) (λ _.
    new ≡ with_objects old key objects)

-- an object with this key is inserted
abbrev pub Puts : Kind → List Slot → Term → Term → List Slot → Type 0
Puts kind old key object new = SetsObjects old key (add kind (objects_under old key) object) new

-- objects are inserted one after another
abbrev pub PutsAll : Kind → ℕ → List Slot → List Term → List Slot → Type 0
PutsAll kind keypos old [] new = new ≡ old
PutsAll kind keypos old (object ∷ objects) new =
    (key : Term) × (key_of keypos object ≡ Some key)
    × ((next : List Slot) × Puts kind old key object next × PutsAll kind keypos next objects new)

-- all objects are inserted; system limit if one is too deep, or if the table would pass its limit
abbrev pub InsertsWithinLimit : {X : Type 0} → X → List Term → Content → Change X Content
InsertsWithinLimit done objects old =
    refuse old (list_any is_too_deep objects) (Err SystemLimit) (λ r new.
    (slots : List Slot) × PutsAll old.kind old.keypos old.slots objects slots
    × refuse old (nat_lt old.limit (object_count slots)) (Err SystemLimit) (
    gives (Ok done) (record old { slots = slots })) r new)

-- insert(Table, Objects): badarg if one of them is not an object
abbrev pub Inserts : List Term → Content → Change (Unit {0}) Content
Inserts objects old r new =
    MatchBool (list_all (is_object old.keypos) objects)
    (InsertsWithinLimit tt objects old r new)
    (gives (Err Badarg) old r new)

-- whether the table has objects with the key of this object
abbrev pub is_taken : ℕ → List Slot → Term → Bool
is_taken keypos slots object = option_map_or (is_present slots) (key_of keypos object) false

-- insert_new(Table, Objects): badarg if one of them is not an object; false, and nothing inserted, if the table has
-- objects with one of their keys
abbrev pub InsertsNew : List Term → Content → Change Bool Content
InsertsNew objects old r new =
    MatchBool (list_all (is_object old.keypos) objects)
    (MatchBool (list_any (is_taken old.keypos old.slots) objects)
    (gives (Ok false) old r new)
    (InsertsWithinLimit true objects old r new))
    (gives (Err Badarg) old r new)
