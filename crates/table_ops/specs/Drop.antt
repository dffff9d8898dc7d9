-- What deletion does to slots (stdlib manual, module ets, delete/2, delete_object/2, delete_all_objects/1).
use Rattle.std.specs.Prelude.{Bool, true, not, ◌||◌, if◌then◌else◌, List, [], ◌∷◌, filter, Ok, Err}
use Rattle.ets_term.specs.declared.term.Term.{Term}
use Rattle.ets_term.specs.Order.{same}
use Rattle.bucket_table.specs.Slots.{Slot, has_objects, without_tombstones}
use Rattle.table_ops.specs.declared.refusal.Refusal.TheVariants.{Badarg}
use Rattle.table_ops.specs.Content.{Content, key_of}
use Rattle.table_ops.specs.Outcomes.{Change, gives, refuse_none}

-- which objects a deletion removes: a test of the key and the object, true for each removed object
abbrev pub Which : Type 0
Which = Term → Term → Bool

-- the objects of a slot that the deletion does not remove
abbrev pub objects_left : Which → Slot → List Term
objects_left which slot = filter (λ object. not (which slot.0 object)) slot.1

-- the slots after a deletion: if a slot loses its last object, it stays as a tombstone if `hold` is true, else it is
-- removed; a slot that was a tombstone before stays; all other slots keep their remaining objects
abbrev pub after_drop : Bool → Which → List Slot → List Slot
after_drop hold which [] = []
after_drop hold which (slot ∷ slots) =
    if hold || has_objects (objects_left which slot) || not (has_objects slot.1)
    then (slot.0, objects_left which slot) ∷ after_drop hold which slots
    else after_drop hold which slots

-- delete and take remove all objects with this key
abbrev pub has_key : Term → Which
has_key key own object = same key own

-- delete_object removes all objects that equal this object
abbrev pub equal_to : Term → Which
equal_to object own other = same other object

-- delete_all_objects removes all objects
abbrev pub every_object : Which
every_object own object = true

-- the content of a table after a deletion removed these objects; with `hold`, emptied slots stay as tombstones
abbrev pub without_those : Bool → Which → Content → Content
without_those hold which old = record old { slots = after_drop hold which old.slots }

-- the content of a table after all tombstones are removed
abbrev pub without_held : Content → Content
without_held old = record old { slots = without_tombstones old.slots }

-- delete_object(Table, Object): badarg if the term is not an object
abbrev pub DeletesObject : Bool → Term → Content → Change (Unit {0}) Content
DeletesObject hold object old =
    refuse_none old (key_of old.keypos object) (Err Badarg) (λ _.
    gives (Ok tt) (without_those hold (equal_to object) old))
