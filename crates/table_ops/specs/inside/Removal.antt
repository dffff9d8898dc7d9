-- What private calls of a deletion do to the slot of a key.
use Rattle.std.specs.Prelude.{◌≡◌, ℕ, ◌+◌, Bool, not, ◌||◌, if◌then◌else◌, List, [], Some, length}
use Rattle.ets_term.specs.declared.term.Term.{Term}
use Rattle.node_list.specs.Chains.{all_but}
use Rattle.bucket_table.specs.Slots.{Slot, objects_of, with_objects, has_objects}
use Rattle.bucket_table.specs.Rows.{without}

-- the slots after the slot of a key, which had `objects`, keeps only `kept`
abbrev pub after_removal : Bool → List Slot → Term → List Term → List Term → List Slot
after_removal hold slots key objects kept =
    if hold || has_objects kept || not (has_objects objects)
    then with_objects slots key kept
    else without slots key

-- all `count` objects of the slot of a key are deleted
pub record DeletesObjects (hold : Bool) (old : List Slot) (key : Term) (count : ℕ) (new : List Slot) : Type 0 where
  pub objects : List Term
  pub had : objects_of old key ≡ Some objects
  pub now : new ≡ after_removal hold old key objects []
  pub counted : length objects ≡ count

-- all `count` instances of an object are removed from the slot of a key
pub record RemovesObject (hold : Bool) (old : List Slot) (key object : Term)
    (count : ℕ) (new : List Slot) : Type 0 where
  pub objects : List Term
  pub had : objects_of old key ≡ Some objects
  pub now : new ≡ after_removal hold old key objects (all_but object objects)
  pub counted : length (all_but object objects) + count ≡ length objects
