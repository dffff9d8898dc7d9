-- The content of a table (stdlib manual, module ets, the introduction and new/2).
use Rattle.std.specs.Prelude.{ℕ, Bool, if◌then◌else◌, List, [], Option, Some, None, is_some, unwrap_or, codes}
use Rattle.std.specs.Option.{option_and_then}
use Rattle.ets_term.specs.declared.term.Term.{Term}
use Rattle.ets_term.specs.Atoms.{is_atom}
use Rattle.ets_term.specs.Depth.{element_at}
use Rattle.bucket_table.specs.Slots.{Slot, objects_of, has_objects}
use Rattle.table_ops.specs.declared.kind.Kind.{Kind}

-- the content of a table: its kind, its keypos, `limit`, the greatest number of objects, and its slots
pub record Content : Type 0 where
  pub kind : Kind
  pub keypos : ℕ
  pub limit : ℕ
  pub slots : List Slot

-- the key of an object, None for any other term; an object is a tuple whose element at keypos exists and is not
-- '$end_of_table'
abbrev pub key_of : ℕ → Term → Option Term
key_of keypos object =
    option_and_then (λ key. if is_atom (codes "$end_of_table") key then None else Some key)
    (element_at keypos object)

-- whether a term is an object of a table with this keypos
abbrev pub is_object : ℕ → Term → Bool
is_object keypos term = is_some (key_of keypos term)

-- the objects of a key, oldest first; none if it has no slot
abbrev pub objects_under : List Slot → Term → List Term
objects_under slots key = unwrap_or (objects_of slots key) []

-- whether a key has objects
abbrev pub is_present : List Slot → Term → Bool
is_present slots key = has_objects (objects_under slots key)
