-- Information on a table (stdlib manual, module ets, info/2).
use Rattle.std.specs.Prelude.{ℕ, pos, Bool, true, false, if◌then◌else◌, List, Option, Some, None, codes}
use Rattle.std.specs.Option.{option_and_then}
use Rattle.std.specs.Str.{bytes_eq}
use Rattle.ets_term.specs.declared.term.Term.{Term}
use Rattle.ets_term.specs.declared.term.Term.TheVariants.{Atom, Int, Pid, Tid}
use Rattle.ets_term.specs.Views.{as_atom}
use Rattle.bucket_table.specs.Slots.{object_count}
use Rattle.table_ops.specs.declared.kind.Kind.{Kind}
use Rattle.table_ops.specs.declared.kind.Kind.TheVariants.{Set, Bag, DuplicateBag}
use Rattle.fixed_walk.specs.Fixes.{is_fixed}
use Rattle.ownership.specs.declared.metadata.Heir.{Heir}
use Rattle.ownership.specs.declared.metadata.Protection.{Protection}
use Rattle.ownership.specs.declared.metadata.Protection.TheVariants as protection
use Rattle.ownership.specs.declared.info.InfoItem.{InfoItem}
use Rattle.ownership.specs.declared.info.InfoItem.TheVariants as item
use Rattle.ownership.specs.World.{Table}

-- the item that a word names
abbrev pub word_item : List ℕ → Option InfoItem
word_item word =
    if bytes_eq word (codes "name") then Some item.Name
    else if bytes_eq word (codes "named_table") then Some item.NamedTable
    else if bytes_eq word (codes "owner") then Some item.Owner
    else if bytes_eq word (codes "protection") then Some item.Protection
    else if bytes_eq word (codes "heir") then Some item.Heir
    else if bytes_eq word (codes "id") then Some item.Id
    else if bytes_eq word (codes "size") then Some item.Size
    else if bytes_eq word (codes "type") then Some item.Kind
    else if bytes_eq word (codes "keypos") then Some item.Keypos
    else if bytes_eq word (codes "fixed") then Some item.Fixed
    else None

-- the item that a term names, None if it is not the atom of an item
abbrev pub item_of : Term → Option InfoItem
item_of term = option_and_then word_item (as_atom term)

-- a boolean as an atom
abbrev pub boolean_atom : Bool → Term
boolean_atom true = Atom (codes "true")
boolean_atom false = Atom (codes "false")

-- the word for a protection
abbrev pub protection_atom : Protection → List ℕ
protection_atom protection.Public = codes "public"
protection_atom protection.Protected = codes "protected"
protection_atom protection.Private = codes "private"

-- the word for a kind of table
abbrev pub kind_atom : Kind → List ℕ
kind_atom Set = codes "set"
kind_atom Bag = codes "bag"
kind_atom DuplicateBag = codes "duplicate_bag"

-- the pid of the heir that was set, living or not, or the atom `none`
abbrev pub heir_term : Option Heir → Term
heir_term None = Atom (codes "none")
heir_term (Some heir) = Pid heir.pid

-- the value of an item for the table with this identifier
abbrev pub info_of : InfoItem → ℕ → Table → Term
info_of item.Name t table = Atom table.metadata.name
info_of item.NamedTable t table = boolean_atom table.metadata.named
info_of item.Owner t table = Pid table.metadata.owner
info_of item.Protection t table = Atom (protection_atom table.metadata.protection)
info_of item.Heir t table = heir_term table.metadata.heir
info_of item.Id t table = Tid t
info_of item.Size t table = Int (pos (object_count table.state.content.slots))
info_of item.Kind t table = Atom (kind_atom table.state.content.kind)
info_of item.Keypos t table = Int (pos table.state.content.keypos)
info_of item.Fixed t table = boolean_atom (is_fixed table.state.fixes)
