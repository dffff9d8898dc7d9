-- A state in parts: the objects of each table are in several states, by their keys, and all else is in each of them.
use Rattle.std.specs.Prelude.{◌≡◌, ℕ, ◌+◌, ◌≤◌, List, [], Some, map, option_map, slice_get}
use Rattle.std.specs.List.{AllByRecursion, flat_map, sum_by}
use Rattle.std.specs.Option.{option_map_or}
use Rattle.ets_term.specs.declared.term.Term.{Term}
use Rattle.bucket_table.specs.Slots.{object_count}
use Rattle.table_ops.specs.Invariants.{IsContent}
use Rattle.ownership.specs.World.{Table, Tables, table_at}
use Rattle.node_core.specs.declared.limits.Limits.{Limits}
use Rattle.node_core.specs.State.{State, empty}
use Rattle.node_core.specs.laws.Kept.{slots_in}

-- a table without its objects and its limit of objects
abbrev pub replicated_table : Table → Table
replicated_table table =
    record table { state = record table.state { content = record table.state.content { limit = 0; slots = [] } } }

-- the same for all tables
abbrev pub replicated_tables : Tables → Tables
replicated_tables tables = map (option_map replicated_table) tables

-- what each part has of a state: all but objects and limits of objects
abbrev pub replicated : State → State
replicated s = record {
  limits = record s.limits { objects = 0 };
  world = record s.world { tables = replicated_tables s.world.tables };
}

-- the greatest number of objects in the table with this identifier; 0 if it does not exist
abbrev pub limit_in : ℕ → State → ℕ
limit_in t s = option_map_or (λ table. table.state.content.limit) (table_at s.world.tables t) 0

-- the greatest number of objects in a new table
abbrev pub limit_of_new : State → ℕ
limit_of_new s = s.limits.objects

-- a part has all the room that the whole has left in this table: its limit leaves room for as many objects
abbrev pub HasAllRoom : ℕ → State → State → Type 0
HasAllRoom t whole part =
    limit_in t part + object_count (slots_in t whole) ≡ limit_in t whole + object_count (slots_in t part)

-- the content of each table has the invariant of a table's content, as in each node
abbrev pub HasContents : State → Type 0
HasContents s = (t : ℕ) (table : Table) → table_at s.world.tables t ≡ Some table → IsContent table.state.content

-- a state is part k of the whole: it has all that each part has, and the keys of its slots belong to part k
pub record IsPart (part_of : ℕ → Term → ℕ) (whole : State) (k : ℕ) (part : State) : Type 0 where
  pub same : replicated part ≡ replicated whole
  pub keys : (t : ℕ) → AllByRecursion (λ slot. part_of t slot.0 ≡ k) (slots_in t part)
  pub contents : HasContents part

-- Several states are the parts of the whole; `part_of` says to which part a key of a table belongs, by the identifier of
-- the table. The slots of the whole are those of the parts, one part after another. The limits of objects of the parts
-- add up to at most that of the whole.
pub record ArePartsOf (part_of : ℕ → Term → ℕ) (parts : List State) (whole : State) : Type 0 where
  pub each : (k : ℕ) (part : State) → slice_get parts k ≡ Some part → IsPart part_of whole k part
  pub slots : (t : ℕ) → slots_in t whole ≡ flat_map (slots_in t) parts
  pub limits : (t : ℕ) → sum_by (limit_in t) parts ≤ limit_in t whole
  pub new_limits : sum_by limit_of_new parts ≤ limit_of_new whole

-- no room is lost: the limits of objects of the parts add up to that of the whole, for each table and for a new one
pub record ShareAllRoom (parts : List State) (whole : State) : Type 0 where
  pub tables : (t : ℕ) → sum_by (limit_in t) parts ≡ limit_in t whole
  pub new_tables : sum_by limit_of_new parts ≡ limit_of_new whole

-- an empty part, in which a new table may have this many objects
abbrev pub empty_part : Limits → ℕ → State
empty_part limits room = empty (record limits { objects = room })
