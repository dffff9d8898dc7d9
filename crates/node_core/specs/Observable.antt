-- The observable state: all that calls can observe. That excludes how many buckets a table has, and which are ready.
use Rattle.std.specs.Prelude.{◌≡◌, ℕ, Some, map, option_map}
use Rattle.fixed_walk.specs.TableState.{TableState}
use Rattle.ownership.specs.World.{Table, Tables, table_at}
use Rattle.node_core.specs.State.{State}
use Rattle.node_core.specs.rules.Tables.{first_buckets}

-- a table's content and fixes, with the buckets of a new table in place of its own
abbrev pub observable_table_state : TableState → TableState
observable_table_state state = record state { buckets = first_buckets }

-- the same for a table with its metadata
abbrev pub observable_table : Table → Table
observable_table table = record table { state = observable_table_state table.state }

-- the same for all tables
abbrev pub observable_tables : Tables → Tables
observable_tables tables = map (option_map observable_table) tables

-- the state with the buckets of a new table in each table; all else is unchanged
abbrev pub observable : State → State
observable s = record s { world = record s.world { tables = observable_tables s.world.tables } }

-- each table that is in both states has as many buckets as before, of which the same are ready
abbrev pub KeepsBuckets : State → State → Type 0
KeepsBuckets old new =
    (t : ℕ) (was table : Table) → table_at old.world.tables t ≡ Some was
    → table_at new.world.tables t ≡ Some table → table.state.buckets ≡ was.state.buckets
