-- Processes and tables, and which table a term names (stdlib manual, module ets).
use Rattle.std.specs.Prelude.{ℕ, ◌==◌, ◌&&◌, Bool, false, List, [], Option, Some, None, map, option_map, position, slice_set, slice_index_or}
use Rattle.std.specs.Option.{option_map_or}
use Rattle.std.specs.Map.{lookup}
use Rattle.std.specs.Str.{bytes_eq}
use Rattle.ets_term.specs.declared.term.Term.{Term, out-Term}
use Rattle.ets_term.specs.declared.term.Term.TheOpen.{Term-F}
use Rattle.fixed_walk.specs.TableState.{TableState}
use Rattle.ownership.specs.declared.metadata.Metadata.{Metadata}
use Rattle.ownership.specs.declared.process.Process.{Process}

-- a table: its metadata, and `state`, the state of the table (content, ready buckets and fixes), whether or not a
-- process fixes it
pub record Table : Type 0 where
  pub metadata : Metadata
  pub state : TableState

-- The tables ever made, in order of creation. The index of a table is its identifier; a deleted table leaves None.
abbrev pub Tables : Type 0
Tables = List (Option Table)

-- the processes ever enrolled, in order, each with its number
abbrev pub Processes : Type 0
Processes = List (ℕ × Process)

-- the greatest numbers of processes and tables that can ever be made, and all that were ever made
pub record World : Type 0 where
  pub max_processes : ℕ
  pub max_tables : ℕ
  pub processes : Processes
  pub tables : Tables

-- the world without processes and tables
abbrev pub empty : ℕ → ℕ → World
empty processes tables =
    record { max_processes = processes; max_tables = tables; processes = []; tables = [] }

-- the process with this number, living or ended; None if it was never enrolled
abbrev pub process_at : Processes → ℕ → Option Process
process_at processes p = lookup (λ q. p == q) processes

-- whether a process was enrolled and has not ended
abbrev pub lives : Processes → ℕ → Bool
lives processes p = option_map_or (λ process. process.lives) (process_at processes p) false

-- the table with this identifier; None if it was never made or is deleted
abbrev pub table_at : Tables → ℕ → Option Table
table_at tables t = slice_index_or tables t None

-- the metadata of a table, None if it does not exist
abbrev pub metadata_of : Option Table → Option Metadata
metadata_of table = option_map (λ t. t.metadata) table

-- the metadata of all tables, by identifier; None for each deleted table
abbrev pub all_metadata : Tables → List (Option Metadata)
all_metadata tables = map metadata_of tables

-- whether a table exists, is named and has this name
abbrev pub is_named : List ℕ → Option Metadata → Bool
is_named name None = false
is_named name (Some metadata) = metadata.named && bytes_eq name metadata.name

-- the identifier of the named table with this name, None if there is none
abbrev pub whereis : Tables → List ℕ → Option ℕ
whereis tables name = position (is_named name) (all_metadata tables)

-- the identifier of the table that a term names, by the first level of the term
abbrev pub resolve_form : Tables → Term-F Term → Option ℕ
resolve_form tables (Term-F.Tid t) = option_map (λ _. t) (table_at tables t)
resolve_form tables (Term-F.Atom name) = whereis tables name
resolve_form tables _ = None

-- the identifier of the table that a term names: the identifier of a table, or the name of a named table
abbrev pub resolve : Tables → Term → Option ℕ
resolve tables term = resolve_form tables (out-Term term)

-- the tables after a change of the table with this identifier, if it exists
abbrev pub with_changed : (Table → Table) → Tables → ℕ → Tables
with_changed change tables t = slice_set tables t (option_map change (table_at tables t))

-- the tables after the state of the table with this identifier is changed
abbrev pub with_state : Tables → ℕ → TableState → Tables
with_state tables t state = with_changed (λ table. record table { state = state }) tables t
