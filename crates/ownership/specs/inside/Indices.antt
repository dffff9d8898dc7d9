-- The indices over the tables: by name, by owner until the owner ends, and those that may be fixed.
use Rattle.std.specs.Prelude.{◌≡◌, ◌≤◌, ◌<◌, ◌⊎◌, ℕ, suc, ◌==◌, Bool, true, false, if◌then◌else◌, List, [], ◌∷◌, Option, Some, length, vec_capacity}
use Rattle.std.specs.Option.{option_map_or}
use Rattle.std.specs.Map.{lookup}
use Rattle.indexmap.specs.IndexMap.{get_by_text}
use Rattle.fixed_walk.specs.Fixes.{is_fixed}
use Rattle.fixed_walk.specs.TableState.{TableState}
use Rattle.fixed_walk.specs.Invariants.{HasNoTombstones}
use Rattle.ownership.specs.declared.metadata.Metadata.{Metadata}
use Rattle.ownership.specs.declared.metadata.Heir.{Heir}
use Rattle.ownership.specs.declared.indices.Indices.{Indices}
use Rattle.ownership.specs.World.{Table, Tables, Processes, table_at, all_metadata}
use Rattle.ownership.specs.End.{living_heir}
use Rattle.ownership.specs.inside.Names.{metadata_at, NameIndexIsExact}

abbrev pub IsAmong : ℕ → List ℕ → Type 0
IsAmong t [] = ⊥
IsAmong t (id ∷ ids) = (t ≡ id) ⊎ IsAmong t ids

-- the identifiers ascend, from `low` on and below `high`
abbrev pub AscendsBetween : ℕ → ℕ → List ℕ → Type 0
AscendsBetween low high [] = low ≤ high
AscendsBetween low high (id ∷ ids) = (low ≤ id) × AscendsBetween (suc id) high ids

-- an identifier is inserted in ascending order
pub record InsertsInOrder (old : List ℕ) (id : ℕ) (new : List ℕ) : Type 0 where
  pub here : IsAmong id new
  pub more : (t : ℕ) → IsAmong t old → IsAmong t new
  pub order : (low high : ℕ) → low ≤ id → id < high → AscendsBetween low high old → AscendsBetween low high new

-- the identifiers under an owner
abbrev pub ids_under : Indices → ℕ → List ℕ
ids_under indices p =
    option_map_or (λ ids. ids.items) (lookup (λ q. p == q) indices.owned.entries) []

-- the identifiers under each owner ascend
abbrev pub EachAscends : (ℕ → List ℕ) → Type 0
EachAscends owned = (p : ℕ) → AscendsBetween 0 4294967296 (owned p)

-- all tables of an owner are under it, and perhaps others
abbrev pub OwnerIndexCovers : (ℕ → List ℕ) → List (Option Metadata) → Type 0
OwnerIndexCovers owned hs = (t : ℕ) (metadata : Metadata) → metadata_at hs t ≡ Some metadata → IsAmong t (owned metadata.owner)

-- all tables of an owner are among these
abbrev pub CoversTablesOf : List ℕ → ℕ → Tables → Type 0
CoversTablesOf ids p tables =
    (t : ℕ) (table : Table) → table_at tables t ≡ Some table
    → (table.metadata.owner == p) ≡ true → IsAmong t ids

-- more tables may be under owners, and nothing else changes
pub record AddsUnderOwners (old new : Indices) : Type 0 where
  pub rest : new ≡ record old { owned = new.owned }
  pub more : (p t : ℕ) → IsAmong t (ids_under old p) → IsAmong t (ids_under new p)
  pub order : EachAscends (ids_under old) → EachAscends (ids_under new)

-- no table is under this owner any more, and nothing else changes
pub record RemovesOwner (owner : ℕ) (old new : Indices) : Type 0 where
  pub rest : new ≡ record old { owned = new.owned }
  pub gone : (p : ℕ) → ids_under new p ≡ if owner == p then [] else ids_under old p

-- the table is under its heir, if the heir lives
abbrev pub HeirIsIndexed : Indices → Processes → Tables → ℕ → Type 0
HeirIsIndexed indices processes tables t =
    (table : Table) (heir : Heir) → table_at tables t ≡ Some table
    → living_heir processes table.metadata ≡ Some heir → IsAmong t (ids_under indices heir.pid)

-- each of these tables is under its living heir
abbrev pub HeirsAreIndexed : Indices → Processes → Tables → List ℕ → Type 0
HeirsAreIndexed indices processes tables ids =
    (t : ℕ) (table : Table) (heir : Heir) → IsAmong t ids → table_at tables t ≡ Some table
    → living_heir processes table.metadata ≡ Some heir → IsAmong t (ids_under indices heir.pid)

-- each table of an owner is under its living heir
abbrev pub HeirsOfOwnerAreIndexed : Indices → Processes → ℕ → Tables → Type 0
HeirsOfOwnerAreIndexed indices processes p tables =
    (t : ℕ) (table : Table) (heir : Heir) → table_at tables t ≡ Some table
    → (table.metadata.owner == p) ≡ true
    → living_heir processes table.metadata ≡ Some heir → IsAmong t (ids_under indices heir.pid)

-- no process fixes the table, and it has no tombstones
abbrev pub IsUnfixed : TableState → Type 0
IsUnfixed table = (is_fixed table.fixes ≡ false) × HasNoTombstones table.content.slots

-- a table exists and is fixed
abbrev pub is_fixed_at : Tables → ℕ → Bool
is_fixed_at tables t = option_map_or (λ table. is_fixed table.state.fixes) (table_at tables t) false

-- the identifiers ascend, and each table that is not among them is idle, except the dirty one
pub record FixedAreListed (ids : List ℕ) (dirty : Option ℕ) (tables : Tables) : Type 0 where
  pub order : AscendsBetween 0 (length tables) ids
  pub each : (t : ℕ) (table : Table) → table_at tables t ≡ Some table
      → (dirty ≡ Some t) ⊎ IsAmong t ids ⊎ IsUnfixed table.state

-- the invariant of the indices over these tables
pub record IndicesInvariant (indices : Indices) (tables : Tables) : Type 0 where
  pub few : length tables < 4294967296
  pub room : length tables ≤ vec_capacity indices.fixed
  pub by_name : NameIndexIsExact (get_by_text indices.names) (all_metadata tables)
  pub by_owner : OwnerIndexCovers (ids_under indices) (all_metadata tables)
  pub order : EachAscends (ids_under indices)
  pub listed : FixedAreListed indices.fixed.items indices.dirty tables
