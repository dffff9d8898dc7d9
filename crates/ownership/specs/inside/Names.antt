-- The index by name. It depends on metadata alone.
use Rattle.std.specs.Prelude.{◌≡◌, ◌↔◌, ℕ, true, List, Option, Some, None, IsTrue, position, slice_index_or}
use Rattle.ownership.specs.declared.metadata.Metadata.{Metadata}
use Rattle.ownership.specs.World.{Tables, is_named, whereis}

abbrev pub metadata_at : List (Option Metadata) → ℕ → Option Metadata
metadata_at hs t = slice_index_or hs t None

-- if the table is to be named, its name is free
abbrev pub IsNameFree : Tables → Metadata → Type 0
IsNameFree tables metadata = IsTrue metadata.named → whereis tables metadata.name ≡ None

-- the index finds a table by a name exactly if the table has this name
abbrev pub NameIndexIsExact : (List ℕ → Option ℕ) → List (Option Metadata) → Type 0
NameIndexIsExact names hs =
    (name : List ℕ) (t : ℕ) → (names name ≡ Some t) ↔ (is_named name (metadata_at hs t) ≡ true)

-- the least identifier of a table with this name
abbrev pub find_named : List (Option Metadata) → List ℕ → Option ℕ
find_named hs name = position (is_named name) hs
