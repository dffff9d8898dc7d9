-- What is looked up by the identifier of a table.
use Rattle.std.specs.Prelude.{ℕ, Bool, false, Option, option_map}
use Rattle.std.specs.Option.{option_map_or}
use Rattle.fixed_walk.specs.TableState.{TableState}
use Rattle.ownership.specs.declared.metadata.Metadata.{Metadata}
use Rattle.ownership.specs.World.{Tables, table_at}

-- whether the table exists and a process has this kind of access to it
abbrev pub has_access : (Metadata → ℕ → Bool) → Tables → ℕ → ℕ → Bool
has_access access tables p t = option_map_or (λ table. access table.metadata p) (table_at tables t) false

-- the state (content, ready buckets and fixes) of the table with this identifier, whether or not a process fixes it;
-- None if it does not exist
abbrev pub state_at : Tables → ℕ → Option TableState
state_at tables t = option_map (λ table. table.state) (table_at tables t)
