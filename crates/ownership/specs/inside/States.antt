-- A table with another state.
use Rattle.std.specs.Prelude.{Option, option_map}
use Rattle.fixed_walk.specs.TableState.{TableState}
use Rattle.ownership.specs.World.{Table}

-- the table with another state (content, ready buckets and fixes) and the same metadata
abbrev pub table_with_state : Option Table → TableState → Option Table
table_with_state table state = option_map {T = Table} (λ own. record own { state = state }) table
