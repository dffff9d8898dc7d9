-- Room of a table is moved between parts, which changes their limits of its objects alone.
use Rattle.std.specs.Prelude.{ℕ, List, [], ◌∷◌}
use Rattle.ownership.specs.World.{Table, with_changed}
use Rattle.node_core.specs.State.{State}

-- a table that may have at most n objects
abbrev pub table_with_limit : ℕ → Table → Table
table_with_limit n table =
    record table { state = record table.state { content = record table.state.content { limit = n } } }

-- a state in which one table, if it exists, may have at most n objects
abbrev pub with_limit : ℕ → ℕ → State → State
with_limit t n s =
    record s { world = record s.world { tables = with_changed (table_with_limit n) s.world.tables t } }

-- each part with its limit of the objects of one table
abbrev pub with_limits : ℕ → List ℕ → List State → List State
with_limits t (n ∷ rooms) (part ∷ parts) = with_limit t n part ∷ with_limits t rooms parts
with_limits t _ _ = []
