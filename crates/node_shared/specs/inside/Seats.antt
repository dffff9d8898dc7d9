-- Seats from which process numbers are drawn, and what the two atomic steps on their word do.
use Rattle.std.specs.Prelude.{◌≡◌, ℕ, ◌-◌, ◌<◌}
use Rattle.atomic_table.specs.Table.{Me, Step}
use Rattle.node_shared.specs.declared.pids.rule.View.{View}
use Rattle.node_shared.specs.declared.pids.rule.View.TheVariants.{Opening, Undrawn, Drawn}

-- the seat that the atomic word was made with, of which n seats can be split off
abbrev pub opening_view : ℕ → View
opening_view n = Opening n

-- a seat that has not drawn a number
abbrev pub undrawn_view : View
undrawn_view = Undrawn

-- a seat after another seat was split off it
abbrev pub one_fewer : View → View
one_fewer (Opening n) = Opening (n - 1)
one_fewer Undrawn = Undrawn
one_fewer (Drawn x) = Drawn x

-- the seat has drawn the value that the word had, which is below 4096
abbrev pub DrawsNumber : Step (Unit {0}) → Me (Unit {0}) View → ℕ → Me (Unit {0}) View → Type 0
DrawsNumber st m r m' = (m' ≡ (Drawn r, m.1)) × (r < 4096)
