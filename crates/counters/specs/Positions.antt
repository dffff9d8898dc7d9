-- Positions in a tuple that an update may name.
use Rattle.std.specs.Prelude.{ℕ, ◌==◌, ◌||◌, if◌then◌else◌, ℤ, pos, negsuc, Option, Some, None}
use Rattle.std.specs.Option.{option_and_then}
use Rattle.ets_term.specs.declared.term.Term.{Term}
use Rattle.ets_term.specs.Views.{as_int}

-- an integer as a position; None if it is less than 1 or is keypos
abbrev pub position_at : ℕ → ℤ → Option ℕ
position_at keypos (pos n) = if n == 0 || n == keypos then None else Some n
position_at keypos (negsuc n) = None

-- the position that a term names; None if an update may not name it
abbrev pub updatable_position : ℕ → Term → Option ℕ
updatable_position keypos term = option_and_then (position_at keypos) (as_int term)
