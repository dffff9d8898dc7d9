-- Counting up to the greatest number of 64 bits.
use Rattle.std.specs.Prelude.{ℕ, ◌+◌, ◌-◌, ◌^◌, min}

-- the count after one more tick, at most the greatest number
abbrev pub tick : ℕ → ℕ
tick n = min (n + 1) (2 ^ 64 - 1)

-- the count `n` after `more` ticks: their sum, at most the greatest number
abbrev pub ticks : ℕ → ℕ → ℕ
ticks more n = min (n + more) (2 ^ 64 - 1)
