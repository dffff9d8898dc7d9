-- Laws of counting.
use Rattle.std.proofs.Common.{◌≡◌, ℕ, ◌+◌, ◌^◌, ◌<◌, arith}
use Rattle.node_list.specs.Ticks.{tick, ticks}

pub tick-on : (n more : ℕ) → ticks (more + 1) n ≡ ticks more (tick n)
tick-on n more = omega arith

pub tick-in_range : (n : ℕ) → tick n < 2 ^ 64
tick-in_range n = omega arith

pub ticks-none : (n : ℕ) → n < 2 ^ 64 → ticks 0 n ≡ n
ticks-none n h = omega arith

pub ticks-one : (n : ℕ) → ticks 1 n ≡ tick n
ticks-one n = omega arith
