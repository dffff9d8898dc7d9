-- The hash of a test: the number of a process, and 0 for every other term.
use Rattle.std.specs.Prelude.{ℕ, ◌<◌, ◌^◌, ◌%◌}
use Rattle.std.proofs.Common.{arith}
use Rattle.ets_term.specs.declared.term.Term.{Term}
use Rattle.ets_term.specs.declared.term.Term.TheVariants.{Pid}

abbrev pub number_of : Term → ℕ
number_of (Pid number) = number % 4294967296
number_of term = 0

pub number-below : (term : Term) → number_of term < 2 ^ 32
number-below (Pid number) = omega arith
number-below term = omega arith
