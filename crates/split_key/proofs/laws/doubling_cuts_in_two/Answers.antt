use Rattle.std.proofs.Common.{◌≡◌, ℕ, ◌+◌, ◌-◌, ◌*◌, ◌/◌, ◌^◌, ◌<◌, arith, subst, sym}
use Rattle.split_key.specs.Keys.{key_of_dummy}
use Rattle.split_key.proofs.Halves.{halves, middle, exponent-lt}
use Rattle.split_key.proofs.laws.doubling_cuts_in_two.Goals as goal

pub returns-clause-halves : goal.returns-clause-halves
returns-clause-halves c =
    let s = c.requires.size in
    let j : s.0 < 32 = exponent-lt s.0 32 (omega (arith, s.1, c.ranges.size.fits)) in
    let P : ℕ → Type 0 = λ n. 2 ^ 33 / n ≡ 2 * (2 ^ 33 / (2 * n)) in
    subst P (sym s.1) (halves s.0 (32 - s.0) (omega arith))

pub returns-clause-middle : goal.returns-clause-middle
returns-clause-middle c =
    let s = c.requires.size in
    let below : c.args.bucket < 2 ^ s.0 = omega (arith, s.1, c.requires.bucket) in
    let j : s.0 < 32 = exponent-lt s.0 32 (omega (arith, s.1, c.ranges.size.fits)) in
    let P : ℕ → Type 0 = λ n. key_of_dummy (c.args.bucket + n) ≡ key_of_dummy c.args.bucket + 2 ^ 33 / (2 * n) in
    subst P (sym s.1) (middle s.0 (31 - s.0) c.args.bucket (omega arith) below)
