use Rattle.std.proofs.Common.{ℕ, ◌-◌, ◌<◌, arith, subst, sym}
use Rattle.split_key.specs.Keys.{key_of_dummy}
use Rattle.split_key.proofs.Halves.{before, exponent-lt}
use Rattle.split_key.proofs.laws.parent_comes_before.Goals as goal

pub returns-clause-before : goal.returns-clause-before
returns-clause-before c =
    let p = c.requires in
    let j : p.top < 32 = exponent-lt p.top 32 (omega (arith, p.sum, c.ranges.bucket.fits)) in
    let P : ℕ → Type 0 = λ b. key_of_dummy c.args.parent < key_of_dummy b in
    subst P (sym p.sum) (before p.top (31 - p.top) c.args.parent (omega arith) p.low)
