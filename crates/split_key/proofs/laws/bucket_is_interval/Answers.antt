use Rattle.std.proofs.Common.{◌≡◌, ℕ, ◌-◌, ◌%◌, ◌^◌, ◌<◌, ◌↔◌, arith, subst, sym}
use Rattle.split_key.specs.Keys.{key_of_item, IsInBucket}
use Rattle.split_key.proofs.Halves.{is-interval, exponent-lt}
use Rattle.split_key.proofs.laws.bucket_is_interval.Goals as goal

pub returns : goal.returns
returns c =
    let s = c.requires.size in
    let below : c.args.bucket < 2 ^ s.0 = omega (arith, s.1, c.requires.bucket) in
    let j : s.0 < 32 = exponent-lt s.0 32 (omega (arith, s.1, c.ranges.size.fits)) in
    let P : ℕ → Type 0 = λ n. (c.args.hash % n ≡ c.args.bucket) ↔ IsInBucket (key_of_item c.args.hash) c.args.bucket n in
    subst P (sym s.1) (is-interval s.0 (32 - s.0) c.args.hash c.args.bucket (omega arith) below)
