-- The highest set bit.
use Rattle.std.proofs.Common.{◌≡◌, ℕ, ◌-◌, ◌*◌, ◌%◌, ◌^◌, ◌<◌, ◌≤◌, ◌∙◌, ap, arith}
use Rattle.std.proofs.lemmas.Nat.{leading_top, one_shl}
use Rattle.std.specs.Int.Count.{count_leading_zeros}
use Rattle.split_key.proofs.Revs.{pow-suc}

pub record Top (b z : ℕ) : Type 0 where
  pub top : ℕ
  pub shifted : 1 * 2 ^ (31 - z) % 2 ^ 32 ≡ 2 ^ top
  pub low : 2 ^ top ≤ b
  pub high : b < 2 * 2 ^ top

pub top-of : (b : ℕ) → 0 < b → b < 2 ^ 32 → Top b (count_leading_zeros 32 b)
top-of b p h =
    let t = leading_top 32 b p h in
    let z : 31 - count_leading_zeros 32 b ≡ t.0 = omega (arith, t.1) in
    let below : t.0 < 32 = omega (arith, t.1) in
    record { top = t.0; shifted = ap (λ (k : ℕ). 1 * 2 ^ k % 2 ^ 32) z ∙ one_shl t.0 32 below; low = t.2; high = rw (pow-suc t.0) at t.3 }
