-- The items of a bucket are one interval of keys.
use Rattle.std.proofs.Common.{◌≡◌, ℕ, zero, suc, ◌+◌, ◌*◌, ◌/◌, ◌%◌, ◌^◌, ◌<◌, ◌≤◌, inl, inr, refl, sym, ◌∙◌, ap, arith}
use Rattle.std.proofs.Math.Nat.{mul-le-mul_right, mod-eq_of_lt}
use Rattle.std.proofs.lemmas.Bool.{cases_lt}
use Rattle.std.proofs.lemmas.Nat.{mod_below, div-add-mod'}
use Rattle.std.proofs.Math.Pow.{pow_pos}
use Rattle.split_key.specs.Keys.{rev}
use Rattle.split_key.proofs.Revs.{rev-split, rev-lt, rev-twice}

pub rev-zero : (k : ℕ) → rev k 0 ≡ 0
unfolding rev
rev-zero zero = refl
rev-zero (suc k) = let ih : rev k 0 ≡ 0 = rev-zero k in omega arith

-- a reversed hash: the reversed bucket, then the rest
pub rev-hash : (j k h : ℕ) → rev (j + k) h ≡ rev j (h % 2 ^ j) * 2 ^ k + rev k (h / 2 ^ j)
rev-hash j k h =
    ap (rev (j + k)) (sym (div-add-mod' h (2 ^ j))) ∙ rev-split j k (h / 2 ^ j) (h % 2 ^ j) (mod_below h (2 ^ j) (pow_pos j))

pub rev-bucket : (j k b : ℕ) → b < 2 ^ j → rev (j + k) b ≡ rev j b * 2 ^ k
rev-bucket j k b h =
    let n : 0 * 2 ^ j + b ≡ b = omega arith in
    let z : rev k 0 ≡ 0 = rev-zero k in
    ap (rev (j + k)) (sym n) ∙ (rev-split j k 0 b h ∙ omega arith)

same-block : (a b p y : ℕ) → a * p ≤ b * p + y → b * p + y < a * p + p → y < p → a ≡ b
same-block a b p y low high h =
    elim (cases_lt a b) [
      | inl less ↦ let m : (a + 1) * p ≤ b * p = mul-le-mul_right p (omega arith) in absurd (omega arith)
      | inr most ↦
          elim (cases_lt b a) [
            | inl more ↦ let m : (b + 1) * p ≤ a * p = mul-le-mul_right p (omega arith) in absurd (omega arith)
            | inr other ↦ omega arith
          ]
    ]

-- the interval that begins at the dummy of a bucket has exactly the items of that bucket
pub in-interval : (j k h b : ℕ) → b < 2 ^ j → h % 2 ^ j ≡ b
    → (2 * rev (j + k) b ≤ 2 * rev (j + k) h + 1) × (2 * rev (j + k) h + 1 < 2 * rev (j + k) b + 2 * 2 ^ k)
in-interval j k h b below e =
    let a : rev (j + k) h ≡ rev j b * 2 ^ k + rev k (h / 2 ^ j) = rev-hash j k h ∙ ap (λ (z : ℕ). rev j z * 2 ^ k + rev k (h / 2 ^ j)) e in
    let d : rev (j + k) b ≡ rev j b * 2 ^ k = rev-bucket j k b below in
    let y : rev k (h / 2 ^ j) < 2 ^ k = rev-lt k (h / 2 ^ j) in
    (omega arith, omega arith)

pub from-interval : (j k h b : ℕ) → b < 2 ^ j → 2 * rev (j + k) b ≤ 2 * rev (j + k) h + 1 → 2 * rev (j + k) h + 1 < 2 * rev (j + k) b + 2 * 2 ^ k → h % 2 ^ j ≡ b
from-interval j k h b below low high =
    let a : rev (j + k) h ≡ rev j (h % 2 ^ j) * 2 ^ k + rev k (h / 2 ^ j) = rev-hash j k h in
    let d : rev (j + k) b ≡ rev j b * 2 ^ k = rev-bucket j k b below in
    let y : rev k (h / 2 ^ j) < 2 ^ k = rev-lt k (h / 2 ^ j) in
    let same : rev j b ≡ rev j (h % 2 ^ j) = same-block (rev j b) (rev j (h % 2 ^ j)) (2 ^ k) (rev k (h / 2 ^ j)) (omega arith) (omega arith) y in
    let m : h % 2 ^ j < 2 ^ j = mod_below h (2 ^ j) (pow_pos j) in
    sym (mod-eq_of_lt m) ∙ (sym (rev-twice j (h % 2 ^ j)) ∙ (ap (rev j) (sym same) ∙ (rev-twice j b ∙ mod-eq_of_lt below)))

-- doubling cuts the interval in two
pub rev-doubled : (j k b : ℕ) → b < 2 ^ j → rev (j + suc k) (2 ^ j + b) ≡ rev (j + suc k) b + 2 ^ k
unfolding rev
rev-doubled j k b below =
    let n : 1 * 2 ^ j + b ≡ 2 ^ j + b = omega arith in
    let one : rev (suc k) 1 ≡ 2 ^ k = (let z : rev k 0 ≡ 0 = rev-zero k in omega arith) in
    let d : rev (j + suc k) b ≡ rev j b * 2 ^ suc k = rev-bucket j (suc k) b below in
    ap (rev (j + suc k)) (sym n) ∙ (rev-split j (suc k) 1 b below ∙ omega arith)
