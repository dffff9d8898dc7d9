-- Split keys of the items and dummies of `2 ^ j` buckets.
use Rattle.std.proofs.Common.{◌≡◌, ℕ, suc, ◌+◌, ◌*◌, ◌/◌, ◌%◌, ◌^◌, ◌<◌, ◌≤◌, sym, ◌∙◌, ap, subst, arith}
use Rattle.std.proofs.Math.Nat.{mod-eq_of_lt}
use Rattle.std.proofs.lemmas.Nat.{mod_below, pow_pos}
use Rattle.split_key.specs.Keys.{rev, key_of_item, key_of_dummy}
use Rattle.split_key.proofs.Revs.{pow-suc}
use Rattle.split_key.proofs.Halves.{is-interval, share}

-- The number of split keys of a bucket.
abbrev pub bucket_width : ℕ → ℕ
bucket_width n = 2 ^ 33 / n

pub bucket_width-even : (j k : ℕ) → j + k ≡ 32 → bucket_width (2 ^ j) ≡ 2 * 2 ^ k
bucket_width-even j k e = ap (λ (n : ℕ). 2 ^ n / 2 ^ j) (let s : 33 ≡ j + suc k = omega arith in s) ∙ (share j (suc k) ∙ pow-suc k)

-- The bucket of a hash by split keys.
pub record IsItemOf (hash bucket n : ℕ) : Type 0 where
  pub low : key_of_dummy bucket < key_of_item hash
  pub high : key_of_item hash < key_of_dummy bucket + bucket_width n

pub item-of : (j k h b : ℕ) → j + k ≡ 32 → b ≡ h % 2 ^ j → IsItemOf h b (2 ^ j)
item-of j k h b e same =
    let below : h % 2 ^ j < 2 ^ j = mod_below h (2 ^ j) (pow_pos j) in
    let P : ℕ → Type 0 = λ z. z < 2 ^ j in
    let within : b < 2 ^ j = subst P (sym same) below in
    let i = (is-interval j k h b e within).0 (sym same) in
    let low : key_of_dummy b ≤ key_of_item h = i.0 in
    record { low = omega arith; high = i.1 }

pub bucket-of-key : (j k h b : ℕ) → j + k ≡ 32 → b < 2 ^ j → key_of_dummy b ≤ key_of_item h → key_of_item h < key_of_dummy b + bucket_width (2 ^ j) → h % 2 ^ j ≡ b
bucket-of-key j k h b e within low high = (is-interval j k h b e within).1 (low, high)

odd-below : (x y z : ℕ) → 2 * x < 2 * y + 2 * z → 2 * x + 1 < 2 * y + 2 * z
odd-below x y z h = omega arith

-- No other bucket's dummy has a split key within the bucket.
pub dummy-alone : (j k b c : ℕ) → j + k ≡ 32 → b < 2 ^ j → c < 2 ^ j → key_of_dummy b ≤ key_of_dummy c → key_of_dummy c < key_of_dummy b + bucket_width (2 ^ j) → c ≡ b
dummy-alone j k b c e within also low high =
    let w : bucket_width (2 ^ j) ≡ 2 * 2 ^ k = bucket_width-even j k e in
    let P : ℕ → Type 0 = λ z. 2 * rev 32 c < 2 * rev 32 b + z in
    let Q : ℕ → Type 0 = λ z. 2 * rev 32 c + 1 < 2 * rev 32 b + z in
    let up : key_of_item c < key_of_dummy b + bucket_width (2 ^ j) = subst Q (sym w) (odd-below (rev 32 c) (rev 32 b) (2 ^ k) (subst P w high)) in
    sym (mod-eq_of_lt also) ∙ bucket-of-key j k c b e within (omega arith) up
