-- The laws of buckets, for keys of 32 bits.
use Rattle.std.proofs.Common.{◌≡◌, ℕ, zero, suc, ◌+◌, ◌*◌, ◌/◌, ◌%◌, ◌^◌, ◌<◌, ◌≤◌, ◌⊎◌, ◌↔◌, inl, inr, sym, ◌∙◌, ap, subst, arith}
use Rattle.std.proofs.Math.Nat.{mul-le-mul_right, mul-div_cancel}
use Rattle.std.proofs.Math.Pow.{pow_pos, pow-lt, pow-add}
use Rattle.std.proofs.lemmas.Bool.{cases_lt}
use Rattle.std.proofs.lemmas.Nat.{mod_below, mod-mul-add, div-add-mod'}
use Rattle.split_key.specs.Keys.{rev, key_of_item, key_of_dummy, IsInBucket}
use Rattle.split_key.proofs.Revs.{pow-suc}
use Rattle.split_key.proofs.Intervals.{in-interval, from-interval, rev-doubled}

-- a smaller power has a smaller exponent
pub exponent-lt : (j w : ℕ) → 2 ^ j < 2 ^ w → j < w
exponent-lt j w h =
    elim (cases_lt j w) [
      | inl less ↦ less
      | inr most ↦
          elim (cases_lt w j) [
            | inl more ↦ let p : 2 ^ w < 2 ^ j = pow-lt more in absurd (omega arith)
            | inr other ↦ let e : j ≡ w = omega arith in let q : 2 ^ j ≡ 2 ^ w = ap (λ (n : ℕ). 2 ^ n) e in absurd (omega arith)
          ]
    ]

-- the size of one of `2 ^ j` parts
pub share : (j k : ℕ) → 2 ^ (j + k) / 2 ^ j ≡ 2 ^ k
share j k =
    let p : 0 < 2 ^ j = pow_pos j in
    let e : 2 ^ (j + k) ≡ 2 ^ k * 2 ^ j = pow-add 2 j k ∙ (omega arith) in
    ap (λ (n : ℕ). n / 2 ^ j) e ∙ mul-div_cancel (2 ^ k) p

pub is-interval : (j k h b : ℕ) → j + k ≡ 32 → b < 2 ^ j → (h % 2 ^ j ≡ b) ↔ IsInBucket (key_of_item h) b (2 ^ j)
is-interval j k h b e below =
    let width : 2 ^ 33 / 2 ^ j ≡ 2 * 2 ^ k =
    ap (λ (n : ℕ). 2 ^ n / 2 ^ j) (let s : 33 ≡ j + suc k = omega arith in s) ∙ (share j (suc k) ∙ pow-suc k) in
    let P : ℕ → Type 0 = λ w. (h % 2 ^ j ≡ b) → (2 * rev w b ≤ 2 * rev w h + 1) × (2 * rev w h + 1 < 2 * rev w b + 2 * 2 ^ k) in
    let Q : ℕ → Type 0 = λ w. 2 * rev w b ≤ 2 * rev w h + 1 → 2 * rev w h + 1 < 2 * rev w b + 2 * 2 ^ k → h % 2 ^ j ≡ b in
    let into = subst P e (in-interval j k h b below) in
    let out = subst Q e (from-interval j k h b below) in
    (λ same. let i = into same in (i.0, omega (arith, i.1, width)), λ i. out i.0 (omega (arith, i.1, width)))

pub halves : (j k : ℕ) → j + suc k ≡ 33 → 2 ^ 33 / 2 ^ j ≡ 2 * (2 ^ 33 / (2 * 2 ^ j))
halves j k e =
    let whole : 2 ^ 33 / 2 ^ j ≡ 2 ^ suc k = ap (λ (n : ℕ). 2 ^ n / 2 ^ j) (sym e) ∙ share j (suc k) in
    let half : 2 ^ 33 / (2 * 2 ^ j) ≡ 2 ^ k =
    ap (λ (n : ℕ). 2 ^ 33 / n) (sym (pow-suc j)) ∙ (ap (λ (n : ℕ). 2 ^ n / 2 ^ suc j) (let s : 33 ≡ suc j + k = omega arith in s) ∙ share (suc j) k) in
    whole ∙ (pow-suc k ∙ ap (λ (n : ℕ). 2 * n) (sym half))

pub middle : (j k b : ℕ) → j + suc k ≡ 32 → b < 2 ^ j → key_of_dummy (b + 2 ^ j) ≡ key_of_dummy b + 2 ^ 33 / (2 * 2 ^ j)
middle j k b e below =
    let half : 2 ^ 33 / (2 * 2 ^ j) ≡ 2 * 2 ^ k =
    ap (λ (n : ℕ). 2 ^ 33 / n) (sym (pow-suc j)) ∙ (ap (λ (n : ℕ). 2 ^ n / 2 ^ suc j) (let s : 33 ≡ suc j + suc k = omega arith in s) ∙ (share (suc j) (suc k) ∙ pow-suc k)) in
    let P : ℕ → Type 0 = λ w. rev w (2 ^ j + b) ≡ rev w b + 2 ^ k in
    let doubled : rev 32 (2 ^ j + b) ≡ rev 32 b + 2 ^ k = subst P e (rev-doubled j k b below) in
    let turn : b + 2 ^ j ≡ 2 ^ j + b = omega arith in
    ap (λ (n : ℕ). 2 * rev 32 n) turn ∙ (ap (λ (n : ℕ). 2 * n) doubled ∙ omega (arith, half))

pub before : (j k b : ℕ) → j + suc k ≡ 32 → b < 2 ^ j → key_of_dummy b < key_of_dummy (2 ^ j + b)
before j k b e below =
    let P : ℕ → Type 0 = λ w. rev w (2 ^ j + b) ≡ rev w b + 2 ^ k in
    let doubled : rev 32 (2 ^ j + b) ≡ rev 32 b + 2 ^ k = subst P e (rev-doubled j k b below) in
    let some : 0 < 2 ^ k = pow_pos k in
    omega (arith, doubled, some)

-- the last digit but one of a remainder by `2 * n`
split : (q s n r h : ℕ) → h ≡ (q * 2 + s) * n + r → h ≡ q * (2 * n) + (s * n + r)
split q s n r h e = e ∙ omega arith

pub mod-double : (h n : ℕ) → 0 < n → (s : ℕ) × (s < 2) × (h % (2 * n) ≡ s * n + h % n)
mod-double h n some =
    let r : h % n < n = mod_below h n some in
    let s : h / n % 2 < 2 = mod_below (h / n) 2 (omega arith) in
    let q : (h / n / 2) * 2 + h / n % 2 ≡ h / n = div-add-mod' (h / n) 2 in
    let e : h ≡ ((h / n / 2) * 2 + h / n % 2) * n + h % n = sym (div-add-mod' h n) ∙ ap (λ (z : ℕ). z * n + h % n) (sym q) in
    let f : h ≡ (h / n / 2) * (2 * n) + ((h / n % 2) * n + h % n) = split (h / n / 2) (h / n % 2) n (h % n) h e in
    let top : (h / n % 2) * n ≤ 1 * n = mul-le-mul_right n (omega arith) in
    (h / n % 2, s, ap (λ (z : ℕ). z % (2 * n)) f ∙ mod-mul-add (h / n / 2) (2 * n) ((h / n % 2) * n + h % n) (omega arith))

digit-cases : (s n r h b : ℕ) → s < 2 → h ≡ s * n + r → r ≡ b → (h ≡ b) ⊎ (h ≡ b + n)
digit-cases zero n r h b s e f = inl (e ∙ (omega (arith, f)))
digit-cases (suc zero) n r h b s e f = inr (e ∙ (omega (arith, f)))
digit-cases (suc (suc s)) n r h b t e f = absurd (omega arith)

digit-low : (s n r h b : ℕ) → s < 2 → r < n → b < n → h ≡ s * n + r → (h ≡ b) ⊎ (h ≡ b + n) → r ≡ b
digit-low zero n r h b s rn bn e (inl f) = omega (arith, e, f)
digit-low zero n r h b s rn bn e (inr f) = absurd (omega (arith, e, f))
digit-low (suc zero) n r h b s rn bn e (inl f) = absurd (omega (arith, e, f))
digit-low (suc zero) n r h b s rn bn e (inr f) = omega (arith, e, f)
digit-low (suc (suc s)) n r h b t rn bn e f = absurd (omega arith)

-- the items of a bucket stay in it or move to the new one
pub mod-split : (h n b : ℕ) → b < n → (h % n ≡ b) ↔ ((h % (2 * n) ≡ b) ⊎ (h % (2 * n) ≡ b + n))
mod-split h n b below =
    let some : 0 < n = omega arith in
    let d = mod-double h n some in
    (λ e. digit-cases d.0 n (h % n) (h % (2 * n)) b d.1 d.2 e, λ e. digit-low d.0 n (h % n) (h % (2 * n)) b d.1 (mod_below h n some) below d.2 e)
