-- Laws of `rev`.
use Rattle.std.proofs.Common.{◌≡◌, ℕ, zero, suc, ◌+◌, ◌*◌, ◌/◌, ◌%◌, ◌^◌, ◌<◌, ◌≤◌, refl, sym, ◌∙◌, ap, arith}
use Rattle.std.proofs.Math.Nat.{mul-le-mul_right, mod-one, mod-eq_of_lt}
use Rattle.std.proofs.lemmas.Nat.{pow-add, mod_below, mod-mul-add, div-add-mod', mod-pow-add}
use Rattle.std.specs.Int.{reverse_bits_onto}
use Rattle.split_key.specs.Keys.{rev}

pub pow-suc : (k : ℕ) → 2 ^ suc k ≡ 2 * 2 ^ k
pow-suc k = grind arith

digit-lt : (a p r : ℕ) → a < 2 → r < p → a * p + r < 2 * p
digit-lt a p r h e = let m : a * p ≤ 1 * p = mul-le-mul_right p (omega arith) in omega arith

digit-onto : (a b p r x y : ℕ) → x ≡ 2 * p → y ≡ (a * 2 + b) * p + r → y ≡ a * x + (b * p + r)
digit-onto a b p r x y e f = rw (e, f) (omega arith)

digits-low : (q r p x : ℕ) → x ≡ 2 * p → q * x + r ≡ (q * p + r / 2) * 2 + r % 2
digits-low q r p x e = rw e (omega (arith, div-add-mod' r 2))

half : (n a b : ℕ) → n ≡ a * 2 + b → b < 2 → n / 2 ≡ a
half n a b e h = let d : n / 2 * 2 + n % 2 ≡ n = div-add-mod' n 2 in let m : n % 2 < 2 = mod_below n 2 (omega arith) in omega arith

half-lt : (r p x : ℕ) → x ≡ 2 * p → r < x → r / 2 < p
half-lt r p x e h = let d : r / 2 * 2 + r % 2 ≡ r = div-add-mod' r 2 in omega arith

join-digits : (a b x y : ℕ) → x ≡ a → y ≡ b → x * 2 ^ 1 + y ≡ a * 2 + b
join-digits a b x y e f = rw (e, f) refl

mod-half : (n k : ℕ) → n % 2 ^ suc k ≡ (n / 2 % 2 ^ k) * 2 + n % 2
mod-half n k = ap (λ (m : ℕ). n % 2 ^ m) (let e : suc k ≡ k + 1 = omega arith in e) ∙ mod-pow-add n k 1

rev-one : (n : ℕ) → n < 2 → rev 1 n ≡ n
unfolding rev
rev-one n h = let e : n % 2 ≡ n = mod-eq_of_lt h in rw e (omega arith)

pub rev-lt : (k n : ℕ) → rev k n < 2 ^ k
unfolding rev
rev-lt zero n = omega arith
rev-lt (suc k) n = rw (pow-suc k) (digit-lt (n % 2) (2 ^ k) (rev k (n / 2)) (mod_below n 2 (omega arith)) (rev-lt k (n / 2)))

pub rev-onto : (k n a : ℕ) → reverse_bits_onto k n a ≡ a * 2 ^ k + rev k n
unfolding rev reverse_bits_onto
rev-onto zero n a = omega arith
rev-onto (suc k) n a = digit-onto a (n % 2) (2 ^ k) (rev k (n / 2)) (2 ^ suc k) (reverse_bits_onto k (n / 2) (a * 2 + n % 2)) (pow-suc k) (rev-onto k (n / 2) (a * 2 + n % 2))

step-split : (a b p k x y z : ℕ) → x ≡ a * (p * k) + y → y ≡ b * k + z → x ≡ (a * p + b) * k + z
step-split a b p k x y z e f = rw (e, f) (omega arith)

-- the low digits of a number come first, and the others after them
pub rev-split : (j k q r : ℕ) → r < 2 ^ j → rev (j + k) (q * 2 ^ j + r) ≡ rev j r * 2 ^ k + rev k q
unfolding rev
rev-split zero k q r h =
    let z : r ≡ 0 = omega arith in
    let n : q * 2 ^ 0 + r ≡ q = omega arith in
    let a : zero + k ≡ k = omega arith in
    ap (λ (m : ℕ). rev m (q * 2 ^ 0 + r)) a ∙ (ap (rev k) n ∙ omega arith)
rev-split (suc j) k q r h =
    let m : q * 2 ^ suc j + r ≡ (q * 2 ^ j + r / 2) * 2 + r % 2 = digits-low q r (2 ^ j) (2 ^ suc j) (pow-suc j) in
    let low : (q * 2 ^ suc j + r) % 2 ≡ r % 2 = ap (λ (z : ℕ). z % 2) m ∙ mod-mul-add (q * 2 ^ j + r / 2) 2 (r % 2) (mod_below r 2 (omega arith)) in
    let high : (q * 2 ^ suc j + r) / 2 ≡ q * 2 ^ j + r / 2 = half (q * 2 ^ suc j + r) (q * 2 ^ j + r / 2) (r % 2) m (mod_below r 2 (omega arith)) in
    let below : r / 2 < 2 ^ j = half-lt r (2 ^ j) (2 ^ suc j) (pow-suc j) h in
    let ih : rev (j + k) (q * 2 ^ j + r / 2) ≡ rev j (r / 2) * 2 ^ k + rev k q = rev-split j k q (r / 2) below in
    let e : suc j + k ≡ suc (j + k) = omega arith in
    ap (λ (m : ℕ). rev m (q * 2 ^ suc j + r)) e
    ∙ (ap (λ (z : ℕ). z * 2 ^ (j + k) + rev (j + k) ((q * 2 ^ suc j + r) / 2)) low
    ∙ (ap (λ (z : ℕ). r % 2 * 2 ^ (j + k) + rev (j + k) z) high
    ∙ step-split (r % 2) (rev j (r / 2)) (2 ^ j) (2 ^ k) (r % 2 * 2 ^ (j + k) + rev (j + k) (q * 2 ^ j + r / 2)) (rev (j + k) (q * 2 ^ j + r / 2)) (rev k q) (ap (λ (z : ℕ). r % 2 * z + rev (j + k) (q * 2 ^ j + r / 2)) (pow-add 2 j k)) ih))

-- reversing twice leaves the low digits
pub rev-twice : (k n : ℕ) → rev k (rev k n) ≡ n % 2 ^ k
unfolding rev
rev-twice zero n = sym (mod-one n)
rev-twice (suc k) n =
    let split : rev (k + 1) ((n % 2) * 2 ^ k + rev k (n / 2)) ≡ rev k (rev k (n / 2)) * 2 ^ 1 + rev 1 (n % 2) = rev-split k 1 (n % 2) (rev k (n / 2)) (rev-lt k (n / 2)) in
    let one : rev 1 (n % 2) ≡ n % 2 = rev-one (n % 2) (mod_below n 2 (omega arith)) in
    let e : suc k ≡ k + 1 = omega arith in
    let ih : rev k (rev k (n / 2)) ≡ n / 2 % 2 ^ k = rev-twice k (n / 2) in
    ap (λ (m : ℕ). rev m ((n % 2) * 2 ^ k + rev k (n / 2))) e ∙ (split ∙ (join-digits (n / 2 % 2 ^ k) (n % 2) (rev k (rev k (n / 2))) (rev 1 (n % 2)) ih one ∙ sym (mod-half n k)))
