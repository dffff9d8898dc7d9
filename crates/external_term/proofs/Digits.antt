-- Numbers whose low byte comes first.
use Rattle.std.proofs.Common.{◌≡◌, ℕ, zero, suc, ◌+◌, ◌-◌, ◌*◌, ◌/◌, ◌%◌, ◌^◌, ◌<◌, ◌≤◌, ◌==◌, List, [], ◌∷◌, length, get_or, drop, arith, ap, ◌∙◌, refl, sym, append_assoc, ◌++◌, Bool, false, if◌then◌else◌}
use Rattle.std.proofs.lemmas.Bool.Decides.{nat_tests}
use Rattle.external_term.specs.Encoding.{low_bytes}
use Rattle.std.proofs.Math.Nat.{pow-suc}
use Rattle.std.proofs.lemmas.List.{append-nil, get_or-drop, at_drop_more, length-drop}
use Rattle.external_term.specs.Integers.{little}

pub little-small : (xs : List ℕ) (m : ℕ) → ((k : ℕ) → get_or xs k 0 < 256) → length xs ≤ m → little xs < 256 ^ m
little-small [] zero small h = omega arith
little-small [] (suc m) small h =
    let ih : 0 < 256 ^ m = little-small [] m small (omega arith) in rw pow-suc (omega (arith, ih))
little-small (x ∷ xs) zero small h = absurd (omega (arith, h))
little-small (x ∷ xs) (suc m) small h =
    let ih : little xs < 256 ^ m = little-small xs m (λ k. small (suc k)) (omega (arith, h)) in
    let b : x < 256 = small zero in
    rw pow-suc (omega (arith, ih, b))

-- what is left of at most 15 digits is below 2 ^ 120
pub rest_small : (xs : List ℕ) (n : ℕ) → ((k : ℕ) → get_or xs k 0 < 256) → length xs ≤ n + 15 → little (drop n xs) < 2 ^ 120
rest_small xs n small h =
    little-small (drop n xs) 15 (λ k. rw (get_or-drop n xs k 0) (small (n + k))) (omega (arith, length-drop n xs))

pub little_more : (xs : List ℕ) (n : ℕ) → n < length xs → little (drop n xs) ≡ get_or xs n 0 + 256 * little (drop (n + 1) xs)
little_more xs n h = at_drop_more little xs n 0 h

-- the bytes of a magnitude, from the byte i on
pub low_none : (k : ℕ) → low_bytes k 0 ≡ []
unfolding low_bytes
low_none zero = refl
low_none (suc k) = refl

low_some : (k n : ℕ) → (n ≡ 0 → ⊥) → low_bytes (suc k) n ≡ n % 256 ∷ low_bytes k (n / 256)
unfolding low_bytes
low_some k n h = let e : (n == 0) ≡ false = grind (arith, nat_tests) in
    ap (λ (b : Bool). if b then [] else n % 256 ∷ low_bytes k (n / 256)) e

pub low_more : (i n : ℕ) → i < 16 → (n ≡ 0 → ⊥) → low_bytes (16 - i) n ≡ n % 256 ∷ low_bytes (16 - (i + 1)) (n / 256)
low_more i n h more =
    let e : 16 - i ≡ suc (16 - (i + 1)) = omega arith in
    ap (λ (k : ℕ). low_bytes k n) e ∙ low_some (16 - (i + 1)) n more

pub low_end : (i n : ℕ) → 16 ≤ i → low_bytes (16 - i) n ≡ []
unfolding low_bytes
low_end i n h = let e : 16 - i ≡ zero = omega arith in ap (λ (k : ℕ). low_bytes k n) e

-- nothing is left to append
pub nothing_left : (out rest all : List ℕ) → rest ≡ [] → out ++ rest ≡ all → out ≡ all
nothing_left out rest all e h = sym (append-nil out) ∙ ap (λ (w : List ℕ). out ++ w) (sym e) ∙ h

-- one byte was appended
pub byte_put : (out now rest more all : List ℕ) (x : ℕ) → rest ≡ x ∷ more → now ≡ out ++ x ∷ [] → out ++ rest ≡ all → now ++ more ≡ all
byte_put out now rest more all x e put h =
    ap (λ (w : List ℕ). w ++ more) put ∙ append_assoc out (x ∷ []) more ∙ ap (λ (w : List ℕ). out ++ w) (sym e) ∙ h

pub low_short : (k n : ℕ) → length (low_bytes k n) ≤ k
unfolding low_bytes
low_short zero n = omega arith
low_short (suc k) zero = omega arith
low_short (suc k) (suc n) =
    let e : low_bytes (suc k) (suc n) ≡ suc n % 256 ∷ low_bytes k (suc n / 256) = low_some k (suc n) (λ h. absurd (omega (arith, h))) in
    omega (arith, low_short k (suc n / 256), ap length e)

-- the bytes of a magnitude are the magnitude
pub low_little : (k n : ℕ) → n < 256 ^ k → little (low_bytes k n) ≡ n
unfolding low_bytes
low_little zero n h = let z : n ≡ 0 = omega (arith, h) in sym z
low_little (suc k) zero h = refl
low_little (suc k) (suc n) h =
    let p : suc n < 256 ^ k * 256 = rw pow-suc at h in
    let q : suc n / 256 < 256 ^ k = omega (arith, p) in
    let ih : little (low_bytes k (suc n / 256)) ≡ suc n / 256 = low_little k (suc n / 256) q in
    let e : low_bytes (suc k) (suc n) ≡ suc n % 256 ∷ low_bytes k (suc n / 256) = low_some k (suc n) (λ z. absurd (omega (arith, z))) in
    omega (arith, ih, ap little e)
