-- The bytes from an offset on, and the fields that are read from them.
use Rattle.std.proofs.Common.{◌≡◌, ℕ, zero, suc, ◌+◌, ◌-◌, ◌*◌, ◌/◌, ◌%◌, ◌^◌, ◌<◌, ◌≤◌, List, [], ◌∷◌, ◌++◌, length, get_or, take, drop, refl, sym, ap, ◌∙◌, arith, Ok, Bool, true, nat_le, append_assoc, length-append, length-drop}
use Rattle.std.proofs.lemmas.Bool.Decides.{nat_tests}
use Rattle.std.proofs.lemmas.List.{drop-drop, drop_at, take_at}
use Rattle.std.specs.Prelude.{slice_range}
use Rattle.external_term.specs.declared.field.Width.{Width}
use Rattle.external_term.specs.declared.field.Width.TheVariants.{One, Two, Four}
use Rattle.external_term.specs.Fields.{Read, after, big16, big32, number, number_if, number_at, piece_if, piece_at, width_bytes}
use Rattle.external_term.specs.Encoding.{big2, big4}

-- from an offset on there are these bytes, then the rest
pub record At (bytes : List ℕ) (at : ℕ) (xs rest : List ℕ) : Type 0 where
  pub holds : drop at bytes ≡ xs ++ rest
  pub within : at ≤ length bytes

head_in : (bytes : List ℕ) (at x : ℕ) (rest : List ℕ) → drop at bytes ≡ x ∷ rest → get_or bytes at 0 ≡ x
head_in [] zero x rest h = cc
head_in [] (suc n) x rest h = cc
head_in (b ∷ bs) zero x rest h = cc
head_in (b ∷ bs) (suc n) x rest h = head_in bs n x rest h

pub head : (bytes : List ℕ) (at x : ℕ) (xs rest : List ℕ) → At bytes at (x ∷ xs) rest → get_or bytes at 0 ≡ x
head bytes at x xs rest h = head_in bytes at x (xs ++ rest) h.holds

pub inside : (bytes : List ℕ) (at x : ℕ) (xs rest : List ℕ) → At bytes at (x ∷ xs) rest → at < length bytes
inside bytes at x xs rest h = omega (arith, ap length h.holds, length-drop at bytes)

pub tail : (bytes : List ℕ) (at x : ℕ) (xs rest : List ℕ) → At bytes at (x ∷ xs) rest → At bytes (at + 1) xs rest
tail bytes at x xs rest h = record {
  holds = sym (drop-drop 1 at bytes) ∙ ap (drop 1) h.holds;
  within = omega (arith, inside bytes at x xs rest h);
}

pub front : (bytes : List ℕ) (at : ℕ) (xs ys rest : List ℕ) → At bytes at (xs ++ ys) rest → At bytes at xs (ys ++ rest)
front bytes at xs ys rest h = record { holds = h.holds ∙ append_assoc xs ys rest; within = h.within }

pub room : (bytes : List ℕ) (at : ℕ) (xs rest : List ℕ) → At bytes at xs rest → at + length xs ≤ length bytes
room bytes at xs rest h = omega (arith, ap length h.holds, length-drop at bytes, length-append xs rest, h.within)

pub behind : (bytes : List ℕ) (at : ℕ) (xs ys rest : List ℕ) → At bytes at (xs ++ ys) rest → At bytes (at + length xs) ys rest
behind bytes at xs ys rest h =
    let k = front bytes at xs ys rest h in record {
      holds = sym (drop-drop (length xs) at bytes) ∙ ap (drop (length xs)) k.holds ∙ drop_at xs (ys ++ rest) (length xs) refl;
      within = room bytes at xs (ys ++ rest) k;
    }

pub range : (bytes : List ℕ) (at end : ℕ) (xs rest : List ℕ) → At bytes at xs rest → end ≡ at + length xs → slice_range bytes at end ≡ xs
range bytes at end xs rest h e =
    let n : end - at ≡ length xs = omega arith in
    ap (λ (k : ℕ). take k (drop at bytes)) n ∙ ap (take (length xs)) h.holds ∙ take_at xs rest (length xs) refl

abbrev pub ok : {A : Type 0} → A → ℕ → Read A
ok x end = Ok (x, end)

pub ends : {A : Type 0} (x : A) (m n : ℕ) → m ≡ n → ok x m ≡ ok x n
ends x m n e = ap (λ (k : ℕ). ok x k) e

pub after_ok : {A B : Type 0} (r : Read A) (x : A) (m : ℕ) (more : A → ℕ → Read B) (s : Read B) → r ≡ ok x m → more x m ≡ s → after r more ≡ s
after_ok r x m more s e h = ap (λ (q : Read _). after q more) e ∙ h

number_fits : (w : Width) (bytes : List ℕ) (at n end : ℕ) → at + width_bytes w ≤ length bytes → number w bytes at ≡ n → at + width_bytes w ≡ end
    → number_at w bytes at ≡ ok n end
number_fits w bytes at n end h e f =
    let fits : nat_le (at + width_bytes w) (length bytes) ≡ true = grind (arith, nat_tests) in
    ap (λ (b : Bool). number_if b w bytes at) fits ∙ ap (λ (k : ℕ). ok k (at + width_bytes w)) e ∙ ends n (at + width_bytes w) end f

pub one_at : (bytes : List ℕ) (at x : ℕ) (xs rest : List ℕ) → At bytes at (x ∷ xs) rest → number_at One bytes at ≡ ok x (at + 1)
one_at bytes at x xs rest h =
    number_fits One bytes at x (at + 1) (omega (arith, inside bytes at x xs rest h)) (head bytes at x xs rest h) refl

value16 : (bytes : List ℕ) (at a b : ℕ) (xs rest : List ℕ) → At bytes at (a ∷ b ∷ xs) rest → big16 bytes at ≡ a * 256 + b
value16 bytes at a b xs rest h =
    let x : get_or bytes at 0 ≡ a = head bytes at a (b ∷ xs) rest h in
    let y : get_or bytes (at + 1) 0 ≡ b = head bytes (at + 1) b xs rest (tail bytes at a (b ∷ xs) rest h) in
    omega (arith, x, y)

pub two_at : (bytes : List ℕ) (at n : ℕ) (xs rest : List ℕ) → n < 2 ^ 16 → At bytes at (big2 n ++ xs) rest → number_at Two bytes at ≡ ok n (at + 2)
two_at bytes at n xs rest small h =
    let a = n / 2 ^ 8 % 256 in
    let b = n % 256 in
    let v : big16 bytes at ≡ a * 256 + b = value16 bytes at a b xs rest h in
    let e : big16 bytes at ≡ n = omega (arith, v) in
    number_fits Two bytes at n (at + 2) (room bytes at (a ∷ b ∷ []) (xs ++ rest) (front bytes at (a ∷ b ∷ []) xs rest h)) e refl

pub value32 : (bytes : List ℕ) (at n : ℕ) (xs rest : List ℕ) → n < 2 ^ 32 → At bytes at (big4 n ++ xs) rest → big32 bytes at ≡ n
value32 bytes at n xs rest small h =
    let a = n / 2 ^ 24 % 256 in
    let b = n / 2 ^ 16 % 256 in
    let c = n / 2 ^ 8 % 256 in
    let d = n % 256 in
    let v : big16 bytes at ≡ a * 256 + b = value16 bytes at a b (c ∷ d ∷ xs) rest h in
    let k : At bytes (at + 2) (c ∷ d ∷ xs) rest = behind bytes at (a ∷ b ∷ []) (c ∷ d ∷ xs) rest h in
    let w : big16 bytes (at + 2) ≡ c * 256 + d = value16 bytes (at + 2) c d xs rest k in
    omega (arith, v, w)

pub four_at : (bytes : List ℕ) (at n : ℕ) (xs rest : List ℕ) → n < 2 ^ 32 → At bytes at (big4 n ++ xs) rest → number_at Four bytes at ≡ ok n (at + 4)
four_at bytes at n xs rest small h =
    number_fits Four bytes at n (at + 4) (room bytes at (big4 n) (xs ++ rest) (front bytes at (big4 n) xs rest h)) (value32 bytes at n xs rest small h) refl

pub piece : (bytes : List ℕ) (at n : ℕ) (xs rest : List ℕ) → length xs ≡ n → At bytes at xs rest → piece_at n bytes at ≡ ok at (at + n)
piece bytes at n xs rest e h =
    let r : at + length xs ≤ length bytes = room bytes at xs rest h in
    let fits : nat_le (at + n) (length bytes) ≡ true = grind (arith, nat_tests) in
    ap (λ (b : Bool). piece_if b n at) fits
