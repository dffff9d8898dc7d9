-- The bytes of a name: its lower-case letters first, then the others.
use Rattle.std.proofs.Common.{◌≡◌, ℕ, suc, ◌+◌, Bool, true, false, List, [], ◌∷◌, drop, refl, ap, arith}
use Rattle.std.specs.List.{prefix_len}

counted : (q : ℕ → Bool) (b : ℕ) (bs : List ℕ) (m n : ℕ) → m ≡ n + prefix_len q (drop n bs) → 1 + m ≡ (1 + n) + prefix_len q (drop (1 + n) (b ∷ bs))
counted q b bs m n e =
    let one : 1 + n ≡ suc n = omega arith in
    let same : prefix_len q (drop (1 + n) (b ∷ bs)) ≡ prefix_len q (drop n bs) = ap (λ (k : ℕ). prefix_len q (drop k (b ∷ bs))) one in
    omega (arith, e, same)

one-more : (p q : ℕ → Bool) (b : ℕ) (bs : List ℕ) (z : Bool) → p b ≡ z → (z ≡ true → q b ≡ true) → prefix_len q bs ≡ prefix_len p bs + prefix_len q (drop (prefix_len p bs) bs)
    → prefix_len q (b ∷ bs) ≡ prefix_len p (b ∷ bs) + prefix_len q (drop (prefix_len p (b ∷ bs)) (b ∷ bs))
one-more p q b bs true e f others = rw e (rw (f refl) (counted q b bs (prefix_len q bs) (prefix_len p bs) others))
one-more p q b bs false e f others = rw e (omega arith)

-- the front of what passes one test begins with that of what passes a stricter one
pub front-after : (p q : ℕ → Bool) → ((b : ℕ) → p b ≡ true → q b ≡ true) → (bs : List ℕ) → prefix_len q bs ≡ prefix_len p bs + prefix_len q (drop (prefix_len p bs) bs)
front-after p q f [] = refl
front-after p q f (b ∷ bs) = one-more p q b bs (p b) refl (f b) (front-after p q f bs)
