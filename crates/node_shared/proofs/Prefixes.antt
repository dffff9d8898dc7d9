-- Beginnings of one list.
use Rattle.std.proofs.Common.{◌≡◌, ◌⊎◌, inl, inr, ◌≤◌, List, [], ◌∷◌, ◌++◌, length, refl, ap, sym, ◌∙◌, arith, append_assoc, length-append}
use Rattle.std.proofs.lemmas.List.{append-nil}
use mathlib.Core.List.{IsPrefix}

pub prefix_self : {A : Type 0} (xs : List A) → IsPrefix xs xs
prefix_self xs = ([], append-nil xs)

pub prefix_trans : {A : Type 0} (xs ys zs : List A) → IsPrefix xs ys → IsPrefix ys zs → IsPrefix xs zs
prefix_trans xs ys zs p q = (p.0 ++ q.0, sym (append_assoc xs p.0 q.0) ∙ (ap (λ w. w ++ q.0) p.1 ∙ q.1))

-- of two beginnings of one list the shorter begins the longer
pub prefix_shorter : {A : Type 0} (xs ys zs : List A) → IsPrefix xs zs → IsPrefix ys zs → length xs ≤ length ys → IsPrefix xs ys
prefix_shorter [] ys zs p q le = (ys, refl)
prefix_shorter (x ∷ xs) [] zs p q le = absurd (omega arith)
prefix_shorter (x ∷ xs) (y ∷ ys) [] p q le = absurd (cc (p.1))
prefix_shorter (x ∷ xs) (y ∷ ys) (z ∷ zs) p q le =
    let heads : x ≡ y = cc (p.1, q.1) in
    let rest = prefix_shorter xs ys zs (p.0, cc (p.1)) (q.0, cc (q.1)) (omega arith) in
    (rest.0, cc (heads, rest.1))

-- two lists that each begin the other are the same
pub prefix_both : {A : Type 0} (xs ys : List A) → IsPrefix xs ys → IsPrefix ys xs → ys ≡ xs
prefix_both [] [] p q = refl
prefix_both [] (y ∷ ys) p q = absurd (cc (q.1))
prefix_both (x ∷ xs) [] p q = absurd (cc (p.1))
prefix_both (x ∷ xs) (y ∷ ys) p q =
    let heads : y ≡ x = cc (p.1) in
    let rest = prefix_both xs ys (p.0, cc (p.1)) (q.0, cc (q.1)) in
    cc (heads, rest)

pub prefix_length : {A : Type 0} (xs ys : List A) → IsPrefix xs ys → length xs ≤ length ys
prefix_length xs ys p = omega (arith, sym (ap length p.1) ∙ length-append xs p.0)

pub none-of : {A : Type 0} (xs : List A) → length xs ≡ 0 → xs ≡ []
none-of [] e = refl
none-of (x ∷ xs) e = absurd (omega (arith, e))

-- two lists with one more at the end are the same only if they were, with the same at the end
pub snoc-same : {A : Type 0} (xs ys : List A) (x y : A) → xs ++ x ∷ [] ≡ ys ++ y ∷ [] → (xs ≡ ys) × (x ≡ y)
snoc-same [] [] x y e = (refl, cc e)
snoc-same [] (b ∷ []) x y e = absurd (cc e)
snoc-same [] (b ∷ c ∷ ys) x y e = absurd (cc e)
snoc-same (a ∷ []) [] x y e = absurd (cc e)
snoc-same (a ∷ c ∷ xs) [] x y e = absurd (cc e)
snoc-same (a ∷ xs) (b ∷ ys) x y e =
    let heads : a ≡ b = cc e in
    let tails = snoc-same xs ys x y (cc e) in
    (cc (heads, tails.0), tails.1)

-- a beginning of a list with one more is the whole, or a beginning of the list
pub prefix_snoc : {A : Type 0} (v xs : List A) (e : A) → IsPrefix v (xs ++ e ∷ []) → (v ≡ xs ++ e ∷ []) ⊎ IsPrefix v xs
prefix_snoc [] xs e p = inr (xs, refl)
prefix_snoc {A = A} (y ∷ v) [] e p = inl (one v (p.0) (cc (p.1)) (cc (p.1)))
  where
    one : (v r : List A) → v ++ r ≡ [] → y ≡ e → y ∷ v ≡ e ∷ []
    one [] r none same = cc same
    one (z ∷ v) r none same = absurd (cc none)
prefix_snoc {A = A} (y ∷ v) (x ∷ xs) e p =
    let same : y ≡ x = cc (p.1) in
    let rest = prefix_snoc v xs e (p.0, cc (p.1)) in
    more rest same
  where
    more : (v ≡ xs ++ e ∷ []) ⊎ IsPrefix v xs → y ≡ x → (y ∷ v ≡ x ∷ (xs ++ e ∷ [])) ⊎ IsPrefix (y ∷ v) (x ∷ xs)
    more (inl h) same = inl (cc (same, h))
    more (inr h) same = inr (h.0, cc (same, h.1))
