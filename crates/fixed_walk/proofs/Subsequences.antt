-- Lists whose elements are among those of another, in the same order.
use Rattle.std.proofs.Common.{◌≡◌, inl, inr, false, List, [], ◌∷◌, refl, sym, subst, ap, ◌∙◌, true≢false}
use Rattle.std.specs.List.{AllByRecursion, IsDistinct}
use Rattle.ets_term.specs.declared.term.Term.{Term}
use Rattle.ets_term.specs.Order.{same}
use Rattle.ets_term.specs.laws.Same.{same-refl}
use Rattle.fixed_walk.specs.laws.Kept.{IsSubsequence}

pub sub-on : (xs ys : List Term) (y : Term) → IsSubsequence xs ys → IsSubsequence xs (y ∷ ys)
sub-on [] ys y s = tt
sub-on (x ∷ xs) ys y s = inr s

pub sub-same : (xs : List Term) → IsSubsequence xs xs
sub-same [] = tt
sub-same (x ∷ xs) = inl (refl, sub-same xs)

pub sub-tail : (x : Term) (xs ys : List Term) → IsSubsequence (x ∷ xs) ys → IsSubsequence xs ys
sub-tail x xs [] s = absurd s
sub-tail x xs (y ∷ ys) (inl s) = sub-on xs ys y s.1
sub-tail x xs (y ∷ ys) (inr s) = sub-on xs ys y (sub-tail x xs ys s)

pub sub-further : (xs ys zs : List Term) → IsSubsequence xs ys → IsSubsequence ys zs → IsSubsequence xs zs
sub-further [] ys zs s t = tt
sub-further (x ∷ xs) [] zs s t = absurd s
sub-further (x ∷ xs) (y ∷ ys) [] s t = absurd t
sub-further (x ∷ xs) (y ∷ ys) (z ∷ zs) (inl s) (inl t) = inl (s.0 ∙ t.0, sub-further xs ys zs s.1 t.1)
sub-further (x ∷ xs) (y ∷ ys) (z ∷ zs) (inr s) (inl t) = inr (sub-further (x ∷ xs) ys zs s t.1)
sub-further (x ∷ xs) (y ∷ ys) (z ∷ zs) s (inr t) = inr (sub-further (x ∷ xs) (y ∷ ys) zs s t)

pub sub-all : (P : Term → Type 0) (xs ys : List Term) → IsSubsequence xs ys → AllByRecursion P ys → AllByRecursion P xs
sub-all P [] ys s a = tt
sub-all P (x ∷ xs) [] s a = absurd s
sub-all P (x ∷ xs) (y ∷ ys) (inl s) a = (subst P (sym s.0) a.0, sub-all P xs ys s.1 a.1)
sub-all P (x ∷ xs) (y ∷ ys) (inr s) a = sub-all P (x ∷ xs) ys s a.1

pub sub-distinct : (xs ys : List Term) → IsSubsequence xs ys → IsDistinct same ys → IsDistinct same xs
unfolding IsDistinct
sub-distinct [] ys s d = tt
sub-distinct (x ∷ xs) [] s d = absurd s
sub-distinct (x ∷ xs) (y ∷ ys) (inl s) d = (sub-all (λ z. same x z ≡ false) xs ys s.1 (subst (λ (t : Term). AllByRecursion (λ z. same t z ≡ false) ys) (sym s.0) d.0), sub-distinct xs ys s.1 d.1)
sub-distinct (x ∷ xs) (y ∷ ys) (inr s) d = sub-distinct (x ∷ xs) ys s d.1

-- a later key of a distinct list differs from an earlier one
pub behind-apart : (y x : Term) (xs ys : List Term) → IsDistinct same (y ∷ ys) → IsSubsequence (x ∷ xs) ys → same y x ≡ false
unfolding IsDistinct
behind-apart y x xs ys d s = (sub-all (λ z. same y z ≡ false) (x ∷ xs) ys s d.0).0

not-itself : (x y : Term) → x ≡ y → same y x ≡ false → ⊥
not-itself x y e h = true≢false (sym (same-refl y) ∙ (ap (same y) (sym e) ∙ h))

-- two subsequences that meet in one key join
pub sub-join : (ys : List Term) (x k : Term) (ks : List Term) → IsDistinct same ys → IsSubsequence (x ∷ k ∷ []) ys → IsSubsequence (k ∷ ks) ys → IsSubsequence (x ∷ k ∷ ks) ys
unfolding IsDistinct
sub-join [] x k ks d s t = absurd s
sub-join (y ∷ ys) x k ks d (inl s) (inl t) = absurd (not-itself k y t.0 (behind-apart y k [] ys d s.1))
sub-join (y ∷ ys) x k ks d (inl s) (inr t) = inl (s.0, t)
sub-join (y ∷ ys) x k ks d (inr s) (inl t) = absurd (not-itself k y t.0 (behind-apart y k [] ys d (sub-tail x (k ∷ []) ys s)))
sub-join (y ∷ ys) x k ks d (inr s) (inr t) = inr (sub-join ys x k ks d.1 s t)
