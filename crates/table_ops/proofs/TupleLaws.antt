-- A tuple with some of its elements replaced.
use Rattle.std.proofs.Common.{◌≡◌, ◌⊎◌, inl, inr, ℕ, zero, suc, ◌+◌, ◌<◌, ◌≤◌, false, List, [], ◌∷◌, Some, refl, sym, ap, subst, ◌∙◌, map, slice_get, slice_set, arith, rules}
use Rattle.std.specs.Prelude.{nat_lt, nat_le}
use Rattle.std.proofs.lemmas.Bool.Decides.{nat_tests}
use Rattle.ets_term.specs.declared.term.Term.{Term, out-Term, ind-Term, fold-roll-Term, the_lemmas}
use Rattle.ets_term.specs.declared.term.Term.TheViews.{roll-Term}
use Rattle.ets_term.specs.declared.term.Term.TheFolds.{map-Term}
use Rattle.ets_term.specs.declared.term.Term.TheOpen.{Term-F}
use Rattle.ets_term.specs.declared.term.Term.TheVariants.{Tuple, Int}
use Rattle.ets_term.specs.declared.term.TheConstants.{MAX_DEPTH}
use Rattle.ets_term.specs.Depth.{depth, depth_form, largest, is_too_deep, elements}

pub depth-Tuple : (ts : List Term) → depth (Tuple ts) ≡ largest (map depth ts) + 1
depth-Tuple ts = search (rules, the_lemmas)

pub depth-Int : (n : _) → depth (Int n) ≡ 1
depth-Int n = search (rules, the_lemmas)

pub elements-Tuple : (ts : List Term) → elements (Tuple ts) ≡ ts
elements-Tuple ts = search (rules, the_lemmas)

abbrev Deep : Term → Type 0
Deep t = (es : List Term) → out-Term t ≡ Term-F.Tuple es → depth t ≡ largest (map depth es) + 1

abbrev plain : (t : Term) × Deep t → Term
plain k = k.0

abbrev opened : Term-F ((t : Term) × Deep t) → Term
opened y = roll-Term (map-Term ((t : Term) × Deep t) Term plain y)

one-deep : (y : Term-F ((t : Term) × Deep t)) → Deep (opened y)
one-deep (Term-F.Tuple ks) es h =
    let out : Term-F.Tuple (map plain ks) ≡ Term-F.Tuple es = search (rules, the_lemmas, h) in
    let same : map plain ks ≡ es = cc in
    fold-roll-Term ℕ depth_form (Term-F.Tuple (map plain ks)) ∙ ap (λ l. largest (map depth l) + 1) same
one-deep (Term-F.Int n) es h = search (rules, the_lemmas, h)
one-deep (Term-F.Atom n) es h = search (rules, the_lemmas, h)
one-deep (Term-F.Pid n) es h = search (rules, the_lemmas, h)
one-deep (Term-F.Tid n) es h = search (rules, the_lemmas, h)
one-deep (Term-F.List n) es h = search (rules, the_lemmas, h)
one-deep (Term-F.Binary n) es h = search (rules, the_lemmas, h)

pub depth-of : (t : Term) → Deep t
depth-of = ind-Term Deep (λ x y e. subst (λ (z : Term-F Term). Deep (roll-Term z)) e (one-deep y))

-- an element whose depth allows it in an object
abbrev pub Fits : Term → Type 0
Fits t = nat_le MAX_DEPTH (depth t) ≡ false

abbrev pub AllFit : List Term → Type 0
AllFit es = (i : ℕ) (e : Term) → slice_get es i ≡ Some e → Fits e

at-most : (n : ℕ) (es : List Term) (i : ℕ) (e : Term) → slice_get es i ≡ Some e → largest (map depth es) ≤ n → depth e ≤ n
at-most n [] i e h few = cc
at-most n (x ∷ xs) zero e h few = let is : x ≡ e = cc in omega (arith, few, ap depth is)
at-most n (x ∷ xs) (suc i) e h few = at-most n xs i e h (omega (arith, few))

largest-few : (n : ℕ) (es : List Term) → ((i : ℕ) (e : Term) → slice_get es i ≡ Some e → depth e ≤ n) → largest (map depth es) ≤ n
largest-few n [] h = omega arith
largest-few n (x ∷ xs) h = omega (arith, h zero x refl, largest-few n xs (λ i e g. h (suc i) e g))

not-over : (a b : ℕ) → nat_lt a (b + 1) ≡ false → b < a
not-over a b h = grind (arith, nat_tests)

is-not-over : (a b : ℕ) → b < a → nat_lt a (b + 1) ≡ false
is-not-over a b h = grind (arith, nat_tests)

not-reached : (a b : ℕ) → nat_le a b ≡ false → b < a
not-reached a b h = grind (arith, nat_tests)

is-not-reached : (a b : ℕ) → b < a → nat_le a b ≡ false
is-not-reached a b h = grind (arith, nat_tests)

pub fit-of : (t : Term) (es : List Term) → out-Term t ≡ Term-F.Tuple es → is_too_deep t ≡ false → AllFit es
fit-of t es h shallow i e at =
    let below = not-over MAX_DEPTH (largest (map depth es)) (ap (nat_lt MAX_DEPTH) (sym (depth-of t es h)) ∙ shallow) in
    let least : largest (map depth es) ≤ 127 = omega (arith, below) in
    let own = at-most 127 es i e at least in
    is-not-reached MAX_DEPTH (depth e) (omega (arith, own))

pub shallow-Tuple : (es : List Term) → AllFit es → is_too_deep (Tuple es) ≡ false
shallow-Tuple es fit =
    let few = largest-few 127 es (λ i e at. let below = not-reached MAX_DEPTH (depth e) (fit i e at) in omega (arith, below)) in
    ap (nat_lt MAX_DEPTH) (depth-Tuple es) ∙ is-not-over MAX_DEPTH (largest (map depth es)) (omega (arith, few))

-- an element of a tuple with one element replaced is the new one, or was there
pub get-set : (es : List Term) (j i : ℕ) (v e : Term) → slice_get (slice_set es j v) i ≡ Some e → ((i ≡ j) × (e ≡ v)) ⊎ ((i ≡ j → ⊥) × (slice_get es i ≡ Some e))
get-set [] j i v e h = cc
get-set (x ∷ xs) zero zero v e h = let is : v ≡ e = cc in inl (refl, sym is)
get-set (x ∷ xs) zero (suc i) v e h = inr (λ f. cc, h)
get-set (x ∷ xs) (suc j) zero v e h = inr (λ f. cc, h)
get-set (x ∷ xs) (suc j) (suc i) v e h = further (get-set xs j i v e h)
  where
    further : ((i ≡ j) × (e ≡ v)) ⊎ ((i ≡ j → ⊥) × (slice_get xs i ≡ Some e)) → ((suc i ≡ suc j) × (e ≡ v)) ⊎ ((suc i ≡ suc j → ⊥) × (slice_get xs i ≡ Some e))
    further (inl p) = inl (ap (λ n. suc n) p.0, p.1)
    further (inr p) = inr (λ f. p.0 (omega (arith, f)), p.1)

pub get-other : (es : List Term) (j i : ℕ) (v : Term) → (i ≡ j → ⊥) → slice_get (slice_set es j v) i ≡ slice_get es i
get-other [] j i v apart = refl
get-other (x ∷ xs) zero zero v apart = absurd (apart refl)
get-other (x ∷ xs) zero (suc i) v apart = refl
get-other (x ∷ xs) (suc j) zero v apart = refl
get-other (x ∷ xs) (suc j) (suc i) v apart = get-other xs j i v (λ f. apart (ap (λ n. suc n) f))
