-- A list of parts around one of them, and lists joined from theirs.
use Rattle.std.proofs.Common.{◌≡◌, ◌⊎◌, inl, inr, ℕ, zero, suc, ◌+◌, ◌≤◌, ◌==◌, Bool, true, false, List, [], ◌∷◌, ◌++◌, Some, refl, sym, ap, arith}
use Rattle.std.specs.Prelude.{slice_get, slice_set}
use Rattle.std.specs.List.{AllByRecursion, flat_map, sum_by}
use Rattle.std.proofs.lemmas.Bool.Decides.{nat_tests}
use Rattle.std.proofs.lemmas.List.Concat.{flat_map-append}
use Rattle.std.proofs.lemmas.List.Sums.{sum_by-append, sum_by-cons}

-- a list around its element at one place
pub record Split {A : Type 0} (xs : List A) (k : ℕ) (x : A) : Type 1 where
  pub before : List A
  pub after : List A
  pub is : xs ≡ before ++ x ∷ after
  pub written : (y : A) → slice_set xs k y ≡ before ++ y ∷ after
  pub others : (P : A → Type 0) → ((j : ℕ) (y : A) → (j ≡ k → ⊥) → slice_get xs j ≡ Some y → P y) → AllByRecursion P before × AllByRecursion P after

pub all-at : {A : Type 0} (P : A → Type 0) (xs : List A) → ((j : ℕ) (y : A) → slice_get xs j ≡ Some y → P y) → AllByRecursion P xs
all-at P [] h = tt
all-at P (x ∷ xs) h = (h 0 x refl, all-at P xs (λ j y e. h (suc j) y e))

pub split : {A : Type 0} (xs : List A) (k : ℕ) (x : A) → slice_get xs k ≡ Some x → Split xs k x
split [] k x e = cc
split (y ∷ xs) zero x e =
    let own : y ≡ x = cc in
    record { before = []; after = xs; is = ap (λ z. z ∷ xs) own; written = λ z. refl; others = λ P h. (tt, all-at P xs (λ j z f. h (suc j) z (λ g. cc) f)) }
split (y ∷ xs) (suc k) x e =
    let rest = split xs k x e in
    record {
      before = y ∷ rest.before;
      after = rest.after;
      is = ap (λ l. y ∷ l) rest.is;
      written = λ z. ap (λ l. y ∷ l) (rest.written z);
      others = λ P h.
          let both = rest.others P (λ j z apart f. h (suc j) z (λ g. apart (omega (arith, g))) f) in
          ((h 0 y (λ g. cc) refl, both.0), both.1);
    }

-- what is at a place after one is written
pub get-set : {A : Type 0} (xs : List A) (j i : ℕ) (v x : A) → slice_get (slice_set xs j v) i ≡ Some x → ((i ≡ j) × (x ≡ v)) ⊎ ((i ≡ j → ⊥) × (slice_get xs i ≡ Some x))
get-set [] j i v e h = cc
get-set (x ∷ xs) zero zero v e h = let is : v ≡ e = cc in inl (refl, sym is)
get-set (x ∷ xs) zero (suc i) v e h = inr (λ f. cc, h)
get-set (x ∷ xs) (suc j) zero v e h = inr (λ f. cc, h)
get-set {A = A} (x ∷ xs) (suc j) (suc i) v e h = further (get-set xs j i v e h)
  where
    further : ((i ≡ j) × (e ≡ v)) ⊎ ((i ≡ j → ⊥) × (slice_get xs i ≡ Some e)) → ((suc i ≡ suc j) × (e ≡ v)) ⊎ ((suc i ≡ suc j → ⊥) × (slice_get xs i ≡ Some e))
    further (inl p) = inl (ap (λ n. suc n) p.0, p.1)
    further (inr p) = inr (λ f. p.0 (omega (arith, f)), p.1)

-- two numbers are the same or not
pub same-or-not : (u t : ℕ) → (u ≡ t) ⊎ (u ≡ t → ⊥)
same-or-not u t = by (u == t) refl
  where
    by : (b : Bool) → (u == t) ≡ b → (u ≡ t) ⊎ (u ≡ t → ⊥)
    by true e = inl (grind (arith, nat_tests, e))
    by false e = inr (λ f. grind (arith, nat_tests, e, f))

all-join : {B : Type 0} (P : B → Type 0) (ys zs : List B) → AllByRecursion P ys → AllByRecursion P zs → AllByRecursion P (ys ++ zs)
all-join P [] zs h k = k
all-join P (y ∷ ys) zs h k = (h.0, all-join P ys zs h.1 k)

module _ {A : Type 0} where
  pub sum-around : (f : A → ℕ) (before after : List A) (x : A) → sum_by f (before ++ x ∷ after) ≡ sum_by f before + (f x + sum_by f after)
  sum-around f before after x = omega (arith, sum_by-append f before (x ∷ after), sum_by-cons f x after)

  pub flat-around : {B : Type 0} (f : A → List B) (before after : List A) (x : A) → flat_map f (before ++ x ∷ after) ≡ flat_map f before ++ (f x ++ flat_map f after)
  flat-around f before after x = flat_map-append f before (x ∷ after)

  -- what holds of the elements of each list holds of those of all
  pub flat-all : {B : Type 0} (P : B → Type 0) (f : A → List B) (xs : List A) → AllByRecursion (λ x. AllByRecursion P (f x)) xs → AllByRecursion P (flat_map f xs)
  flat-all P f [] h = tt
  flat-all P f (x ∷ xs) h = all-join P (f x) (flat_map f xs) h.0 (flat-all P f xs h.1)

  -- each count is at most its limit, and so is the count of all
  pub flat-within : {B : Type 0} (count : List B → ℕ) (f : A → List B) (limit : A → ℕ) → count [] ≡ 0 → ((ys zs : List B) → count (ys ++ zs) ≡ count ys + count zs)
      → (xs : List A) → AllByRecursion (λ x. count (f x) ≤ limit x) xs → count (flat_map f xs) ≤ sum_by limit xs
  flat-within count f limit none parts [] h = omega (arith, none)
  flat-within count f limit none parts (x ∷ xs) h =
      let rest = flat-within count f limit none parts xs h.1 in
      omega (arith, parts (f x) (flat_map f xs), h.0, rest, sum_by-cons limit x xs)
