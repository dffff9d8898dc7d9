-- Lists with the same elements in another order: what filters, maps and lookups make of them.
use Rattle.std.proofs.Common.{◌≡◌, suc, Bool, true, false, cond, List, [], ◌∷◌, ◌++◌, Option, None, Some, map, filter, refl, sym, ap, ◌∙◌, length, true≢false}
use Rattle.std.specs.Prelude.{IsPermutation, flat_map}
use Rattle.std.specs.List.{filter_map, cons_option, IsDistinct}
use Rattle.std.specs.Map.{keys_of, lookup, set_value}
use Rattle.std.proofs.lemmas.Map.Keys.{IsDistinct-IsPermutation}
use Rattle.std.proofs.lemmas.List.Sorted.{IsPermutation-refl, IsPermutation-cons, IsPermutation-trans, IsPermutation-middle}

pub data Shuffled (X : Type 0) : List X → List X → Type 0 where
  same : (xs : List X) → Shuffled X xs xs
  keep : (x : X) (xs ys : List X) → Shuffled X xs ys → Shuffled X (x ∷ xs) (x ∷ ys)
  swap : (x y : X) (xs : List X) → Shuffled X (x ∷ y ∷ xs) (y ∷ x ∷ xs)
  join : (xs ys zs : List X) → Shuffled X xs ys → Shuffled X ys zs → Shuffled X xs zs

-- std's word for it
pub permuted : (X : Type 0) (xs ys : List X) → Shuffled X xs ys → IsPermutation xs ys
permuted X _ _ (same xs) = IsPermutation-refl xs
permuted X _ _ (keep x xs ys h) = IsPermutation-cons x xs ys (permuted X xs ys h)
permuted X _ _ (swap x y xs) = IsPermutation-middle (x ∷ []) y xs
permuted X _ _ (join xs ys zs h k) = IsPermutation-trans xs ys zs (permuted X xs ys h) (permuted X ys zs k)

module _ {X : Type 0} where
  -- ---- an element goes to any place, and parts are exchanged
  pub to-front : (front back : List X) (x : X) → Shuffled X (front ++ x ∷ back) (x ∷ (front ++ back))
  to-front [] back x = same (x ∷ back)
  to-front (y ∷ front) back x = join _ _ _ (keep y _ _ (to-front front back x)) (swap y x (front ++ back))

  pub from-front : (front back : List X) (x : X) → Shuffled X (x ∷ (front ++ back)) (front ++ x ∷ back)
  from-front [] back x = same (x ∷ back)
  from-front (y ∷ front) back x = join _ _ _ (swap x y (front ++ back)) (keep y _ _ (from-front front back x))

  pub after : (xs ys zs : List X) → Shuffled X xs ys → Shuffled X (zs ++ xs) (zs ++ ys)
  after xs ys [] h = h
  after xs ys (z ∷ zs) h = keep z _ _ (after xs ys zs h)

  pub exchange : (xs ys zs : List X) → Shuffled X (xs ++ (ys ++ zs)) (ys ++ (xs ++ zs))
  exchange [] ys zs = same (ys ++ zs)
  exchange (x ∷ xs) ys zs = join _ _ _ (keep x _ _ (exchange xs ys zs)) (from-front ys (xs ++ zs) x)

  -- an element enters both at some place
  pub put-shuffled : (f b f' b' : List X) (x : X) → Shuffled X (f ++ b) (f' ++ b') → Shuffled X (f ++ x ∷ b) (f' ++ x ∷ b')
  put-shuffled f b f' b' x h = join _ _ _ (to-front f b x) (join _ _ _ (keep x _ _ h) (from-front f' b' x))

  -- ---- filters
  module _ (test : X → Bool) where
    kept : (b : Bool) (x : X) (xs ys : List X) → Shuffled X xs ys → Shuffled X (cond b (x ∷ xs) xs) (cond b (x ∷ ys) ys)
    kept true x xs ys h = keep x xs ys h
    kept false x xs ys h = h

    swapped : (b c : Bool) (x y : X) (xs : List X) → Shuffled X (cond b (x ∷ cond c (y ∷ xs) xs) (cond c (y ∷ xs) xs)) (cond c (y ∷ cond b (x ∷ xs) xs) (cond b (x ∷ xs) xs))
    swapped true true x y xs = swap x y xs
    swapped true false x y xs = same (x ∷ xs)
    swapped false true x y xs = same (y ∷ xs)
    swapped false false x y xs = same xs

    pub filter-shuffled : (xs ys : List X) → Shuffled X xs ys → Shuffled X (filter test xs) (filter test ys)
    filter-shuffled _ _ (same xs) = same (filter test xs)
    filter-shuffled _ _ (keep x xs ys h) = kept (test x) x (filter test xs) (filter test ys) (filter-shuffled xs ys h)
    filter-shuffled _ _ (swap x y xs) = swapped (test x) (test y) x y (filter test xs)
    filter-shuffled _ _ (join xs ys zs h k) = join _ _ _ (filter-shuffled xs ys h) (filter-shuffled ys zs k)

-- ---- maps
module _ {X Y : Type 0} where
  pub map-shuffled : (f : X → Y) (xs ys : List X) → Shuffled X xs ys → Shuffled Y (map f xs) (map f ys)
  map-shuffled f _ _ (same xs) = same (map f xs)
  map-shuffled f _ _ (keep x xs ys h) = keep (f x) _ _ (map-shuffled f xs ys h)
  map-shuffled f _ _ (swap x y xs) = swap (f x) (f y) (map f xs)
  map-shuffled f _ _ (join xs ys zs h k) = join _ _ _ (map-shuffled f xs ys h) (map-shuffled f ys zs k)

  pub flat-shuffled : (f : X → List Y) (xs ys : List X) → Shuffled X xs ys → Shuffled Y (flat_map f xs) (flat_map f ys)
  flat-shuffled f _ _ (same xs) = same (flat_map f xs)
  flat-shuffled f _ _ (keep x xs ys h) = after _ _ (f x) (flat-shuffled f xs ys h)
  flat-shuffled f _ _ (swap x y xs) = exchange (f x) (f y) (flat_map f xs)
  flat-shuffled f _ _ (join xs ys zs h k) = join _ _ _ (flat-shuffled f xs ys h) (flat-shuffled f ys zs k)

some-kept : {Y : Type 0} (o : Option Y) (xs ys : List Y) → Shuffled Y xs ys → Shuffled Y (cons_option o xs) (cons_option o ys)
some-kept None xs ys h = h
some-kept (Some y) xs ys h = keep y xs ys h

some-swapped : {Y : Type 0} (o p : Option Y) (xs : List Y) → Shuffled Y (cons_option o (cons_option p xs)) (cons_option p (cons_option o xs))
some-swapped None p xs = same (cons_option p xs)
some-swapped (Some x) None xs = same (x ∷ xs)
some-swapped (Some x) (Some y) xs = swap x y xs

pub found-shuffled : {X Y : Type 0} (f : X → Option Y) (xs ys : List X) → Shuffled X xs ys → Shuffled Y (filter_map f xs) (filter_map f ys)
found-shuffled f _ _ (same xs) = same (filter_map f xs)
found-shuffled f _ _ (keep x xs ys h) = some-kept (f x) _ _ (found-shuffled f xs ys h)
found-shuffled f _ _ (swap x y xs) = some-swapped (f x) (f y) (filter_map f xs)
found-shuffled f _ _ (join xs ys zs h k) = join _ _ _ (found-shuffled f xs ys h) (found-shuffled f ys zs k)

pub length-shuffled : {X : Type 0} (xs ys : List X) → Shuffled X xs ys → length xs ≡ length ys
length-shuffled _ _ (same xs) = refl
length-shuffled _ _ (keep x xs ys h) = ap suc (length-shuffled xs ys h)
length-shuffled _ _ (swap x y xs) = refl
length-shuffled _ _ (join xs ys zs h k) = length-shuffled xs ys h ∙ length-shuffled ys zs k

-- ---- lookups, where at most one key passes the test
module _ {K X : Type 0} (eq : K → K → Bool) (flips : (x y : K) → eq x y ≡ eq y x) where
  pub distinct-shuffled : (xs ys : List (K × X)) → Shuffled (K × X) xs ys → IsDistinct eq (keys_of xs) → IsDistinct eq (keys_of ys)
  distinct-shuffled xs ys h d =
      IsDistinct-IsPermutation eq flips (keys_of xs) (keys_of ys) (permuted K _ _ (map-shuffled (λ (e : K × X). e.0) xs ys h)) d

  distinct-rest : (x : K × X) (xs : List (K × X)) → IsDistinct eq (keys_of (x ∷ xs)) → IsDistinct eq (keys_of xs)
  unfolding IsDistinct
  distinct-rest x xs d = d.1

  distinct-two : (x y : K × X) (xs : List (K × X)) → IsDistinct eq (keys_of (x ∷ y ∷ xs)) → eq x.0 y.0 ≡ false
  unfolding IsDistinct
  distinct-two x y xs d = d.0.0

  module _ (test : K → Bool) (exclusive : (x y : K) → test x ≡ true → test y ≡ true → eq x y ≡ true) where
    never-both : {Z : Type 0} (x y : K × X) → eq x.0 y.0 ≡ false → test x.0 ≡ true → test y.0 ≡ true → Z
    never-both x y e p q = absurd (true≢false (sym (exclusive x.0 y.0 p q) ∙ e))

    looked-swapped : (b c : Bool) (x y : K × X) (o : Option X) → eq x.0 y.0 ≡ false → test x.0 ≡ b → test y.0 ≡ c
        → cond b (Some x.1) (cond c (Some y.1) o) ≡ cond c (Some y.1) (cond b (Some x.1) o)
    looked-swapped true true x y o e p q = never-both x y e p q
    looked-swapped true false x y o e p q = refl
    looked-swapped false c x y o e p q = refl

    pub lookup-shuffled : (xs ys : List (K × X)) → Shuffled (K × X) xs ys → IsDistinct eq (keys_of xs) → lookup test xs ≡ lookup test ys
    lookup-shuffled _ _ (same xs) d = refl
    lookup-shuffled _ _ (keep x xs ys h) d = ap (cond (test x.0) (Some x.1)) (lookup-shuffled xs ys h (distinct-rest x xs d))
    lookup-shuffled _ _ (swap x y xs) d = looked-swapped (test x.0) (test y.0) x y (lookup test xs) (distinct-two x y xs d) refl refl
    lookup-shuffled _ _ (join xs ys zs h k) d = lookup-shuffled xs ys h d ∙ lookup-shuffled ys zs k (distinct-shuffled xs ys h d)

    module _ (w : X) where
      set-kept : (b : Bool) (x : K × X) (xs ys : List (K × X)) → Shuffled (K × X) xs ys → Shuffled (K × X) (set_value test xs w) (set_value test ys w)
          → Shuffled (K × X) (cond b ((x.0, w) ∷ xs) (x ∷ set_value test xs w)) (cond b ((x.0, w) ∷ ys) (x ∷ set_value test ys w))
      set-kept true x xs ys h k = keep (x.0, w) xs ys h
      set-kept false x xs ys h k = keep x _ _ k

      set-swapped : (b c : Bool) (x y : K × X) (xs : List (K × X)) → eq x.0 y.0 ≡ false → test x.0 ≡ b → test y.0 ≡ c
          → Shuffled (K × X) (cond b ((x.0, w) ∷ y ∷ xs) (x ∷ cond c ((y.0, w) ∷ xs) (y ∷ set_value test xs w))) (cond c ((y.0, w) ∷ x ∷ xs) (y ∷ cond b ((x.0, w) ∷ xs) (x ∷ set_value test xs w)))
      set-swapped true true x y xs e p q = never-both x y e p q
      set-swapped true false x y xs e p q = swap (x.0, w) y xs
      set-swapped false true x y xs e p q = swap x (y.0, w) xs
      set-swapped false false x y xs e p q = swap x y (set_value test xs w)

      pub set-shuffled : (xs ys : List (K × X)) → Shuffled (K × X) xs ys → IsDistinct eq (keys_of xs) → Shuffled (K × X) (set_value test xs w) (set_value test ys w)
      set-shuffled _ _ (same xs) d = same (set_value test xs w)
      set-shuffled _ _ (keep x xs ys h) d = set-kept (test x.0) x xs ys h (set-shuffled xs ys h (distinct-rest x xs d))
      set-shuffled _ _ (swap x y xs) d = set-swapped (test x.0) (test y.0) x y xs (distinct-two x y xs d) refl refl
      set-shuffled _ _ (join xs ys zs h k) d = join _ _ _ (set-shuffled xs ys h d) (set-shuffled ys zs k (distinct-shuffled xs ys h d))
