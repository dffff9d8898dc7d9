-- The number of fixes by process, from entries in any order.
use Rattle.std.proofs.Common.{◌≡◌, ◌≢◌, ℕ, ◌+◌, ◌-◌, ◌<◌, nat_eq, zero, suc, Bool, true, false, cond, unwrap_or, List, [], ◌∷◌, Option, None, Some, refl, sym, ap, subst, true≢false, ◌∙◌, length, arith, add-one}
use Rattle.std.specs.Prelude.{nat_lt, Box}
use Rattle.std.proofs.lemmas.Bool.Decides.{nat_tests}
use Rattle.std.specs.Ordering.{nat_cmp, is_eq, eq_by_cmp}
use Rattle.std.specs.Cmp.{nat_cmp_total}
use Rattle.std.specs.Map.{lookup}
use Rattle.std.specs.FinMap.{FinMap, find, entries, get-entries, len-entries, get, len, empty, insert, remove, from_entries, get-from_entries, get-insert, get-remove, get-empty, len-empty, same_map, nat_cmp-IsAntisymmetric, empty_of_len}
use Rattle.std.specs.List.{slice_get}
use Rattle.std.specs.Global.{Global}
use Rattle.fixed_walk.specs.Fixes.{FixCounts, fix_count, is_fixed, with_count}
use Rattle.fixed_walk.specs.Invariants.{AreCounted, IsFixedBySome}
use Rattle.fixed_walk.specs.inside.LazyFixes.{boxed_fixes}

eq_symm : (a b : ℕ) → nat_eq a b ≡ nat_eq b a
eq_symm a b = grind (arith, nat_tests)

eq_cmp : (a b : ℕ) → is_eq (nat_cmp a b) ≡ nat_eq a b
eq_cmp a b = grind (arith, nat_tests)

pub find-lookup : (es : List (ℕ × ℕ)) (q : ℕ) → find nat_cmp q es ≡ lookup (λ k. nat_eq q k) es
find-lookup [] q = refl
find-lookup (e ∷ es) q = rw (eq_cmp q e.0, find-lookup es q) refl

pub get-lookup : (es : List (ℕ × ℕ)) (q : ℕ) → get (from_entries {R = nat_cmp} es) q ≡ lookup (λ k. nat_eq q k) es
get-lookup es q = get-from_entries nat_cmp_total es q ∙ find-lookup es q

pub inserted : (es new : List (ℕ × ℕ)) (k v : ℕ) → ((q : ℕ) → lookup (λ x. nat_eq q x) new ≡ cond (nat_eq k q) (Some v) (lookup (λ x. nat_eq q x) es)) → from_entries {R = nat_cmp} new ≡ insert (from_entries {R = nat_cmp} es) k v
inserted es new k v h =
    same_map nat_cmp_total nat_cmp-IsAntisymmetric _ _ (λ q. get-lookup new q ∙ h q ∙ sym (get-insert nat_cmp_total (from_entries {R = nat_cmp} es) k v q ∙ rw (eq_cmp q k, get-lookup es q, eq_symm q k) refl))

pub removed : (es new : List (ℕ × ℕ)) (k : ℕ) → ((q : ℕ) → lookup (λ x. nat_eq q x) new ≡ cond (nat_eq k q) None (lookup (λ x. nat_eq q x) es)) → from_entries {R = nat_cmp} new ≡ remove (from_entries {R = nat_cmp} es) k
removed es new k h =
    same_map nat_cmp_total nat_cmp-IsAntisymmetric _ _ (λ q. get-lookup new q ∙ h q ∙ sym (get-remove nat_cmp_total (from_entries {R = nat_cmp} es) k q ∙ rw (eq_cmp q k, get-lookup es q, eq_symm q k) refl))

-- a map with an entry is not empty
len-some : (m : FinMap nat_cmp ℕ) (k v : ℕ) → get m k ≡ Some v → 0 < len m
len-some m k v e = by (len m) refl
  where
    by : (n : ℕ) → len m ≡ n → 0 < len m
    by zero l = let none : get m k ≡ None = ap (λ (m' : FinMap nat_cmp ℕ). get m' k) (empty_of_len m l) ∙ get-empty nat_cmp k in cc
    by (suc n) l = omega (arith, l)

nat_eq-refl : (k : ℕ) → nat_eq k k ≡ true
nat_eq-refl k = grind (arith, nat_tests)

pub inserted-fixed : (m : FinMap nat_cmp ℕ) (k v : ℕ) → is_fixed (insert m k v) ≡ true
inserted-fixed m k v =
    let some : get (insert m k v) k ≡ Some v = get-insert nat_cmp_total m k v k ∙ rw (eq_cmp k k, nat_eq-refl k) refl in
    positive (len (insert m k v)) (len-some (insert m k v) k v some)
  where
    positive : (n : ℕ) → 0 < n → nat_lt 0 n ≡ true
    positive n h = grind (arith, nat_tests)

pub no-entries : (es : List (ℕ × ℕ)) → length es ≡ 0 → is_fixed (from_entries {R = nat_cmp} es) ≡ false
no-entries [] h = is (len (empty {X = ℕ} {R = nat_cmp})) (len-empty nat_cmp ℕ)
  where
    is : (n : ℕ) → n ≡ 0 → nat_lt 0 n ≡ false
    is n h = grind (arith, nat_tests)
no-entries (e ∷ es) h = absurd (omega (arith, h))

pub some-entries : (es : List (ℕ × ℕ)) → 0 < length es → is_fixed (from_entries {R = nat_cmp} es) ≡ true
some-entries [] h = absurd (omega (arith, h))
some-entries (e ∷ es) h = inserted-fixed (from_entries {R = nat_cmp} es) e.0 e.1

pub ruleset fix_counts = (get-lookup, inserted, removed, no-entries, some-entries)

pub more : (m : FinMap nat_cmp ℕ) (p n : ℕ) → insert m p (n + 1) ≡ with_count m p (n + 1)
more m p n = rw add-one refl

pub with_some : (m : FinMap nat_cmp ℕ) (p n : ℕ) → 0 < n → insert m p n ≡ with_count m p n
with_some m p zero h = absurd (omega (arith, h))
with_some m p (suc n) h = refl

pub with_none : (m : FinMap nat_cmp ℕ) (p n : ℕ) → n ≡ 0 → remove m p ≡ with_count m p n
with_none m p zero h = refl
with_none m p (suc n) h = absurd (omega (arith, h))

pub with_more-fixed : (m : FinMap nat_cmp ℕ) (p n : ℕ) → is_fixed (with_count m p (n + 1)) ≡ true
with_more-fixed m p n = ap is_fixed (sym (more m p n)) ∙ inserted-fixed m p (n + 1)

pub first-some : (es : List (ℕ × ℕ)) (e : ℕ × ℕ) → slice_get es 0 ≡ Some e → true ≡ is_fixed (from_entries {R = nat_cmp} es)
first-some [] e h = cc
first-some (x ∷ es) e h = sym (some-entries (x ∷ es) (omega arith))

pub first-none : (es : List (ℕ × ℕ)) → slice_get es 0 ≡ None → false ≡ is_fixed (from_entries {R = nat_cmp} es)
first-none [] h = sym (no-entries [] refl)
first-none (x ∷ es) h = cc

pub ruleset first_entries = (first-some, first-none)

-- without fixes, a release changes nothing
none-fixed : (m : FixCounts) → is_fixed m ≡ false → m ≡ empty
none-fixed m h = empty_of_len m (zero-of (len m) h)
  where
    zero-of : (n : ℕ) → nat_lt 0 n ≡ false → n ≡ 0
    zero-of n h = grind (arith, nat_tests)

none-cleared : (p : ℕ) → with_count (empty {X = ℕ} {R = nat_cmp}) p 0 ≡ empty
none-cleared p = same_map nat_cmp_total nat_cmp-IsAntisymmetric _ _ (λ q. get-remove nat_cmp_total (empty {X = ℕ} {R = nat_cmp}) p q ∙ either (eq_by_cmp nat_cmp q p) q)
  where
    either : (b : Bool) (q : ℕ) → cond b None (get (empty {X = ℕ} {R = nat_cmp}) q) ≡ get (empty {X = ℕ} {R = nat_cmp}) q
    either true q = sym (get-empty nat_cmp q)
    either false q = refl

none-released : (p : ℕ) → with_count (empty {X = ℕ} {R = nat_cmp}) p (fix_count empty p - 1) ≡ empty
none-released p = ap (λ o. with_count (empty {X = ℕ} {R = nat_cmp}) p (unwrap_or o 0 - 1)) (get-empty nat_cmp p) ∙ none-cleared p

pub free-cleared : (m : FixCounts) (p : ℕ) → is_fixed m ≡ false → with_count m p 0 ≡ m
free-cleared m p h = let none = none-fixed m h in ap (λ m. with_count m p 0) none ∙ (none-cleared p ∙ sym none)

pub free-released : (m : FixCounts) (p : ℕ) → is_fixed m ≡ false → with_count m p (fix_count m p - 1) ≡ m
free-released m p h = let none = none-fixed m h in ap (λ m. with_count m p (fix_count m p - 1)) none ∙ (none-released p ∙ sym none)

-- without a box there are no fixes
pub no-box : (box : Option (Box FixCounts Global)) (m : FixCounts) → box ≡ None → boxed_fixes box ≡ m → is_fixed m ≡ false
no-box box m none is = ap is_fixed (sym is ∙ ap boxed_fixes none) ∙ no-entries [] refl

pub free-counted : (m : FixCounts) (p : ℕ) → is_fixed m ≡ false → 0 ≡ fix_count m p
free-counted m p h = sym (ap (λ m. fix_count m p) (none-fixed m h) ∙ ap (λ o. unwrap_or o 0) (get-empty nat_cmp p))

-- ---- no entry is zero
counted-at : (b : Bool) (v : ℕ) (rest : Option ℕ) → 0 < v → rest ≢ Some 0 → cond b (Some v) rest ≢ Some 0
counted-at true v rest h r e = let zero_is : v ≡ 0 = cc in absurd (omega (arith, h, zero_is))
counted-at false v rest h r e = r e

gone-at : (b : Bool) (rest : Option ℕ) → rest ≢ Some 0 → cond b None rest ≢ Some 0
gone-at true rest r e = absurd (cc)
gone-at false rest r e = r e

counted-insert : (m : FixCounts) (p v : ℕ) → 0 < v → AreCounted m → AreCounted (insert m p v)
counted-insert m p v h a q e = counted-at (eq_by_cmp nat_cmp q p) v (get m q) h (a q) (sym (get-insert nat_cmp_total m p v q) ∙ e)

counted-remove : (m : FixCounts) (p : ℕ) → AreCounted m → AreCounted (remove m p)
counted-remove m p a q e = gone-at (eq_by_cmp nat_cmp q p) (get m q) (a q) (sym (get-remove nat_cmp_total m p q) ∙ e)

pub counted-empty : AreCounted (empty {X = ℕ} {R = nat_cmp})
counted-empty q e = let none : get (empty {X = ℕ} {R = nat_cmp}) q ≡ None = get-empty nat_cmp q in absurd (cc)

pub counted-none : (es : List (ℕ × ℕ)) → length es ≡ 0 → AreCounted (from_entries {R = nat_cmp} es)
counted-none [] h = counted-empty
counted-none (e ∷ es) h = absurd (omega (arith, h))

pub inserted-counted : (es new : List (ℕ × ℕ)) (k v : ℕ) → 0 < v → AreCounted (from_entries {R = nat_cmp} es) → ((q : ℕ) → lookup (λ x. nat_eq q x) new ≡ cond (nat_eq k q) (Some v) (lookup (λ x. nat_eq q x) es)) → AreCounted (from_entries {R = nat_cmp} new)
inserted-counted es new k v h a f = subst AreCounted (sym (inserted es new k v f)) (counted-insert (from_entries {R = nat_cmp} es) k v h a)

pub removed-counted : (es new : List (ℕ × ℕ)) (k : ℕ) → AreCounted (from_entries {R = nat_cmp} es) → ((q : ℕ) → lookup (λ x. nat_eq q x) new ≡ cond (nat_eq k q) None (lookup (λ x. nat_eq q x) es)) → AreCounted (from_entries {R = nat_cmp} new)
removed-counted es new k a f = subst AreCounted (sym (removed es new k f)) (counted-remove (from_entries {R = nat_cmp} es) k a)

some-entry : (m : FixCounts) (es : List (ℕ × ℕ)) → entries m ≡ es → AreCounted m → is_fixed m ≡ true → (p : ℕ) × (0 < fix_count m p)
some-entry m [] l a h = let none : len m ≡ 0 = len-entries m ∙ ap length l in absurd (true≢false (sym h ∙ ap (λ n. nat_lt 0 n) none))
some-entry m (e ∷ es) l a h =
    let found : get m e.0 ≡ Some e.1 = get-entries m e.0 ∙ (ap (find nat_cmp e.0) l ∙ (find-lookup (e ∷ es) e.0 ∙ ap (λ (b : Bool). cond b (Some e.1) (lookup (λ k. nat_eq e.0 k) es)) (nat_eq-refl e.0))) in
    (e.0, above e.1 found)
  where
    above : (v : ℕ) → get m e.0 ≡ Some v → 0 < fix_count m e.0
    above zero f = absurd (a e.0 f)
    above (suc v) f = let is : fix_count m e.0 ≡ suc v = ap (λ o. unwrap_or o 0) f in omega (arith, is)

count-some : (m : FixCounts) (p : ℕ) (o : Option ℕ) → get m p ≡ o → 0 < fix_count m p → is_fixed m ≡ true
count-some m p None e h = let is : fix_count m p ≡ 0 = ap (λ o. unwrap_or o 0) e in absurd (omega (arith, is, h))
count-some m p (Some v) e h = positive (len m) (len-some m p v e)
  where
    positive : (n : ℕ) → 0 < n → nat_lt 0 n ≡ true
    positive n h = grind (arith, nat_tests)

-- a table is fixed exactly if the number of a process is above zero
pub fixed-by-some : (m : FixCounts) → AreCounted m → IsFixedBySome m
fixed-by-some m a = (λ h. some-entry m (entries m) refl a h, λ c. count-some m c.0 (get m c.0) refl c.1)

pub free-by-none : (m : FixCounts) → is_fixed m ≡ false → IsFixedBySome m
free-by-none m h = fixed-by-some m (subst AreCounted (sym (none-fixed m h)) counted-empty)
