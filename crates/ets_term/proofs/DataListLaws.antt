-- Two lists are equal if they have equal lengths and equal elements.
use Rattle.std.proofs.Common.{rules, ◌≡◌, ℕ, zero, suc, ◌<◌, ◌≤◌, ◌-◌, Bool, true, false, ◌&&◌, List, [], ◌∷◌, map, length, take, get_or, refl, sym, ap, ◌∙◌, arith, Ordering, Less, Equal, Greater, nat_cmp}
use native.Mathlib.Numerals.{unary_clauses}
use Rattle.std.proofs.lemmas.Bool.Decides.{nat_tests}
use Rattle.std.proofs.lemmas.List.{take_all}
use Rattle.std.proofs.lemmas.Map.Text.{is_eq-slice_cmp}
use Rattle.std.specs.Ordering.{ordering_then, is_eq}
use Rattle.std.specs.Str.{bytes_eq}
use Rattle.ets_term.specs.declared.term.Term.{Term, the_lemmas}
use Rattle.ets_term.specs.declared.term.Term.TheVariants.{Atom, Tuple, Binary}
use Rattle.ets_term.specs.Data.{atom, binary, data_list, data_of}
use Rattle.ets_term.specs.Order.{data_list_order, order, same}
use Rattle.ets_term.proofs.DataLists.{tuples}

-- whether two lists are equal
abbrev pub data_lists_alike : List Term → List Term → Bool
data_lists_alike xs ys = is_eq (data_list_order (data_list (map data_of xs)) (data_list (map data_of ys)))

is_eq-then : (a o : Ordering) → is_eq (ordering_then a o) ≡ (is_eq a && is_eq o)
is_eq-then Less o = refl
is_eq-then Equal o = refl
is_eq-then Greater o = refl

both_true : (a : Bool) → (a && true) ≡ a
both_true true = refl
both_true false = refl

and_assoc : (a b c : Bool) → ((a && b) && c) ≡ (a && (b && c))
and_assoc true b c = refl
and_assoc false b c = refl

either_false : (a b : Bool) → b ≡ false → (a && b) ≡ false
either_false true b h = h
either_false false b h = refl

pub sizes_differ : (xs ys : List Term) → (length xs ≡ length ys → ⊥) → data_lists_alike xs ys ≡ false
sizes_differ [] [] h = absurd (h refl)
sizes_differ [] (y ∷ ys) h = refl
sizes_differ (x ∷ xs) [] h = refl
sizes_differ (x ∷ xs) (y ∷ ys) h =
    is_eq-then (order x y) _ ∙ either_false (same x y) (data_lists_alike xs ys) (sizes_differ xs ys (λ e. h (ap suc e)))

pub last_too : (xs ys : List Term) (n : ℕ) (x y d e : Term) → n < length xs → n < length ys → x ≡ get_or xs n d → y ≡ get_or ys n e
    → data_lists_alike (take (suc n) xs) (take (suc n) ys) ≡ (data_lists_alike (take n xs) (take n ys) && same x y)
last_too [] ys n x y d e in_xs in_ys a b = absurd (omega (arith, in_xs))
last_too (v ∷ xs) [] n x y d e in_xs in_ys a b = absurd (omega (arith, in_ys))
last_too (v ∷ xs) (w ∷ ys) zero x y d e in_xs in_ys a b =
    is_eq-then (order v w) Equal ∙ both_true (same v w) ∙ λ i. same (sym a i) (sym b i)
last_too (v ∷ xs) (w ∷ ys) (suc n) x y d e in_xs in_ys a b =
    is_eq-then (order v w) _
    ∙ ap (λ r. same v w && r) (last_too xs ys n x y d e (omega (arith, in_xs)) (omega (arith, in_ys)) a b)
    ∙ sym (and_assoc (same v w) (data_lists_alike (take n xs) (take n ys)) (same x y))
    ∙ ap (λ r. r && same x y) (sym (is_eq-then (order v w) _))

same_size : (m n : ℕ) (o : Ordering) → (is_eq o ≡ true → m ≡ n) → is_eq (ordering_then (nat_cmp m n) o) ≡ is_eq o
same_size m n Less h = is_eq-then (nat_cmp m n) Less ∙ either_false _ false refl
same_size m n Equal h = let e : m ≡ n = h refl in grind (arith, nat_tests)
same_size m n Greater h = is_eq-then (nat_cmp m n) Greater ∙ either_false _ false refl

second_true : (a b : Bool) → (a && b) ≡ true → b ≡ true
second_true true b h = h
second_true false b h = absurd cc

sizes_alike : (xs ys : List Term) → data_lists_alike xs ys ≡ true → length xs ≡ length ys
sizes_alike [] [] h = refl
sizes_alike [] (y ∷ ys) h = absurd cc
sizes_alike (x ∷ xs) [] h = absurd cc
sizes_alike (x ∷ xs) (y ∷ ys) h = ap suc (sizes_alike xs ys (second_true (same x y) (data_lists_alike xs ys) (sym (is_eq-then (order x y) _) ∙ h)))

pub tuples_alike : (xs ys : List Term) (a b : Term) → a ≡ Tuple xs → b ≡ Tuple ys → same a b ≡ data_lists_alike xs ys
tuples_alike xs ys a b is_a is_b = ap is_eq (tuples xs ys a b is_a is_b) ∙ same_size (length xs) (length ys) _ (sizes_alike xs ys)

data_of-Atom : (s : List ℕ) → data_of (Atom s) ≡ atom s
data_of-Atom s = search (rules, the_lemmas)

data_of-Binary : (s : List ℕ) → data_of (Binary s) ≡ binary s
data_of-Binary s = search (rules, the_lemmas)

pub atoms_alike : (x y : List ℕ) (a b : Term) → a ≡ Atom x → b ≡ Atom y → same a b ≡ bytes_eq x y
atoms_alike x y a b is_a is_b = rw (is_a, is_b, data_of-Atom x, data_of-Atom y) (is_eq-slice_cmp x y)

pub binaries_alike : (x y : List ℕ) (a b : Term) → a ≡ Binary x → b ≡ Binary y → same a b ≡ bytes_eq x y
binaries_alike x y a b is_a is_b = rw (is_a, is_b, data_of-Binary x, data_of-Binary y) (is_eq-slice_cmp x y)

-- if the last of the first `at` terms differ, the lists differ
pub differ_here : (xs ys : List Term) (at : ℕ) (x y : Term) → 0 < at → at ≤ length xs → length xs ≡ length ys → x ≡ get_or xs (at - 1) x → y ≡ get_or ys (at - 1) y
    → same x y ≡ false → data_lists_alike (take at xs) (take at ys) ≡ data_lists_alike xs ys → data_lists_alike xs ys ≡ false
differ_here xs ys zero x y more within sizes is_x is_y differ known = absurd (omega (arith, more))
differ_here xs ys (suc n) x y more within sizes is_x is_y differ known =
    sym known ∙ last_too xs ys n x y x y (omega (arith, within)) (omega (arith, within, sizes)) (simp unary_clauses at is_x) (simp unary_clauses at is_y) ∙ either_false _ _ differ

-- if the last of the first `at` terms are equal, the terms before them decide
pub alike_here : (xs ys : List Term) (at : ℕ) (x y : Term) → 0 < at → at ≤ length xs → length xs ≡ length ys → x ≡ get_or xs (at - 1) x → y ≡ get_or ys (at - 1) y
    → same x y ≡ true → data_lists_alike (take at xs) (take at ys) ≡ data_lists_alike xs ys → data_lists_alike (take (at - 1) xs) (take (at - 1) ys) ≡ data_lists_alike xs ys
alike_here xs ys zero x y more within sizes is_x is_y equal known = absurd (omega (arith, more))
alike_here xs ys (suc n) x y more within sizes is_x is_y equal known =
    simp unary_clauses
    (sym (both_true (data_lists_alike (take n xs) (take n ys))) ∙ ap (λ r. data_lists_alike (take n xs) (take n ys) && r) (sym equal)
    ∙ sym (last_too xs ys n x y x y (omega (arith, within)) (omega (arith, within, sizes)) (simp unary_clauses at is_x) (simp unary_clauses at is_y)) ∙ known)

pub none_left : (xs ys : List Term) (at : ℕ) → at ≡ 0 → data_lists_alike (take at xs) (take at ys) ≡ data_lists_alike xs ys → data_lists_alike xs ys ≡ true
none_left xs ys zero e known = sym known
none_left xs ys (suc n) e known = absurd (omega (arith, e))

pub last_differs : (xs ys : List Term) (x y : Term) → 0 < length xs → length xs ≡ length ys → x ≡ get_or xs (length xs - 1) x → y ≡ get_or ys (length xs - 1) y
    → same x y ≡ false → false ≡ data_lists_alike xs ys
last_differs xs ys x y more sizes is_x is_y differ =
    sym (differ_here xs ys (length xs) x y more (omega arith) sizes is_x is_y differ
    (λ i. data_lists_alike (take_all (length xs) xs (omega arith) i) (take_all (length xs) ys (omega (arith, sizes)) i)))
