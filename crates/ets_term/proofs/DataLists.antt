-- DataLists of data.
use Rattle.std.proofs.Common.{◌≡◌, ℕ, zero, suc, min, drop, List, [], ◌∷◌, map, length, refl, sym, ap, ◌∙◌, arith, nat_cmp, Ordering, Less, Equal, Greater}
use Rattle.std.proofs.lemmas.Bool.Decides.{nat_tests}
use Rattle.std.specs.Ordering.{ordering_then}
use Rattle.ets_term.specs.declared.term.Term.{Term}
use Rattle.ets_term.specs.Data.{data_list, data_of}
use Rattle.ets_term.specs.Order.{data_list_len, data_list_order, order}
use Rattle.ets_term.specs.declared.term.Term.TheVariants.{Tuple}
use Rattle.ets_term.specs.laws.Exact.{data_of-Tuple}

pub data_list_len_of : (ts : List Term) → data_list_len (data_list (map data_of ts)) ≡ length ts
data_list_len_of [] = refl
data_list_len_of (t ∷ ts) = ap suc (data_list_len_of ts)

pub decided : (o p : Ordering) → (o ≡ Equal → ⊥) → o ≡ ordering_then o p
decided Less p h = refl
decided Equal p h = absurd (h refl)
decided Greater p h = refl

pub tuples : (x y : List Term) (a b : Term) → a ≡ Tuple x → b ≡ Tuple y
    → order a b ≡ ordering_then (nat_cmp (length x) (length y)) (data_list_order (data_list (map data_of x)) (data_list (map data_of y)))
tuples x y a b is_a is_b = rw (is_a, is_b, data_of-Tuple x, data_of-Tuple y, data_list_len_of x, data_list_len_of y)

nat_cmp-suc : (m n : ℕ) → nat_cmp (suc m) (suc n) ≡ nat_cmp m n
nat_cmp-suc m n = grind (arith, nat_tests)

-- past the end of the shorter of two lists, the longer is greater
pub by_length : (xs ys : List Term) (i : ℕ) → i ≡ min (length xs) (length ys)
    → data_list_order (data_list (map data_of (drop i xs))) (data_list (map data_of (drop i ys))) ≡ nat_cmp (length xs) (length ys)
by_length [] [] zero e = refl
by_length [] (y ∷ ys) zero e = grind (arith, nat_tests)
by_length (x ∷ xs) [] zero e = grind (arith, nat_tests)
by_length (x ∷ xs) (y ∷ ys) zero e = absurd (omega arith)
by_length [] ys (suc i) e = absurd (omega arith)
by_length (x ∷ xs) [] (suc i) e = absurd (omega arith)
by_length (x ∷ xs) (y ∷ ys) (suc i) e = by_length xs ys i (omega arith) ∙ sym (nat_cmp-suc (length xs) (length ys))
