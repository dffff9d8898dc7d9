-- Parts of lists and tuples, of terms and of their trees.
use Rattle.std.proofs.Common.{◌≡◌, ℕ, zero, suc, ◌-◌, ◌==◌, ℤ, if◌then◌else◌, false, List, [], ◌∷◌, Some, None, map, length, drop, rules, refl, sym, ap, ◌∙◌, arith}
use Rattle.std.proofs.lemmas.Bool.Decides.{nat_tests}
use Rattle.std.specs.List.{slice_get}
use Rattle.std.specs.Option.{option_map}
use Rattle.ets_term.specs.declared.term.Term.{Term, the_lemmas}
use Rattle.ets_term.specs.declared.term.Term.TheVariants.{Int, Atom, Pid, Tid, Tuple, List as Lst, Binary}
use Rattle.ets_term.specs.Data.{Data, int, atom, pid, tid, tuple, list, binary, data_list, data_of}
use Rattle.ets_term.specs.Depth.{elements, element_at}
use Rattle.ets_term.specs.laws.Exact.{back, data_of-Tuple, data_of-List}
use Rattle.ets_term.specs.Trees.{term_of, terms_of}
use Rattle.match_spec.specs.Functions.{tail, list_length, size, count, data_list_element, tuple_element}
use Rattle.match_spec.proofs.ExpressionLaws.{data_list_len_of}

pub data_list_element_get : (ts : List Term) (i : ℕ) → data_list_element (data_list (map data_of ts)) i ≡ option_map data_of (slice_get ts i)
data_list_element_get [] zero = refl
data_list_element_get [] (suc i) = refl
data_list_element_get (t ∷ ts) zero = refl
data_list_element_get (t ∷ ts) (suc i) = data_list_element_get ts i

elements-Tuple : (ts : List Term) → elements (Tuple ts) ≡ ts
elements-Tuple ts = search (rules, the_lemmas)

elements-Int : (n : ℤ) → elements (Int n) ≡ []
elements-Int n = search (rules, the_lemmas)

elements-Atom : (a : List ℕ) → elements (Atom a) ≡ []
elements-Atom a = search (rules, the_lemmas)

elements-Pid : (n : ℕ) → elements (Pid n) ≡ []
elements-Pid n = search (rules, the_lemmas)

elements-Tid : (n : ℕ) → elements (Tid n) ≡ []
elements-Tid n = search (rules, the_lemmas)

elements-List : (ts : List Term) → elements (Lst ts) ≡ []
elements-List ts = search (rules, the_lemmas)

elements-Binary : (s : List ℕ) → elements (Binary s) ≡ []
elements-Binary s = search (rules, the_lemmas)

nothing : (ts : List Term) (i : ℕ) → ts ≡ [] → option_map data_of (slice_get ts i) ≡ None
nothing ts i e = rw e (sym (data_list_element_get [] i) ∙ empty i)
  where
    empty : (i : ℕ) → data_list_element (data_list (map data_of [])) i ≡ None
    empty i = refl

module _ (i : ℕ) (t : Term) where
  by_kind : (d : Data) → t ≡ term_of d → option_map data_of (slice_get (elements t) i) ≡ tuple_element (suc i) (data_of t)
  by_kind (tuple ds) e = rw (e, elements-Tuple (terms_of ds), data_of-Tuple (terms_of ds)) (sym (data_list_element_get (terms_of ds) i))
  by_kind (int n) e = nothing _ i (ap elements e ∙ elements-Int n) ∙ rw e (search (rules, the_lemmas))
  by_kind (atom a) e = nothing _ i (ap elements e ∙ elements-Atom a) ∙ rw e (search (rules, the_lemmas))
  by_kind (pid n) e = nothing _ i (ap elements e ∙ elements-Pid n) ∙ rw e (search (rules, the_lemmas))
  by_kind (tid n) e = nothing _ i (ap elements e ∙ elements-Tid n) ∙ rw e (search (rules, the_lemmas))
  by_kind (list ds) e = nothing _ i (ap elements e ∙ elements-List (terms_of ds)) ∙ rw (e, data_of-List (terms_of ds)) refl
  by_kind (binary s) e = nothing _ i (ap elements e ∙ elements-Binary s) ∙ rw e (search (rules, the_lemmas))

-- element n of a term is element n of its tree
pub element_at_tree : (n : ℕ) (t : Term) → option_map data_of (element_at n t) ≡ tuple_element n (data_of t)
element_at_tree zero t = refl
element_at_tree (suc i) t =
    let some : (suc i == 0) ≡ false = grind (arith, nat_tests) in
    let less : suc i - 1 ≡ i = omega arith in
    rw (some, less) (by_kind i t (data_of t) (sym (back t)))

pub list_length_of : (t : Term) (ts : List Term) → t ≡ Lst ts → list_length (data_of t) ≡ count (length ts)
list_length_of t ts e = rw (e, data_of-List ts, data_list_len_of ts) refl

pub size_of_tuple : (t : Term) (ts : List Term) → t ≡ Tuple ts → size (data_of t) ≡ count (length ts)
size_of_tuple t ts e = rw (e, data_of-Tuple ts, data_list_len_of ts) refl

pub tail_of : (ts : List Term) → tail (list (data_list (map data_of ts))) ≡ (if length ts == 0 then None else Some (list (data_list (map data_of (drop 1 ts)))))
tail_of [] = refl
tail_of (t ∷ ts) = let some : (length (t ∷ ts) == 0) ≡ false = grind (arith, nat_tests) in rw some refl
