-- The printed text, kind by kind.
use Rattle.std.proofs.Common.{◌≡◌, ℕ, ℤ, List, [], ◌∷◌, ◌++◌, map, false, rules, decimal}
use Rattle.std.specs.Fmt.{signed_decimal}
use Rattle.ets_term.specs.declared.term.Term.{Term, the_lemmas}
use Rattle.ets_term.specs.declared.term.Term.TheVariants.{Int, Atom, Pid, Tid, Tuple, List as ListOf, Binary}
use Rattle.term_text.specs.Printed.{text_of_term, join_with_commas, atom_text}

pub text_of_term-Int : (n : ℤ) → text_of_term (Int n) ≡ signed_decimal n
text_of_term-Int n = search (rules, the_lemmas)

pub text_of_term-Atom : (s : List ℕ) → text_of_term (Atom s) ≡ atom_text s
text_of_term-Atom s = search (rules, the_lemmas)

pub text_of_term-Pid : (n : ℕ) → text_of_term (Pid n) ≡ (60 ∷ 48 ∷ 46 ∷ []) ++ (decimal n ++ 46 ∷ 48 ∷ 62 ∷ [])
text_of_term-Pid n = search (rules, the_lemmas)

pub text_of_term-Tid : (n : ℕ) → text_of_term (Tid n) ≡ (35 ∷ 84 ∷ 105 ∷ 100 ∷ 60 ∷ []) ++ (decimal n ++ 62 ∷ [])
text_of_term-Tid n = search (rules, the_lemmas)

pub text_of_term-Tuple : (ts : List Term) → text_of_term (Tuple ts) ≡ (123 ∷ []) ++ (join_with_commas false (map text_of_term ts) ++ 125 ∷ [])
text_of_term-Tuple ts = search (rules, the_lemmas)

pub text_of_term-List : (ts : List Term) → text_of_term (ListOf ts) ≡ (91 ∷ []) ++ (join_with_commas false (map text_of_term ts) ++ 93 ∷ [])
text_of_term-List ts = search (rules, the_lemmas)

pub text_of_term-Binary : (bs : List ℕ) → text_of_term (Binary bs) ≡ (60 ∷ 60 ∷ []) ++ (join_with_commas false (map decimal bs) ++ 62 ∷ 62 ∷ [])
text_of_term-Binary bs = search (rules, the_lemmas)
