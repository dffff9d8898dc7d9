-- The views of a packed term, by its form.
use Rattle.std.proofs.Common.{rules, ◌≡◌, ℤ, ℕ, refl, List, [], None, Box, Vec, Global}
use Rattle.ets_term.specs.declared.term.Term.{Term, the_lemmas}
use Rattle.ets_term.specs.Depth.{elements}
use Rattle.ets_term.specs.Views.{as_int}
use Rattle.packed_term.specs.declared.form.Form.{Form}
use Rattle.packed_term.specs.declared.form.Form.TheVariants.{Small, Wide, Name, Atom, Pid, Tid, Pair, Triple, Tuple, List as Listed, Short, Binary}
use Rattle.packed_term.specs.declared.packed.Packed.{Packed}
use Rattle.packed_term.specs.Elements.{with_element}
use Rattle.packed_term.specs.Forms.{term_of}

-- a form of another kind than an integer has no value of an integer
pub no_integer : (f : Form) → ((n : ℤ) → f ≡ Small n → ⊥) → ((b : Box ℤ Global) → f ≡ Wide b → ⊥) → None ≡ as_int (term_of f)
no_integer (Small n) not_small not_wide = absurd (not_small n refl)
no_integer (Wide b) not_small not_wide = absurd (not_wide b refl)
no_integer (Name len bytes) not_small not_wide = search (rules, the_lemmas)
no_integer (Atom b) not_small not_wide = search (rules, the_lemmas)
no_integer (Pid n) not_small not_wide = search (rules, the_lemmas)
no_integer (Tid n) not_small not_wide = search (rules, the_lemmas)
no_integer (Pair b) not_small not_wide = search (rules, the_lemmas)
no_integer (Triple b) not_small not_wide = search (rules, the_lemmas)
no_integer (Tuple b) not_small not_wide = search (rules, the_lemmas)
no_integer (Listed b) not_small not_wide = search (rules, the_lemmas)
no_integer (Short len bytes) not_small not_wide = search (rules, the_lemmas)
no_integer (Binary b) not_small not_wide = search (rules, the_lemmas)

-- a form of another kind than a tuple has no elements
pub no_elements : (f : Form) → ((b : Box (List Packed) Global) → f ≡ Pair b → ⊥) → ((b : Box (List Packed) Global) → f ≡ Triple b → ⊥)
    → ((b : Box (Vec Packed Global) Global) → f ≡ Tuple b → ⊥) → [] ≡ elements (term_of f)
no_elements (Small n) not_pair not_triple not_tuple = search (rules, the_lemmas)
no_elements (Wide b) not_pair not_triple not_tuple = search (rules, the_lemmas)
no_elements (Name len bytes) not_pair not_triple not_tuple = search (rules, the_lemmas)
no_elements (Atom b) not_pair not_triple not_tuple = search (rules, the_lemmas)
no_elements (Pid n) not_pair not_triple not_tuple = search (rules, the_lemmas)
no_elements (Tid n) not_pair not_triple not_tuple = search (rules, the_lemmas)
no_elements (Pair b) not_pair not_triple not_tuple = absurd (not_pair b refl)
no_elements (Triple b) not_pair not_triple not_tuple = absurd (not_triple b refl)
no_elements (Tuple b) not_pair not_triple not_tuple = absurd (not_tuple b refl)
no_elements (Listed b) not_pair not_triple not_tuple = search (rules, the_lemmas)
no_elements (Short len bytes) not_pair not_triple not_tuple = search (rules, the_lemmas)
no_elements (Binary b) not_pair not_triple not_tuple = search (rules, the_lemmas)

-- a form of another kind than a tuple has no element to set
pub none_set : (i : ℕ) (t : Term) (f : Form) → ((b : Box (List Packed) Global) → f ≡ Pair b → ⊥) → ((b : Box (List Packed) Global) → f ≡ Triple b → ⊥)
    → ((b : Box (Vec Packed Global) Global) → f ≡ Tuple b → ⊥) → term_of f ≡ with_element i t (term_of f)
none_set i t (Small n) not_pair not_triple not_tuple = search (rules, the_lemmas)
none_set i t (Wide b) not_pair not_triple not_tuple = search (rules, the_lemmas)
none_set i t (Name len bytes) not_pair not_triple not_tuple = search (rules, the_lemmas)
none_set i t (Atom b) not_pair not_triple not_tuple = search (rules, the_lemmas)
none_set i t (Pid n) not_pair not_triple not_tuple = search (rules, the_lemmas)
none_set i t (Tid n) not_pair not_triple not_tuple = search (rules, the_lemmas)
none_set i t (Pair b) not_pair not_triple not_tuple = absurd (not_pair b refl)
none_set i t (Triple b) not_pair not_triple not_tuple = absurd (not_triple b refl)
none_set i t (Tuple b) not_pair not_triple not_tuple = absurd (not_tuple b refl)
none_set i t (Listed b) not_pair not_triple not_tuple = search (rules, the_lemmas)
none_set i t (Short len bytes) not_pair not_triple not_tuple = search (rules, the_lemmas)
none_set i t (Binary b) not_pair not_triple not_tuple = search (rules, the_lemmas)
