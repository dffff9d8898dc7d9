-- Each part of a packed term has fewer levels than the term.
use Rattle.std.specs.Prelude.{◌≡◌, ◌+◌, ◌≤◌, max, List, [], ◌∷◌, map}
use Rattle.std.proofs.Common.{arith, rules}
use Rattle.ets_term.specs.declared.term.Term.{Term, the_lemmas}
use Rattle.ets_term.specs.declared.term.Term.TheVariants.{Tuple as ATuple, List as AList}
use Rattle.ets_term.specs.Depth.{depth, largest}
use Rattle.packed_term.specs.declared.form.Form.{Form}
use Rattle.packed_term.specs.declared.form.Form.TheVariants.{Small, Wide, Name, Atom, Pid, Tid, Pair, Triple, Tuple, List as Listed, Short, Binary}
use Rattle.packed_term.specs.declared.packed.Packed.TheDeep.{deep-Form}
use Rattle.packed_term.specs.Forms.{term_of}
use denote.Param.Weighed.{most}

-- no part is deeper than the largest
most_le-largest : (ts : List Term) → most (λ k. depth k + 1) ts ≤ largest (map depth ts) + 1
most_le-largest [] = omega arith
most_le-largest (t ∷ ts) = omega (arith, most_le-largest ts)

-- a tuple is one level deeper than its deepest element
pub tuple_depth : (ts : List Term) → depth (ATuple ts) ≡ largest (map depth ts) + 1
tuple_depth ts = search (rules, the_lemmas)

-- a list is one level deeper than its deepest element
pub list_depth : (ts : List Term) → depth (AList ts) ≡ largest (map depth ts) + 1
list_depth ts = search (rules, the_lemmas)

-- no part is as deep as the term
pub deep_le-depth : (f : Form) → max (deep-Form f) 0 ≤ depth (term_of f)
deep_le-depth (Small n) = omega arith
deep_le-depth (Wide b) = omega arith
deep_le-depth (Name len bytes) = omega arith
deep_le-depth (Atom b) = omega arith
deep_le-depth (Pid n) = omega arith
deep_le-depth (Tid n) = omega arith
deep_le-depth (Pair b) = omega (arith, most_le-largest b.value, tuple_depth b.value)
deep_le-depth (Triple b) = omega (arith, most_le-largest b.value, tuple_depth b.value)
deep_le-depth (Tuple b) = omega (arith, most_le-largest b.value.items, tuple_depth b.value.items)
deep_le-depth (Listed b) = omega (arith, most_le-largest b.value.items, list_depth b.value.items)
deep_le-depth (Short len bytes) = omega arith
deep_le-depth (Binary b) = omega arith
