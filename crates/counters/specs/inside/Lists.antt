-- How a list of operations is done in place and undone.
use Rattle.std.specs.Prelude.{◌≡◌, List, [], ◌∷◌, ◌++◌, slice_set, Some}
use Rattle.ets_term.specs.declared.term.Term.{Term}
use Rattle.ets_term.specs.declared.term.Term.TheVariants as term
use Rattle.counters.specs.Counters.{apply_one}
use Rattle.counters.specs.declared.list.Overwritten.{Overwritten}
use Rattle.counters.specs.declared.ops.Op.{Op}

-- the elements with the replaced integers written back, the last one first
abbrev pub restore : List Overwritten → List Term → List Term
restore [] elements = elements
restore (first ∷ rest) elements = slice_set (restore rest elements) first.at (term.Int first.value)

-- one more operation is done, and its answer is added
pub record AppliesNext (op : Op) (old new answers more : List Term) : Type 0 where
  pub answer : Term
  pub counts : apply_one op old ≡ Some (new, answer)
  pub added : more ≡ answers ++ answer ∷ []
