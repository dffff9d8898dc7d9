-- The parts of a packed term have fewer levels than the term, so a recursion over the parts ends.
use Rattle.std.proofs.Common.{arith, ◌≡◌, ◌+◌, ◌*◌, ◌≤◌, List, [], ◌∷◌, map}
use Rattle.ets_term.specs.declared.term.Term.{Term}
use Rattle.ets_term.specs.declared.term.Term.TheVariants.{Tuple as ATuple, List as AList}
use Rattle.ets_term.specs.Depth.{depth, largest}
use Rattle.packed_term.specs.declared.packed.Packed.{Packed}
use Rattle.packed_term.specs.declared.packed.Packed.TheDeep.{size-Packed}
use Rattle.packed_term.specs.declared.packed.Packed.TheView.{size}
use Rattle.packed_term.specs.Sizes.{tuple_depth, list_depth}
use denote.Param.Weighed.{most}

most_depth : (ts : List Term) → most {X = Packed} (λ x. size-Packed x) ts ≤ 2 * (largest (map depth ts) + 1)
most_depth [] = omega arith
most_depth (t ∷ ts) = omega (arith, most_depth ts)

-- the parts of a tuple have fewer levels than the tuple
pub tuple_falls : (t : Term) (ts parts : List Term) → t ≡ ATuple ts → parts ≡ ts → most {X = Packed} (λ x. size-Packed x) parts ≤ 2 * size t
tuple_falls t ts parts is same = rw (is, same) (omega (arith, most_depth ts, tuple_depth ts))

-- the elements of a list have fewer levels than the list
pub list_falls : (t : Term) (ts parts : List Term) → t ≡ AList ts → parts ≡ ts → most {X = Packed} (λ x. size-Packed x) parts ≤ 2 * size t
list_falls t ts parts is same = rw (is, same) (omega (arith, most_depth ts, list_depth ts))
