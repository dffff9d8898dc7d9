-- The operations that a term describes (stdlib manual, module ets, update_counter/3): `Incr`, `{Pos,Incr}`,
-- `{Pos,Incr,Threshold,SetValue}`, or a list of the tuple forms.
use Rattle.std.specs.Prelude.{ℕ, ◌+◌, Option, Some, None, List, [], ◌∷◌, option_map}
use Rattle.std.specs.Option.{option_and_then}
use Rattle.ets_term.specs.declared.term.Term.{Term, out-Term}
use Rattle.ets_term.specs.declared.term.Term.TheOpen.{Term-F}
use Rattle.ets_term.specs.Depth.{elements}
use Rattle.counters.specs.Positions.{updatable_position}
use Rattle.ets_term.specs.Views.{as_int}
use Rattle.counters.specs.declared.ops.Op.{Op}
use Rattle.counters.specs.declared.ops.Threshold.{Threshold}
use Rattle.counters.specs.declared.ops.Ops.{Ops}
use Rattle.counters.specs.declared.ops.Ops.TheVariants.{One, Many}

-- the threshold of these two terms; None if one of them is not an integer
abbrev pub threshold_of : Term → Term → Option Threshold
threshold_of threshold set_value =
    option_and_then
    (λ t. option_map (λ v. record { value = t; set_value = v }) (as_int set_value))
    (as_int threshold)

-- the operation with this position, increment and threshold; None if the position is not allowed or the increment is
-- not an integer
abbrev pub op_from : ℕ → Term → Term → Option Threshold → Option Op
op_from keypos position increment threshold =
    option_and_then
    (λ p. option_map (λ i. record { position = p; increment = i; threshold = threshold }) (as_int increment))
    (updatable_position keypos position)

-- the operation that the elements of a tuple describe; None if they have a wrong form
abbrev pub op_of_parts : ℕ → List Term → Option Op
op_of_parts keypos (position ∷ increment ∷ []) = op_from keypos position increment None
op_of_parts keypos (position ∷ increment ∷ threshold ∷ set_value ∷ []) =
    option_and_then (λ b. op_from keypos position increment (Some b)) (threshold_of threshold set_value)
op_of_parts keypos _ = None

-- the operation that a tuple describes; None for any other term
abbrev pub op_of : ℕ → Term → Option Op
op_of keypos term = op_of_parts keypos (elements term)

-- the operations that a list of tuples describes; None if one of them has a wrong form
abbrev pub all_ops : ℕ → List Term → Option (List Op)
all_ops keypos [] = Some []
all_ops keypos (term ∷ terms) =
    option_and_then (λ op. option_map (λ ops. op ∷ ops) (all_ops keypos terms)) (op_of keypos term)

-- the operations that a term describes, by its first level
abbrev pub ops_form : ℕ → Term-F Term → Option Ops
ops_form keypos (Term-F.Int n) = Some (One (record { position = keypos + 1; increment = n; threshold = None }))
ops_form keypos (Term-F.Tuple terms) = option_map One (op_of_parts keypos terms)
ops_form keypos (Term-F.List terms) = option_map Many (all_ops keypos terms)
ops_form keypos _ = None

-- the operations that a term describes; None if it has a wrong form
abbrev pub ops_of : ℕ → Term → Option Ops
ops_of keypos term = ops_form keypos (out-Term term)
