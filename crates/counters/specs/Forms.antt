-- Whether an update is a list, or one operation.
use Rattle.std.specs.Prelude.{Bool, true, false, is_some}
use Rattle.ets_term.specs.declared.term.Term.{Term}
use Rattle.ets_term.specs.Views.{as_list}
use Rattle.counters.specs.declared.ops.Ops.{Ops}
use Rattle.counters.specs.declared.ops.Ops.TheVariants.{One, Many}

-- whether a term is a list
abbrev pub is_list : Term → Bool
is_list term = is_some (as_list term)

-- whether an update is a single operation outside a list
abbrev pub is_one : Ops → Bool
is_one (One op) = true
is_one (Many ops) = false
