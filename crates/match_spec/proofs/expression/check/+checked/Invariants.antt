use Rattle.std.proofs.Common.{◌≡◌, map, drop}
use Rattle.ets_term.specs.Data.{data_of, data_list}
use Rattle.match_spec.specs.Expressions.{are_expressions}
use Rattle.match_spec.specs.inside.FirstPaths.{numbers_of}
use Rattle.match_spec.proofs.expression.check.+checked.Given as goal

abbrev pub invariant-are_expressions-loop-i : goal.invariant-are_expressions-loop-i
invariant-are_expressions-loop-i l = are_expressions (numbers_of l.bound_variables.entries) (data_list (map data_of (drop l.i l.terms))) ≡ are_expressions (numbers_of l.bound_variables.entries) (data_list (map data_of (drop l.start l.terms)))
