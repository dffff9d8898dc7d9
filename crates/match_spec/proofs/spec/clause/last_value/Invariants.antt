use Rattle.std.proofs.Common.{◌≡◌, map, drop}
use Rattle.ets_term.specs.Data.{data_of}
use Rattle.match_spec.specs.inside.CompiledClauses.{last_value_of}
use Rattle.match_spec.specs.inside.CompiledExpressions.{expression_value}
use Rattle.match_spec.proofs.spec.clause.last_value.Given as goal

abbrev pub invariant-loop-i : goal.invariant-loop-i
invariant-loop-i l = last_value_of (map (expression_value l.env.paths.now) (drop l.i l.body)) (data_of l.env.object.now) ≡ last_value_of (map (expression_value l.env.paths.now) l.body) (data_of l.env.object.now)
