use Rattle.std.proofs.Common.{◌≡◌, map, drop}
use Rattle.ets_term.specs.Data.{data_of}
use Rattle.match_spec.specs.inside.CompiledClauses.{all_hold_of}
use Rattle.match_spec.specs.inside.CompiledExpressions.{expression_value}
use Rattle.match_spec.proofs.spec.conditions.all_hold.Given as goal

abbrev pub invariant-loop-condition : goal.invariant-loop-condition
invariant-loop-condition l = all_hold_of (map (expression_value l.env.paths.now) (drop l.condition-index l.conditions)) (data_of l.env.object.now) ≡ all_hold_of (map (expression_value l.env.paths.now) l.conditions) (data_of l.env.object.now)
