use Rattle.std.proofs.Common.{◌≡◌, ◌++◌, drop, map}
use Rattle.std.specs.Option.{option_map}
use Rattle.ets_term.specs.Data.{data_of}
use Rattle.match_spec.specs.inside.CompiledExpressions.{expression_value, all_of, strict_of, short_circuit_of}
use Rattle.match_spec.specs.inside.Functions.{combine}
use Rattle.match_spec.proofs.expression.evaluate.+evaluate.Given as goal

abbrev pub invariant-evaluate_all-loop-expression : goal.invariant-evaluate_all-loop-expression
invariant-evaluate_all-loop-expression l =
    option_map (λ ds. map data_of l.terms.items ++ ds) (all_of (map (expression_value l.env.paths.now) (drop l.expression-index l.expressions)) (data_of l.env.object.now)) ≡ all_of (map (expression_value l.env.paths.now) l.expressions) (data_of l.env.object.now)

abbrev pub invariant-eval_strict-loop-argument : goal.invariant-eval_strict-loop-argument
invariant-eval_strict-loop-argument l =
    option_map (combine l.connective l.all) (strict_of l.connective (map (expression_value l.env.paths.now) (drop l.argument-index l.arguments)) (data_of l.env.object.now)) ≡ strict_of l.connective (map (expression_value l.env.paths.now) l.arguments) (data_of l.env.object.now)

abbrev pub invariant-eval_short_circuit-loop-i : goal.invariant-eval_short_circuit-loop-i
invariant-eval_short_circuit-loop-i l = short_circuit_of l.connective (map (expression_value l.env.paths.now) (drop l.i l.arguments)) (data_of l.env.object.now) ≡ short_circuit_of l.connective (map (expression_value l.env.paths.now) l.arguments) (data_of l.env.object.now)
