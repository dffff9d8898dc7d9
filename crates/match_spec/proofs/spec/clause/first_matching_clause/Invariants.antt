use Rattle.std.proofs.Common.{◌≡◌, drop}
use Rattle.ets_term.specs.Data.{data_of}
use Rattle.match_spec.specs.inside.CompiledClauses.{result_of_first}
use Rattle.match_spec.proofs.spec.clause.first_matching_clause.Given as goal

abbrev pub invariant-loop-clause : goal.invariant-loop-clause
invariant-loop-clause l = result_of_first (drop l.clause-index l.clauses) (data_of l.object) ≡ result_of_first l.clauses (data_of l.object)
