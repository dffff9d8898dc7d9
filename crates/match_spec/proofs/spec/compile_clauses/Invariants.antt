use Rattle.std.proofs.Common.{◌≡◌, ◌++◌, map, drop}
use Rattle.ets_term.specs.Data.{data_of, data_list}
use Rattle.match_spec.specs.Specifications.{are_clauses}
use Rattle.match_spec.specs.inside.CompiledClauses.{clauses_from}
use Rattle.match_spec.proofs.spec.compile_clauses.Given as goal

abbrev pub invariant-loop-term : goal.invariant-loop-term
invariant-loop-term l =
    (l.clauses.items ++ clauses_from (data_list (map data_of (drop l.term-index l.terms))) ≡ clauses_from (data_list (map data_of l.terms)))
    × (are_clauses (data_list (map data_of (drop l.term-index l.terms))) ≡ are_clauses (data_list (map data_of l.terms)))
