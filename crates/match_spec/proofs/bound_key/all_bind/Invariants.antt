use Rattle.std.proofs.Common.{◌≡◌, map, drop}
use Rattle.ets_term.specs.Data.{data_of, data_list}
use Rattle.match_spec.specs.BoundKeys.{all_bind}
use Rattle.match_spec.proofs.bound_key.all_bind.Given as goal

abbrev pub invariant-loop-i : goal.invariant-loop-i
invariant-loop-i l = all_bind l.keypos (data_of l.key) (data_list (map data_of (drop l.i l.clauses))) ≡ all_bind l.keypos (data_of l.key) (data_list (map data_of (drop 1 l.clauses)))
