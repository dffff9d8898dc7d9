use Rattle.std.proofs.Common.{◌≡◌, ◌++◌, map, drop}
use Rattle.ets_term.specs.Data.{data_of, data_list}
use Rattle.match_spec.specs.inside.CompiledExpressions.{expressions_of}
use Rattle.match_spec.proofs.expression.compile.+expression.Given as goal

abbrev pub invariant-expressions_of-loop-i : goal.invariant-expressions_of-loop-i
invariant-expressions_of-loop-i l = l.compiled.items ++ expressions_of l.first.entries (data_list (map data_of (drop l.i l.terms))) ≡ expressions_of l.first.entries (data_list (map data_of (drop l.start l.terms)))
