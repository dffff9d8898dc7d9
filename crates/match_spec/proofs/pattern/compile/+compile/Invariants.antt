use Rattle.std.proofs.Common.{◌≡◌, ◌++◌, drop, map}
use Rattle.ets_term.specs.Data.{data_of, data_list}
use Rattle.match_spec.specs.inside.CompiledPatterns.{parts_from}
use Rattle.match_spec.proofs.pattern.compile.+compile.Given as goal

abbrev pub invariant-parts_of-loop-i : goal.invariant-parts_of-loop-i
invariant-parts_of-loop-i l =
    (l.current_path.items ≡ l.initial.current_path.items)
    × (l.compiled.items ++ parts_from l.first.entries l.initial.current_path.items l.i (data_list (map data_of (drop l.i l.parts))) ≡ parts_from l.first.entries l.initial.current_path.items 0 (data_list (map data_of l.parts)))
