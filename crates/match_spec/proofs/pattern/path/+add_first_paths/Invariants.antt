use Rattle.std.proofs.Common.{◌≡◌, drop, map}
use Rattle.ets_term.specs.Data.{data_of, data_list}
use Rattle.match_spec.specs.inside.FirstPaths.{add_first_paths_from}
use Rattle.match_spec.proofs.pattern.path.+add_first_paths.Given as goal

abbrev pub invariant-add_first_paths_from-loop-i : goal.invariant-add_first_paths_from-loop-i
invariant-add_first_paths_from-loop-i l =
    (l.current_path.items ≡ l.initial.current_path.items)
    × (add_first_paths_from l.initial.current_path.items l.i l.first.entries (data_list (map data_of (drop l.i l.parts))) ≡ add_first_paths_from l.initial.current_path.items 0 l.initial.first.entries (data_list (map data_of l.parts)))
