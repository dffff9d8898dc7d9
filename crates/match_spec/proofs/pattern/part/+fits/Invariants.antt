use Rattle.std.proofs.Common.{◌≡◌, drop, map}
use Rattle.ets_term.specs.Data.{data_of, data_list}
use Rattle.match_spec.specs.inside.CompiledPatterns.{part_fits, all_fit}
use Rattle.match_spec.proofs.pattern.part.+fits.Given as goal

abbrev pub invariant-all_fit-loop-i : goal.invariant-all_fit-loop-i
invariant-all_fit-loop-i l = all_fit (map part_fits (drop l.i l.parts)) (data_of l.object) (data_list (map data_of (drop l.i l.terms))) ≡ all_fit (map part_fits l.parts) (data_of l.object) (data_list (map data_of l.terms))
