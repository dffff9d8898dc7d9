use Rattle.std.proofs.Common.{◌≡◌, drop, map}
use Rattle.ets_term.specs.Data.{data_list, data_of}
use Rattle.ets_term.specs.Order.{data_list_order}
use Rattle.ets_term.proofs.compare.+compare.Given as goal

abbrev pub invariant-compare_items-loop-i : goal.invariant-compare_items-loop-i
invariant-compare_items-loop-i l = data_list_order (data_list (map data_of (drop l.i l.xs))) (data_list (map data_of (drop l.i l.ys))) ≡ data_list_order (data_list (map data_of l.xs)) (data_list (map data_of l.ys))
