use Rattle.std.proofs.Common.{◌≡◌, ◌<◌, ◌^◌, ◌-◌, max, min, drop, map}
use Rattle.ets_term.specs.Depth.{depth, largest}
use Rattle.ets_term.proofs.term.+depth.Given as goal

abbrev pub invariant-max_depth-loop-item : goal.invariant-max_depth-loop-item
invariant-max_depth-loop-item l = (l.most < 2 ^ 64) × (min (max l.most (largest (map depth (drop l.item-index l.items)))) (2 ^ 64 - 1) ≡ min (largest (map depth l.items)) (2 ^ 64 - 1))
