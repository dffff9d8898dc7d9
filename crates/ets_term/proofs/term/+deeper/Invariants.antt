use Rattle.std.proofs.Common.{◌≡◌, nat_le, drop, map}
use Rattle.ets_term.specs.Depth.{depth, largest}
use Rattle.ets_term.proofs.term.+deeper.Given as goal

abbrev pub invariant-is_deeper_with_items-loop-item : goal.invariant-is_deeper_with_items-loop-item
invariant-is_deeper_with_items-loop-item l = nat_le l.levels (largest (map depth (drop l.item-index l.items))) ≡ nat_le l.levels (largest (map depth l.items))
