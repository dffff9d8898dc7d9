use Rattle.std.proofs.Common.{◌≡◌, drop, fold, map}
use Rattle.ets_term.specs.Encoding.{encoding, concat, fnv_step}
use Rattle.ets_term.proofs.fnv.+fnv.Given as goal

abbrev pub invariant-fnv_items-loop-item : goal.invariant-fnv_items-loop-item
invariant-fnv_items-loop-item l = fold fnv_step l.hash (concat (map encoding (drop l.item-index l.items))) ≡ fold fnv_step l.initial.hash (concat (map encoding l.items))
