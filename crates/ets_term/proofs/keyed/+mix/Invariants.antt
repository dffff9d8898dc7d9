use Rattle.std.proofs.Common.{◌≡◌, drop, fold, map}
use Rattle.ets_term.specs.Encoding.{concat}
use Rattle.ets_term.specs.Keyed.{words, keyed_step}
use Rattle.ets_term.proofs.keyed.+mix.Given as goal

abbrev pub invariant-mix_items-loop-item : goal.invariant-mix_items-loop-item
invariant-mix_items-loop-item l = fold (keyed_step l.factor) l.hash (concat (map words (drop l.item-index l.items))) ≡ fold (keyed_step l.factor) l.initial.hash (concat (map words l.items))
