use Rattle.std.proofs.Common.{◌≡◌, ◌<◌, ◌+◌, ◌-◌, ◌^◌, length, map, min, drop}
use Rattle.ets_term.specs.Encoding.{concat}
use Rattle.external_term.specs.Encoding.{encode}
use Rattle.external_term.proofs.sizes.+size.Given as goal

abbrev pub invariant-sizes_of-loop-item : goal.invariant-sizes_of-loop-item
invariant-sizes_of-loop-item l = record {
  total : min (l.total + length (concat (map encode (drop l.item-index l.items)))) (2 ^ 64 - 1)
      ≡ min (length (concat (map encode l.items))) (2 ^ 64 - 1);
  fits : l.total < 2 ^ 64;
}
