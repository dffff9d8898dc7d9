use Rattle.std.proofs.Common.{◌≡◌, drop, map}
use Rattle.std.specs.List.{list_all}
use Rattle.external_term.specs.Encoding.{encode, is_small}
use Rattle.external_term.proofs.small.is_string.Given as goal

abbrev pub invariant-loop-item : goal.invariant-loop-item
invariant-loop-item l = list_all is_small (map encode (drop l.item-index l.items)) ≡ list_all is_small (map encode l.items)
