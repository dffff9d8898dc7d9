use Rattle.std.proofs.Common.{◌≡◌, take}
use Rattle.node_reasons.specs.Classes.{last_non_blank}
use Rattle.node_reasons.proofs.classes.last_non_blank.Given as goal

abbrev pub invariant-loop-byte : goal.invariant-loop-byte
invariant-loop-byte l = l.last ≡ last_non_blank (take l.byte-index l.text)
