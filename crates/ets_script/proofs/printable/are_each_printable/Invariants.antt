use Rattle.std.proofs.Common.{◌≡◌, take}
use Rattle.std.specs.List.{list_all}
use Rattle.ets_script.specs.Classes.{is_printable}
use Rattle.ets_script.proofs.printable.are_each_printable.Given as goal

abbrev pub invariant-loop-byte : goal.invariant-loop-byte
invariant-loop-byte l = l.are ≡ list_all is_printable (take l.byte-index l.text)
