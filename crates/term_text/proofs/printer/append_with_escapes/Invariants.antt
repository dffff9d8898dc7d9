use Rattle.std.proofs.Common.{◌≡◌, ◌≤◌, ◌-◌, ◌++◌, List, ℕ, take, drop}
use Rattle.std.specs.Io.KnownBytes.{Appends}
use Rattle.std.specs.List.{flat_map}
use Rattle.term_text.specs.Printed.{escape}
use Rattle.term_text.proofs.printer.append_with_escapes.Given as goal

abbrev pub invariant-loop-i : goal.invariant-loop-i
invariant-loop-i g l =
    (sent : List ℕ) × (sent ++ take (l.i - l.start) (drop l.start l.text) ≡ flat_map escape (take l.i l.text)) × Appends (g.S.Sink.contents l.initial.out) (g.S.Sink.contents l.out) sent × (l.start ≤ l.i)
