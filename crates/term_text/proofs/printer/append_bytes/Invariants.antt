use Rattle.std.proofs.Common.{◌≡◌, ◌++◌, List, ℕ, drop, map, false, decimal}
use Rattle.std.specs.Io.KnownBytes.{Appends}
use Rattle.term_text.specs.Printed.{join_with_commas}
use Rattle.term_text.proofs.printer.append_bytes.Given as goal

abbrev pub invariant-loop-b : goal.invariant-loop-b
invariant-loop-b g l =
    (sent : List ℕ) × (sent ++ join_with_commas l.later (map decimal (drop l.b-index l.bytes)) ≡ join_with_commas false (map decimal l.bytes)) × Appends (g.S.Sink.contents l.initial.out) (g.S.Sink.contents l.out) sent
