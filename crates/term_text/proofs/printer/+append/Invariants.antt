use Rattle.std.proofs.Common.{◌≡◌, ◌++◌, List, ℕ, drop, map, false}
use Rattle.std.specs.Io.KnownBytes.{Appends}
use Rattle.term_text.specs.Printed.{text_of_term, join_with_commas}
use Rattle.term_text.proofs.printer.+append.Given as goal

abbrev pub invariant-append_items-loop-item : goal.invariant-append_items-loop-item
invariant-append_items-loop-item g l =
    (sent : List ℕ) × (sent ++ join_with_commas l.later (map text_of_term (drop l.item-index l.items)) ≡ join_with_commas false (map text_of_term l.items)) × Appends (g.S.Sink.contents l.initial.out) (g.S.Sink.contents l.out) sent
