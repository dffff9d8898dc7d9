use Rattle.std.proofs.Common.{◌≡◌, ◌++◌, drop, map, false}
use Rattle.std.specs.Prelude.{string_bytes}
use Rattle.term_text.specs.Printed.{text_of_term, join_with_commas}
use Rattle.node_text.proofs.print.arguments_text.Given as goal

abbrev pub invariant-loop-term : goal.invariant-loop-term
invariant-loop-term l = string_bytes l.text ++ join_with_commas l.later (map text_of_term (drop l.term-index l.terms)) ≡ join_with_commas false (map text_of_term l.terms)
