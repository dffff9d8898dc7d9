use Rattle.std.proofs.Common.{◌≡◌, ◌≤◌, take, length, vec_capacity}
use Rattle.node_core.proofs.terms.copy_terms.Given as goal

abbrev pub invariant-loop-term : goal.invariant-loop-term
invariant-loop-term l = record {
  copied : l.copies.items ≡ take l.term-index l.terms;
  room : length l.terms ≤ vec_capacity l.copies;
}
