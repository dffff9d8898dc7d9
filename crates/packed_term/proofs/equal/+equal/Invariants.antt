use Rattle.std.proofs.Common.{◌≡◌, take}
use Rattle.ets_term.proofs.DataListLaws.{data_lists_alike}
use Rattle.packed_term.proofs.equal.+equal.Given as goal

abbrev pub invariant-are_equal-loop-at : goal.invariant-are_equal-loop-at
invariant-are_equal-loop-at l = data_lists_alike (take l.at l.parts) (take l.at l.terms) ≡ data_lists_alike l.parts l.terms
