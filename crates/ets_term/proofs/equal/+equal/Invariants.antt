use Rattle.std.proofs.Common.{◌≡◌, take}
use Rattle.ets_term.proofs.DataListLaws.{data_lists_alike}
use Rattle.ets_term.proofs.equal.+equal.Given as goal

abbrev pub invariant-equal_items-loop-at : goal.invariant-equal_items-loop-at
invariant-equal_items-loop-at l = data_lists_alike (take l.at l.xs) (take l.at l.ys) ≡ data_lists_alike l.xs l.ys
