use Rattle.std.proofs.Common.{◌≡◌, take, length}
use Rattle.ets_term.proofs.reuse.+reuse.Given as goal

abbrev pub invariant-overwrite_terms-loop-at : goal.invariant-overwrite_terms-loop-at
invariant-overwrite_terms-loop-at l = record {
  copied : take l.at l.target ≡ take l.at l.terms;
  size : length l.target ≡ length l.terms;
}
