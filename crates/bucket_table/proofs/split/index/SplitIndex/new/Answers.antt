use Rattle.std.proofs.Common.{ℕ, List, Option, map, is_some, sym, ap, subst}
use Rattle.bucket_table.specs.inside.Directory.{IsFirstUnready}
use Rattle.bucket_table.specs.inside.Intervals.{ListInvariant}
use Rattle.bucket_table.proofs.hints.Rehash.{hints-nil}
use Rattle.bucket_table.proofs.directory.FirstUnready.{first_unready-new}
use Rattle.bucket_table.proofs.hints.Invariant.{new-rows}
use Rattle.bucket_table.proofs.split.index.SplitIndex.new.Goals as goal

pub invariant_of-result : goal.invariant_of-result
invariant_of-result g c =
    let directory = c.in_ok-directory.directory in
    let hints = c.in_ok-hints.hints in
    let e = c.in_ok-hints.ensures in
    let cells = c.in_ok-list.list.cells in
    let hash_of = g.H.KeyHash.hash c.args.hasher in
    let R : ℕ → Type 0 = λ interval_bits. ListInvariant hash_of directory interval_bits hints.current cells in
    record {
      rows = subst R (sym e.interval_bits) (new-rows hash_of c.head-head.result directory hints.current 8 cells c.in_ok-directory.ensures c.in_ok-list.ensures c.head-head.ensures.first e.current);
      previous = hints-nil _ hints.previous cells e.previous;
    }

pub returns-clause-buckets : goal.returns-clause-buckets
returns-clause-buckets g c = ap (map is_some) c.in_ok-directory.ensures

pub returns-clause-first_unready : goal.returns-clause-first_unready
returns-clause-first_unready g c =
    let D : List (Option ℕ) → Type 0 = λ ds. IsFirstUnready ds 1 in
    subst D (sym c.in_ok-directory.ensures) (first_unready-new c.head-head.result)
