use Rattle.std.proofs.Common.{◌*◌, ◌<◌, ◌^◌, ℕ, List, Option, length, sym, ap, subst}
use Rattle.bucket_table.specs.declared.split.index.SplitIndex.{SplitIndex}
use Rattle.bucket_table.specs.inside.Intervals.{HasIntervalsFor}
use Rattle.bucket_table.proofs.hints.Invariant.{rows-tried}
use Rattle.bucket_table.proofs.split.index.SplitIndex.double_buckets.Goals as goal

pub returns-clause-rows : goal.returns-clause-rows
returns-clause-rows g c =
    let index = c.narrow_intervals.new.self in
    let same = sym (ap (λ (i : SplitIndex g.row.H.Denot). i.directory) c.in_ok-narrow_intervals.ensures.rest) in
    let F : List (Option ℕ) → Type 0 = λ ds. length ds < 2 ^ 20 in
    let I : List (Option ℕ) → Type 0 = λ ds. HasIntervalsFor (2 * length ds) index.hints.interval_bits in
    let rows = c.in_ok-narrow_intervals.ensures.rows in
    record {
      rows = rows-tried (g.H.KeyHash.hash index.hasher) index.directory index.hints.interval_bits index.hints.current index.list.cells rows.rows c.double.result c.double.new.self
          (subst F same c.requires.few) (subst I same c.in_ok-narrow_intervals.ensures.ok) c.double.ensures.ok c.double.ensures.err;
      previous = rows.previous;
    }
