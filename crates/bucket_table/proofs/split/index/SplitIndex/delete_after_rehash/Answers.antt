use Rattle.bucket_table.specs.inside.Intervals.{IsItemIn}
use Rattle.std.proofs.Common.{sym, subst, ℕ, ◌^◌}
use Rattle.bucket_table.proofs.hints.Rehash.{previous-out}
use Rattle.bucket_table.proofs.hints.Change.{hints-without}
use Rattle.bucket_table.proofs.hints.Replace.{right}
use Rattle.bucket_table.proofs.hints.Remove.{item-in, behind-item}
use Rattle.bucket_table.proofs.directory.Placed.{placed-parity}
use Rattle.bucket_table.proofs.sweep.Sweep.{rows-out}
use Rattle.bucket_table.proofs.split.index.SplitIndex.delete_after_rehash.Goals as goal

pub hint_after_removal-hint-requires-clause-parity : goal.hint_after_removal-hint-requires-clause-parity
hint_after_removal-hint-requires-clause-parity g c = placed-parity (g.H.KeyHash.hash c.args.self.now.hasher) c.args.self.now.directory c.args.self.now.list.cells c.requires.rows.rows.split.placed

pub hint_after_removal-hint-requires-clause-hints : goal.hint_after_removal-hint-requires-clause-hints
hint_after_removal-hint-requires-clause-hints g c = right g.H.KeyHash.hash c.args.self.now c.requires.rows

pub hint_after_removal-hint-requires-clause-item : goal.hint_after_removal-hint-requires-clause-item
hint_after_removal-hint-requires-clause-item g c =
    let index = c.args.self.now in
    let I : ℕ → Type 0 = λ i. IsItemIn (2 ^ index.hints.interval_bits) i c.args.at index.list.cells in
    let there = behind-item c.args.start c.args.at index.list.cells c.reveal_invariant.ensures.apart c.requires.item in
    subst I (sym c.interval_of-interval.ensures) (item-in (2 ^ index.hints.interval_bits) c.args.at c.args.split_key index.list.cells there c.requires.key)

pub returns-clause-rows : goal.returns-clause-rows
returns-clause-rows g c =
    let index = c.args.self.now in
    let cells = index.list.cells in
    let hints = index.hints in
    let new = c.delete_item-count.new.self.cells in
    let there = behind-item c.args.start c.args.at cells c.reveal_invariant.ensures.apart c.requires.item in
    let I : ℕ → Type 0 = λ i. IsItemIn (2 ^ hints.interval_bits) i c.args.at cells in
    let inside = subst I (sym c.interval_of-interval.ensures) (item-in (2 ^ hints.interval_bits) c.args.at c.args.split_key cells there c.requires.key) in
    let after = hints-without (2 ^ hints.interval_bits) hints.current c.replace_first.new.self c.hint_after_removal-hint.result c.args.at c.interval_of-interval.result cells new inside c.requires.rows.rows.hinted.hints c.reveal_invariant.ensures.apart c.delete_item-count.ensures.cells c.hint_after_removal-hint.ensures c.replace_first.ensures in
    record {
      rows = rows-out (g.H.KeyHash.hash index.hasher) index.directory hints.interval_bits hints.current c.replace_first.new.self c.args.at cells new c.requires.rows.rows c.reveal_invariant.ensures.apart there c.delete_item-count.ensures.cells after;
      previous = previous-out hints.interval_bits c.args.at c.args.split_key hints.previous cells new there c.requires.key c.requires.rows.previous c.requires.rehashed c.delete_item-count.ensures.cells;
    }
