use Rattle.bucket_table.specs.inside.Intervals.{IsNearestBelow}
use Rattle.std.proofs.Common.{◌⊎◌, ◌/◌, ◌^◌, ℕ, subst}
use Rattle.bucket_table.specs.inside.Directory.{HasKeyBelow}
use Rattle.bucket_table.proofs.hints.Start.{start-lesser}
use Rattle.bucket_table.proofs.hints.SearchBelow.{nearest-start, either-lesser}
use Rattle.bucket_table.proofs.split.index.SplitIndex.far_start.Goals as goal

pub returns-in-Some : goal.returns-in-Some
returns-in-Some g c =
    let T : ℕ → ℕ → Type 0 = λ k i. IsNearestBelow k i c.in-Some.first c.args.self.now.hints.current ⊎ IsNearestBelow (k / 2) (i / 2) c.in-Some.first c.args.self.now.hints.previous in
    let K : ℕ → Type 0 = λ k. T k c.interval_of-interval.result in
    let J : ℕ → Type 0 = λ i. T (c.dummy_key.result / 2 ^ c.args.self.now.hints.interval_bits) i in
    let ensured = subst J c.interval_of-interval.ensures (subst K c.interval_of-floor.ensures c.in-Some.ensures) in
    let B : ℕ → Type 0 = λ k. HasKeyBelow k c.in-Some.first c.args.self.now.list.cells in
    subst B c.item_key-split_key.ensures (either-lesser c.args.self.now.hints.interval_bits c.item_key-split_key.result c.in-Some.first (c.dummy_key.result / 2 ^ c.args.self.now.hints.interval_bits) c.args.self.now.list.cells c.args.self.now.hints.current c.args.self.now.hints.previous c.reveal_invariant.ensures.sorted c.reveal_invariant.ensures.apart c.requires.rows.rows.hinted.hints c.requires.rows.previous ensured)

pub returns-in-None : goal.returns-in-None
returns-in-None g c = start-lesser (g.H.KeyHash.hash c.args.self.now.hasher) c.args.self.now.directory c.args.hash c.bucket_start-bucket.result.1 c.args.self.now.list.cells c.requires.rows.rows.split (nearest-start _ _ _ _ c.bucket_start-bucket.ensures)
