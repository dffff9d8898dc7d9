use Rattle.bucket_table.specs.inside.Intervals.{IsNearestBelow}
use Rattle.std.proofs.Common.{◌⊎◌, ℕ, ◌≤◌, ◌/◌, ◌^◌, subst, arith}
use Rattle.split_key.specs.Keys.{key_of_dummy}
use Rattle.node_list.specs.Places.{HasSplitKeyAtMost}
use Rattle.bucket_table.proofs.hints.Start.{lesser-up-to}
use Rattle.bucket_table.proofs.hints.SearchBelow.{nearest-start, either-lesser}
use Rattle.bucket_table.proofs.directory.Search.{start-is_place}
use Rattle.bucket_table.proofs.split.index.SplitIndex.dummy_start.Goals as goal

pub returns-in-Some : goal.returns-in-Some
returns-in-Some g c =
    let T : ℕ → ℕ → Type 0 = λ k i. IsNearestBelow k i c.in-Some.first c.args.self.now.hints.current ⊎ IsNearestBelow (k / 2) (i / 2) c.in-Some.first c.args.self.now.hints.previous in
    let K : ℕ → Type 0 = λ k. T k c.interval_of-interval.result in
    let J : ℕ → Type 0 = λ i. T (c.dummy_key.result / 2 ^ c.args.self.now.hints.interval_bits) i in
    let ensured = subst J c.interval_of-interval.ensures (subst K c.interval_of-floor.ensures c.in-Some.ensures) in
    let B : ℕ → Type 0 = λ k. HasSplitKeyAtMost k c.in-Some.first c.args.self.now.list.cells in
    subst B c.dummy_key-split_key.ensures (lesser-up-to c.dummy_key-split_key.result c.in-Some.first c.args.self.now.list.cells (either-lesser c.args.self.now.hints.interval_bits c.dummy_key-split_key.result c.in-Some.first (c.dummy_key.result / 2 ^ c.args.self.now.hints.interval_bits) c.args.self.now.list.cells c.args.self.now.hints.current c.args.self.now.hints.previous c.reveal_invariant.ensures.sorted c.reveal_invariant.ensures.apart c.requires.rows.rows.hinted.hints c.requires.rows.previous ensured))

pub returns-in-None : goal.returns-in-None
returns-in-None g c =
    let low : key_of_dummy c.args.bucket ≤ key_of_dummy c.args.bucket = omega arith in
    start-is_place c.args.self.now.directory c.args.bucket c.nearest_ready-near.result.1 (key_of_dummy c.args.bucket) c.args.self.now.list.cells c.requires.rows.rows.split.listed (nearest-start _ _ _ _ c.nearest_ready-near.ensures) low
