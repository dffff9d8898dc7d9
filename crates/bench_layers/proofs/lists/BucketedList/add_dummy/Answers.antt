use Rattle.std.proofs.Common.{List, ℕ, ◌*◌, None, vec_len, sym, ◌∙◌, ap, subst, arith}
use Rattle.split_key.specs.Keys.{rev, key_of_dummy}
use Rattle.node_list.specs.Cells.{new_cell}
use Rattle.node_list.specs.Places.{HasSplitKeyAtMost}
use Rattle.node_list.specs.Changes.{put_cell}
use Rattle.bench_layers.specs.Buckets.{HasDummies}
use Rattle.bench_layers.proofs.DummyLaws.{read-has_key_at_most, push-adds_dummy}
use Rattle.bench_layers.proofs.lists.BucketedList.add_dummy.Goals as goal

pub insert_dummy-requires : goal.insert_dummy-requires
insert_dummy-requires c = record {
  start =
      read-has_key_at_most c.parent-parent_bucket.result c.index-start.result.now (vec_len c.args.self.now.dummies) (2 * c.rev32.result) c.args.self.now.dummies.items c.args.self.now.list.cells c.index-start.ensures (omega (arith, c.parent_comes_before.ensures.below, c.len-bucket.ensures)) c.args.self.now.dummies.ok.0 c.requires.dummies (omega (arith, c.rev32.ensures, c.parent_comes_before.ensures.before));
}

pub returns-clause-dummies : goal.returns-clause-dummies
returns-clause-dummies c =
    let at = c.in_ok-at.at in
    let P : List ℕ → Type 0 = λ places. HasDummies places c.insert_dummy.new.self.cells in
    let key = ap (λ (r : ℕ). 2 * r) c.rev32.ensures ∙ ap key_of_dummy (c.len-bucket.ensures ∙ c.args.self.now.dummies.ok.0) in
    let put = c.in_ok-at.ensures.cells ∙ ap (λ (k : ℕ). put_cell (new_cell at k None) c.args.self.now.list.cells) key in
    subst P (sym c.push_reserved.ensures.items) (push-adds_dummy at c.args.self.now.dummies.items c.args.self.now.list.cells c.insert_dummy.new.self.cells c.in_ok-at.ensures.fresh put c.requires.dummies)
