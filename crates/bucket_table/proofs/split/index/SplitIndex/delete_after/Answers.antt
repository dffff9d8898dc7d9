use Rattle.bucket_table.proofs.hints.Remove.{behind-item}
use Rattle.bucket_table.proofs.split.index.SplitIndex.delete_after.Goals as goal

pub rehash_at-split_key-requires-clause-item : goal.rehash_at-split_key-requires-clause-item
rehash_at-split_key-requires-clause-item g c = behind-item c.args.start c.args.at c.args.self.now.list.cells c.reveal_invariant.ensures.apart c.requires.item
