use Rattle.std.proofs.Common.{arith}
use Rattle.node_list.proofs.CallerLaws.{item-is_place}
use Rattle.bucket_table.proofs.directory.Placed.{placed-parity}
use Rattle.bucket_table.proofs.hints.Replace.{right, anew}
use Rattle.bucket_table.proofs.split.index.SplitIndex.rehash_at.Goals as goal

pub split_key-split_key-requires : goal.split_key-split_key-requires
split_key-split_key-requires g c = item-is_place c.args.at c.args.self.now.list.cells c.requires.item

pub rehash_interval-requires : goal.rehash_interval-requires
rehash_interval-requires g c = record {
  parity = placed-parity (g.H.KeyHash.hash c.args.self.now.hasher) c.args.self.now.directory c.args.self.now.list.cells c.requires.rows.rows.split.placed;
  hints = right g.H.KeyHash.hash c.args.self.now c.requires.rows;
}

pub returns-clause-rows : goal.returns-clause-rows
returns-clause-rows g c = anew g.H.KeyHash.hash c.args.self.now c.requires.rows c.rehash_interval.new.self (omega (arith, c.rehash_interval.ensures.interval_bits)) c.rehash_interval.ensures.hints
