use Rattle.std.proofs.Common.{arith}
use Rattle.bucket_table.proofs.directory.Placed.{placed-parity}
use Rattle.bucket_table.proofs.hints.Replace.{right, anew}
use Rattle.bucket_table.proofs.split.index.SplitIndex.rehash_bucket.Goals as goal

pub rehash_bucket-requires : goal.rehash_bucket-requires
rehash_bucket-requires g c = record {
  parity = placed-parity (g.H.KeyHash.hash c.args.self.now.hasher) c.args.self.now.directory c.args.self.now.list.cells c.requires.rows.rows.split.placed;
  hints = right g.H.KeyHash.hash c.args.self.now c.requires.rows;
}

pub returns-clause-rows : goal.returns-clause-rows
returns-clause-rows g c = anew g.H.KeyHash.hash c.args.self.now c.requires.rows c.rehash_bucket.new.self (omega (arith, c.rehash_bucket.ensures.interval_bits)) c.rehash_bucket.ensures.hints
