use Rattle.std.proofs.lemmas.Nat.{and_mask}
use Rattle.split_key.proofs.buckets.bucket_of.Goals as goal

pub returns : goal.returns
returns c = rw (c.requires.1) (and_mask c.args.hash c.requires.0)
