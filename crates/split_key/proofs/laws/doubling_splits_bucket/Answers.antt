use Rattle.split_key.proofs.Halves.{mod-split}
use Rattle.split_key.proofs.laws.doubling_splits_bucket.Goals as goal

pub returns : goal.returns
returns c = mod-split c.args.hash c.args.size c.args.bucket c.requires
