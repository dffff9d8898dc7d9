use Rattle.fixed_walk.proofs.WalkLaws.{whole}
use Rattle.fixed_walk.proofs.laws.walks_are_whole.Goals as goal

pub returns : goal.returns
returns c = whole
