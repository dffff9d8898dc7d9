use Rattle.std.proofs.Common.{subst}
use Rattle.fixed_walk.specs.Invariants.{AreCounted}
use Rattle.fixed_walk.proofs.CountLaws.{fixed-by-some}
use Rattle.fixed_walk.proofs.fixes.Fixes.reveal_invariant.Goals as goal

pub returns : goal.returns
returns c = fixed-by-some c.args.self.now (subst AreCounted c.self.view_is c.self.invariant)
