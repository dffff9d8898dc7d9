use Rattle.fixed_walk.proofs.CountLaws.{no-box, free-by-none}
use Rattle.fixed_walk.proofs.lazy_fixes.LazyFixes.reveal_invariant.Goals as goal

pub returns-in_default : goal.returns-in_default
returns-in_default c = free-by-none c.args.self.now (no-box c.self.inside.fixes c.args.self.now c.in_default.is c.self.view_is)
