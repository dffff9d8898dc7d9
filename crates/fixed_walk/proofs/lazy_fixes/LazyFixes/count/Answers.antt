use Rattle.fixed_walk.proofs.CountLaws.{no-box, free-counted}
use Rattle.fixed_walk.proofs.lazy_fixes.LazyFixes.count.Goals as goal

pub returns-in-None : goal.returns-in-None
returns-in-None c = free-counted c.args.self.now c.args.pid (no-box c.self.inside.fixes c.args.self.now c.in-None.is c.self.view_is)
