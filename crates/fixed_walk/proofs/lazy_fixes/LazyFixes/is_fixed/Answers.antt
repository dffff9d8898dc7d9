use Rattle.std.proofs.Common.{sym}
use Rattle.fixed_walk.proofs.CountLaws.{no-box}
use Rattle.fixed_walk.proofs.lazy_fixes.LazyFixes.is_fixed.Goals as goal

pub returns-in-None : goal.returns-in-None
returns-in-None c = sym (no-box c.self.inside.fixes c.args.self.now c.in-None.is c.self.view_is)
