use Rattle.std.proofs.Common.{rules}
use Rattle.match_spec.proofs.QuickLaws.{rejects_integer, rejects_no_other}
use Rattle.match_spec.proofs.spec.quick.QuickTest.rejects_part.Goals as goal

pub returns-in-Some : goal.returns-in-Some
returns-in-Some c = rw (← rejects_integer c.args.self.now c.args.part.now _ _ c.as_integer.ensures c.in-Some.is) (search rules)

pub returns-in-None : goal.returns-in-None
returns-in-None c = rejects_no_other c.args.self.now c.args.part.now _ c.as_integer.ensures c.in-None.is
