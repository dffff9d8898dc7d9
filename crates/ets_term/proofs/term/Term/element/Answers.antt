use Rattle.std.proofs.Common.{rules}
use Rattle.ets_term.proofs.ElementLaws.{element_past}
use Rattle.ets_term.proofs.term.Term.element.Goals as goal

pub returns-then-n-len : goal.returns-then-n-len
returns-then-n-len c = element_past c.args.n c.args.self.now c.in-Tuple.items c.in-Tuple.is (search rules)
