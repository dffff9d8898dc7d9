use Rattle.std.proofs.Common.{sym, arith}
use Rattle.match_spec.proofs.QuickLaws.{of_all}
use Rattle.match_spec.proofs.spec.quick.quick_test.Goals as goal

pub returns-in-len1 : goal.returns-in-len1
returns-in-len1 c = of_all _ c.args.clauses.now c.clause-item.result (omega (arith, c.in-len1.len_at_least, c.in-len1.len_below)) (sym c.clause-item.is) c.clause_test.ensures
