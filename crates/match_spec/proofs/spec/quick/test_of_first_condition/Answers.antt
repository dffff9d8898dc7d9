use Rattle.std.proofs.Common.{sym, arith}
use Rattle.match_spec.proofs.QuickLaws.{of_conditions}
use Rattle.match_spec.proofs.spec.quick.test_of_first_condition.Goals as goal

pub returns-in-len1-up : goal.returns-in-len1-up
returns-in-len1-up c =
    of_conditions _ c.args.conditions.now c.condition-item.result c.args.len (omega (arith, c.in-len1-up.len_at_least)) (sym c.condition-item.is) c.test_of_comparison.ensures
