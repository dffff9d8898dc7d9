use Rattle.match_spec.proofs.QuickLaws.{of_clause}
use Rattle.match_spec.proofs.spec.quick.clause_test.Goals as goal

pub returns-in-Tuple : goal.returns-in-Tuple
returns-in-Tuple c = of_clause _ c.args.clause.now c.in-Tuple.parts _ _ c.in-Tuple.is c.len.ensures c.as_slice.ensures c.test_of_first_condition.ensures
