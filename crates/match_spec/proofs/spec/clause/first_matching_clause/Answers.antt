use Rattle.std.proofs.Common.{sym, ◌∙◌, add-one}
use Rattle.match_spec.proofs.SpecLaws.{result_of_first-here, result_of_first-next}
use Rattle.match_spec.proofs.spec.clause.first_matching_clause.Goals as goal

pub returns-then-branch : goal.returns-then-branch
returns-then-branch c =
    sym (result_of_first-here _ _ c.clause-item.result _ c.loop-clause-test.true (sym c.clause-item.is) (sym c.in_ok-applies.ensures ∙ c.if-branch.true))
    ∙ c.loop-clause.invariant

pub loop-clause-preserved : goal.loop-clause-preserved
loop-clause-preserved c =
    rw add-one (result_of_first-next _ _ c.clause-item.result _ c.loop-clause-test.true (sym c.clause-item.is) (sym c.in_ok-applies.ensures ∙ c.if-branch.false) ∙ c.loop-clause.invariant)
