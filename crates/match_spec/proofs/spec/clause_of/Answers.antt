use Rattle.std.proofs.Common.{◌∙◌}
use Rattle.match_spec.proofs.SpecLaws.{is_clause-parts}
use Rattle.match_spec.proofs.spec.clause_of.Goals as goal

pub returns-then-not-is_good-clause-badarg : goal.returns-then-not-is_good-clause-badarg
returns-then-not-is_good-clause-badarg c =
    λ e. is_clause-parts _ _ c.in-Some.parts c.in_ok-first.first.entries _ c.clause_parts.ensures c.in-Some.is c.in_ok-first.ensures c.is_good.ensures ∙ c.if-not-is_good.true

pub returns-clause-good : goal.returns-clause-good
returns-clause-good c =
    is_clause-parts _ _ c.in-Some.parts c.in_ok-first.first.entries _ c.clause_parts.ensures c.in-Some.is c.in_ok-first.ensures c.is_good.ensures ∙ c.if-not-is_good.false
