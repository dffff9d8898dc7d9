use Rattle.std.proofs.Common.{List, sym, ap, subst, ◌∙◌, map}
use Rattle.std.specs.Prelude.{IfSome}
use Rattle.ets_term.specs.Data.{data_of, data_list}
use Rattle.ets_term.specs.declared.term.Term.{Term}
use Rattle.match_spec.specs.Specifications.{are_clauses, is_spec}
use Rattle.match_spec.specs.inside.CompiledClauses.{clauses_from, clauses_of}
use Rattle.match_spec.specs.declared.spec.clause.Clause.{Clause}
use Rattle.match_spec.specs.inside.QuickTests.{RejectsAll}
use Rattle.match_spec.proofs.SpecLaws.{is_spec-list, clauses_of-list}
use Rattle.match_spec.proofs.spec.Spec.compile.Goals as goal

pub returns-clause-good : goal.returns-clause-good
returns-clause-good c =
    is_spec-list _ _ c.in-List.is (sym c.is_empty.ensures ∙ c.if-is_empty.false)
    (sym (ap (λ (ts : List Term). are_clauses (data_list (map data_of ts))) c.as_slice.ensures) ∙ c.in_ok-clauses.ensures.good)

pub invariant_of-result : goal.invariant_of-result
invariant_of-result c = record {
  good = ap (λ (t : Term). is_spec (data_of t)) c.in_ok-try_clone.ensures ∙ returns-clause-good c;
  compiled =
      c.in_ok-clauses.ensures.made ∙ ap (λ (ts : List Term). clauses_from (data_list (map data_of ts))) c.as_slice.ensures
      ∙ clauses_of-list _ _ c.in-List.is ∙ ap (λ (t : Term). clauses_of (data_of t)) (sym c.in_ok-try_clone.ensures);
  tested = subst (λ (cs : List Clause). IfSome c.quick_test-quick.result (λ q. RejectsAll q cs)) c.as_slice-2.ensures c.quick_test-quick.ensures;
}
