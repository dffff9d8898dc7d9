use Rattle.std.proofs.Common.{◌<◌, List, length, map, sym, ap, ◌∙◌, arith}
use Rattle.std.proofs.lemmas.Bool.Decides.{nat_tests}
use Rattle.ets_term.specs.declared.term.Term.{Term}
use Rattle.ets_term.specs.Data.{data_of, data_list}
use Rattle.match_spec.specs.Expressions.{are_expressions}
use Rattle.match_spec.specs.inside.FirstPaths.{numbers_of}
use Rattle.match_spec.proofs.ExpressionLaws.{is-tuple, is-tuples, is-atom, is-other}
use Rattle.match_spec.proofs.expression.check.+checked.Goals as goal

pub is_tuple_expression-returns-then-terms-eq1 : goal.is_tuple_expression-returns-then-terms-eq1
is_tuple_expression-returns-then-terms-eq1 t c =
    c.are_expressions.ensures ∙ ap (λ (ts : List Term). are_expressions (numbers_of c.args.bound_variables.now.entries) (data_list (map data_of ts))) c.as_slice.ensures
    ∙ is-tuple (numbers_of c.args.bound_variables.now.entries) _ c.index-terms-0.result _ c.if-terms-eq1.true (sym c.index-terms-0.is) c.in-Tuple.is

pub is_tuple_expression-returns-else-terms-eq1 : goal.is_tuple_expression-returns-else-terms-eq1
is_tuple_expression-returns-else-terms-eq1 t c =
    let some : 0 < length c.args.terms.now = grind (arith, nat_tests) in
    is-tuples (numbers_of c.args.bound_variables.now.entries) _ c.index-terms-0.result _ some c.if-terms-eq1.false (sym c.index-terms-0.is) c.in-Tuple.is

pub is_tuple_expression-returns-in-Atom : goal.is_tuple_expression-returns-in-Atom
is_tuple_expression-returns-in-Atom t c =
    let some : 0 < length c.args.terms.now = grind (arith, nat_tests) in
    rw (← is-atom (numbers_of c.args.bound_variables.now.entries) c.args.terms.now c.index-terms-0.result c.in-Atom.name some (sym c.index-terms-0.is) c.in-Atom.is, ← c.text.ensures.text, ← c.are_expressions-arguments_are_expressions.ensures)
    c.is_application.ensures

pub is_tuple_expression-returns-in_default : goal.is_tuple_expression-returns-in_default
is_tuple_expression-returns-in_default t c =
    let some : 0 < length c.args.terms.now = grind (arith, nat_tests) in
    is-other (numbers_of c.args.bound_variables.now.entries) _ c.index-terms-0.result some (sym c.index-terms-0.is) c.in_default.not-Tuple c.in_default.not-Atom
