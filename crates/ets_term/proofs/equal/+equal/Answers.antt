use Rattle.std.proofs.Common.{rules, sym, ◌∙◌, arith}
use Rattle.ets_term.proofs.DataListLaws.{atoms_alike, binaries_alike, tuples_alike, sizes_differ, differ_here, alike_here, none_left}
use Rattle.ets_term.proofs.equal.+equal.Goals as goal

pub equal_terms-returns-in-Atom-Atom : goal.equal_terms-returns-in-Atom-Atom
equal_terms-returns-in-Atom-Atom t c = search (rules, atoms_alike)

pub equal_terms-returns-in-Tuple-Tuple : goal.equal_terms-returns-in-Tuple-Tuple
equal_terms-returns-in-Tuple-Tuple t c = search (rules, tuples_alike)

pub equal_terms-returns-in-Binary-Binary : goal.equal_terms-returns-in-Binary-Binary
equal_terms-returns-in-Binary-Binary t c = search (rules, binaries_alike)

pub equal_items-returns-then-xs-ys : goal.equal_items-returns-then-xs-ys
equal_items-returns-then-xs-ys t c = search (rules, sizes_differ)

pub equal_items-returns-then-not-equal_terms : goal.equal_items-returns-then-not-equal_terms
equal_items-returns-then-not-equal_terms t c =
    sym (differ_here _ _ c.loop-at.at _ _ c.loop-at-test.true (omega arith) (omega arith) c.index-xs-at.is c.index-ys-at.is (sym c.equal_terms.ensures ∙ c.if-not-equal_terms.true) c.loop-at.invariant)

pub equal_items-loop-at-preserved : goal.equal_items-loop-at-preserved
equal_items-loop-at-preserved t c =
    alike_here _ _ c.loop-at.at _ _ c.loop-at-test.true (omega arith) (omega arith) c.index-xs-at.is c.index-ys-at.is (sym c.equal_terms.ensures ∙ c.if-not-equal_terms.false) c.loop-at.invariant

pub equal_items-returns : goal.equal_items-returns
equal_items-returns t c = sym (none_left _ _ c.loop-at.at (omega (arith, c.loop-at-test.false)) c.loop-at.invariant)
