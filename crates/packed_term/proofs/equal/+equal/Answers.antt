use Rattle.std.proofs.Common.{rules, sym, ap, ◌∙◌, arith}
use Rattle.ets_term.specs.declared.term.Term.TheVariants.{Tuple}
use Rattle.ets_term.proofs.DataListLaws.{atoms_alike, binaries_alike, tuples_alike, sizes_differ, differ_here, alike_here, none_left}
use Rattle.packed_term.specs.Forms.{term_of}
use Rattle.packed_term.proofs.SizeLaws.{tuple_falls, list_falls}
use Rattle.packed_term.proofs.equal.+equal.Goals as goal

pub are_equal-returns-then-parts-terms : goal.are_equal-returns-then-parts-terms
are_equal-returns-then-parts-terms t c = sym (sizes_differ _ _ c.if-parts-terms.true)

pub are_equal-returns-then-not-is_equal : goal.are_equal-returns-then-not-is_equal
are_equal-returns-then-not-is_equal t c =
    sym (differ_here _ _ c.loop-at.at _ _ c.loop-at-test.true (omega arith) c.if-parts-terms.false c.index-parts-at.is c.index-terms-at.is (sym c.is_equal.ensures ∙ c.if-not-is_equal.true) c.loop-at.invariant)

pub are_equal-loop-at-preserved : goal.are_equal-loop-at-preserved
are_equal-loop-at-preserved t c =
    alike_here _ _ c.loop-at.at _ _ c.loop-at-test.true (omega arith) c.if-parts-terms.false c.index-parts-at.is c.index-terms-at.is (sym c.is_equal.ensures ∙ c.if-not-is_equal.false) c.loop-at.invariant

pub are_equal-returns : goal.are_equal-returns
are_equal-returns t c = sym (none_left _ _ c.loop-at.at (omega (arith, c.loop-at-test.false)) c.loop-at.invariant)

pub is_equal-are_equal-requires : goal.is_equal-are_equal-requires
is_equal-are_equal-requires t c =
    (omega (arith, c.decreases, tuple_falls _ c.in-Pair-Tuple.parts.value _ (sym c.packed.view_is ∙ ap term_of c.in-Pair-Tuple.is-0) c.deref-in-Pair-Tuple.ensures), tt {0})

pub is_equal-are_equal-requires-in-Triple-Tuple : goal.is_equal-are_equal-requires-in-Triple-Tuple
is_equal-are_equal-requires-in-Triple-Tuple t c =
    (omega (arith, c.decreases, tuple_falls _ c.in-Triple-Tuple.parts.value _ (sym c.packed.view_is ∙ ap term_of c.in-Triple-Tuple.is-0) c.deref-in-Triple-Tuple.ensures), tt {0})

pub is_equal-are_equal-requires-in-Tuple-Tuple : goal.is_equal-are_equal-requires-in-Tuple-Tuple
is_equal-are_equal-requires-in-Tuple-Tuple t c = (
  omega (
    arith,
    c.decreases,
    tuple_falls _ c.in-Tuple-Tuple.parts.value.items _ (sym c.packed.view_is ∙ ap term_of c.in-Tuple-Tuple.is-0)
        (c.as_slice-in-Tuple-Tuple.ensures.value ∙ ap (λ v. v.items) c.deref-in-Tuple-Tuple.ensures),
  ),
  tt {0},
)

pub is_equal-are_equal-requires-in-List-List : goal.is_equal-are_equal-requires-in-List-List
is_equal-are_equal-requires-in-List-List t c = (
  omega (
    arith,
    c.decreases,
    list_falls _ c.in-List-List.parts.value.items _ (sym c.packed.view_is ∙ ap term_of c.in-List-List.is-0)
        (c.as_slice-in-List-List.ensures.value ∙ ap (λ v. v.items) c.deref-in-List-List.ensures),
  ),
  tt {0},
)

pub is_equal-returns-in-Name-Atom : goal.is_equal-returns-in-Name-Atom
is_equal-returns-in-Name-Atom t c =
    let is = sym c.packed.view_is ∙ ap term_of c.in-Name-Atom.is-0 in
    rw (atoms_alike _ _ _ _ is c.in-Name-Atom.is-1) (search rules)

pub is_equal-returns-in-Atom-Atom : goal.is_equal-returns-in-Atom-Atom
is_equal-returns-in-Atom-Atom t c =
    let is = sym c.packed.view_is ∙ ap term_of c.in-Atom-Atom.is-0 in
    rw (atoms_alike _ _ _ _ is c.in-Atom-Atom.is-1) (search rules)

pub is_equal-returns-in-Pair-Tuple : goal.is_equal-returns-in-Pair-Tuple
is_equal-returns-in-Pair-Tuple t c =
    c.are_equal.ensures
    ∙ sym (tuples_alike _ _ _ _ (sym c.packed.view_is ∙ ap term_of c.in-Pair-Tuple.is-0 ∙ ap Tuple (sym c.deref-in-Pair-Tuple.ensures))
    (c.in-Pair-Tuple.is-1 ∙ ap Tuple (sym c.as_slice.ensures)))

pub is_equal-returns-in-Triple-Tuple : goal.is_equal-returns-in-Triple-Tuple
is_equal-returns-in-Triple-Tuple t c =
    c.are_equal-in-Triple-Tuple.ensures
    ∙ sym (tuples_alike _ _ _ _ (sym c.packed.view_is ∙ ap term_of c.in-Triple-Tuple.is-0 ∙ ap Tuple (sym c.deref-in-Triple-Tuple.ensures))
    (c.in-Triple-Tuple.is-1 ∙ ap Tuple (sym c.as_slice-in-Triple-Tuple.ensures)))

pub is_equal-returns-in-Tuple-Tuple : goal.is_equal-returns-in-Tuple-Tuple
is_equal-returns-in-Tuple-Tuple t c =
    c.are_equal-in-Tuple-Tuple.ensures
    ∙ sym (tuples_alike _ _ _ _
    (sym c.packed.view_is ∙ ap term_of c.in-Tuple-Tuple.is-0
    ∙ ap Tuple (sym (c.as_slice-in-Tuple-Tuple.ensures.value ∙ ap (λ v. v.items) c.deref-in-Tuple-Tuple.ensures)))
    (c.in-Tuple-Tuple.is-1 ∙ ap Tuple (sym c.as_slice-in-Tuple-Tuple-2.ensures)))

pub is_equal-returns-in-Short-Binary : goal.is_equal-returns-in-Short-Binary
is_equal-returns-in-Short-Binary t c =
    let is = sym c.packed.view_is ∙ ap term_of c.in-Short-Binary.is-0 in
    rw (binaries_alike _ _ _ _ is c.in-Short-Binary.is-1) (search rules)

pub is_equal-returns-in-Binary-Binary : goal.is_equal-returns-in-Binary-Binary
is_equal-returns-in-Binary-Binary t c =
    let is = sym c.packed.view_is ∙ ap term_of c.in-Binary-Binary.is-0 in
    rw (binaries_alike _ _ _ _ is c.in-Binary-Binary.is-1) (search rules)
