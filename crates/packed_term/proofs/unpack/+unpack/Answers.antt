use Rattle.std.proofs.Common.{sym, ap, ◌∙◌, arith}
use Rattle.packed_term.specs.Forms.{term_of}
use Rattle.packed_term.proofs.SizeLaws.{tuple_falls, list_falls}
use Rattle.packed_term.proofs.unpack.+unpack.Goals as goal

pub unpack-unpack_all-requires : goal.unpack-unpack_all-requires
unpack-unpack_all-requires t c =
    (omega (arith, c.decreases, tuple_falls _ c.in-Pair.parts.value _ (sym c.packed.view_is ∙ ap term_of c.in-Pair.is) c.deref-in-Pair.ensures), tt {0})

pub unpack-unpack_all-requires-in-Triple : goal.unpack-unpack_all-requires-in-Triple
unpack-unpack_all-requires-in-Triple t c =
    (omega (arith, c.decreases, tuple_falls _ c.in-Triple.parts.value _ (sym c.packed.view_is ∙ ap term_of c.in-Triple.is) c.deref-in-Triple.ensures), tt {0})

pub unpack-unpack_all-requires-in-Tuple : goal.unpack-unpack_all-requires-in-Tuple
unpack-unpack_all-requires-in-Tuple t c = (
  omega (
    arith,
    c.decreases,
    tuple_falls _ c.in-Tuple.parts.value.items _ (sym c.packed.view_is ∙ ap term_of c.in-Tuple.is)
        (c.as_slice.ensures.value ∙ ap (λ v. v.items) c.deref-in-Tuple.ensures),
  ),
  tt {0},
)

pub unpack-unpack_all-requires-in-List : goal.unpack-unpack_all-requires-in-List
unpack-unpack_all-requires-in-List t c = (
  omega (
    arith,
    c.decreases,
    list_falls _ c.in-List.parts.value.items _ (sym c.packed.view_is ∙ ap term_of c.in-List.is)
        (c.as_slice-in-List.ensures.value ∙ ap (λ v. v.items) c.deref-in-List.ensures),
  ),
  tt {0},
)
