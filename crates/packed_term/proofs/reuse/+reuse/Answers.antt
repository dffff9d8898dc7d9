use Rattle.std.proofs.Common.{rules, sym, ap, ◌∙◌, arith}
use Rattle.packed_term.specs.Forms.{term_of}
use Rattle.packed_term.proofs.SizeLaws.{tuple_falls, list_falls}
use Rattle.packed_term.proofs.reuse.+reuse.Goals as goal

pub unpack_into-unpack_all_into-requires : goal.unpack_into-unpack_all_into-requires
unpack_into-unpack_all_into-requires t c = (
  omega (
    arith,
    c.decreases,
    tuple_falls _ c.in-Pair.parts.value _ (sym c.packed.view_is ∙ ap term_of c.in-Pair.is) c.deref.ensures,
  ),
  search rules,
)

pub unpack_into-unpack_all_into-requires-then-len-eq3 : goal.unpack_into-unpack_all_into-requires-then-len-eq3
unpack_into-unpack_all_into-requires-then-len-eq3 t c = (
  omega (
    arith,
    c.decreases,
    tuple_falls _ c.in-Triple.parts.value _ (sym c.packed.view_is ∙ ap term_of c.in-Triple.is) c.deref-then-len-eq3.ensures,
  ),
  search rules,
)

pub unpack_into-unpack_all_into-requires-then-len : goal.unpack_into-unpack_all_into-requires-then-len
unpack_into-unpack_all_into-requires-then-len t c = (
  omega (
    arith,
    c.decreases,
    tuple_falls _ c.in-Tuple.parts.value.items _ (sym c.packed.view_is ∙ ap term_of c.in-Tuple.is)
        (c.as_slice.ensures.value ∙ ap (λ v. v.items) c.deref-then-len.ensures),
  ),
  search rules,
)

pub unpack_into-unpack_all_into-requires-then-len-2 : goal.unpack_into-unpack_all_into-requires-then-len-2
unpack_into-unpack_all_into-requires-then-len-2 t c = (
  omega (
    arith,
    c.decreases,
    list_falls _ c.in-List.parts.value.items _ (sym c.packed.view_is ∙ ap term_of c.in-List.is)
        (c.as_slice-then-len-2.ensures.value ∙ ap (λ v. v.items) c.deref-then-len-2.ensures),
  ),
  search rules,
)
