use Rattle.std.proofs.Common.{sym, ap, ◌∙◌, arith}
use Rattle.packed_term.specs.Forms.{term_of}
use Rattle.packed_term.proofs.SizeLaws.{tuple_falls, list_falls}
use Rattle.packed_term.proofs.copy.+copy.Goals as goal

pub copy-copy_all-requires : goal.copy-copy_all-requires
copy-copy_all-requires t c = (
  omega (
    arith,
    c.decreases,
    tuple_falls _ c.in-Tuple.parts.value.items _ (sym c.packed.view_is ∙ ap term_of c.in-Tuple.is)
        (c.as_slice.ensures.value ∙ ap (λ v. v.items) c.deref-in-Tuple.ensures),
  ),
  tt {0},
)

pub copy-copy_all-requires-in-List : goal.copy-copy_all-requires-in-List
copy-copy_all-requires-in-List t c = (
  omega (
    arith,
    c.decreases,
    list_falls _ c.in-List.parts.value.items _ (sym c.packed.view_is ∙ ap term_of c.in-List.is)
        (c.as_slice-in-List.ensures.value ∙ ap (λ v. v.items) c.deref-in-List.ensures),
  ),
  tt {0},
)
