use Rattle.std.proofs.Common.{sym, ap, ◌∙◌, slice_set}
use Rattle.ets_term.specs.declared.term.Term.TheVariants.{Tuple}
use Rattle.packed_term.specs.contracts.packed.Packed.{the_view}
use Rattle.packed_term.specs.Elements.{with_element}
use Rattle.packed_term.specs.Forms.{term_of}
use Rattle.packed_term.proofs.FormLaws.{none_set}
use Rattle.packed_term.proofs.TupleLaws.{set_in}
use Rattle.packed_term.proofs.packed.Packed.set_element.Goals.{in-Pair, in-Triple, in-Tuple, in_default}
use Rattle.packed_term.proofs.packed.Packed.set_element.Goals as goal

pub returns : goal.returns
returns c =
    elim c.match-self.branch [
      | in-Pair w ↦
          ap the_view w.self-inside-is ∙ ap Tuple (w.set_in_array.ensures ∙ ap (λ ts. slice_set ts c.args.index c.args.value) w.deref_mut.ensures.value)
          ∙ sym (set_in _ _ _ _ (sym c.self.view_is ∙ ap term_of w.in-Pair.is))
      | in-Triple w ↦
          ap the_view w.self-inside-is ∙ ap Tuple (w.set_in_array-in-Triple.ensures ∙ ap (λ ts. slice_set ts c.args.index c.args.value) w.deref_mut-in-Triple.ensures.value)
          ∙ sym (set_in _ _ _ _ (sym c.self.view_is ∙ ap term_of w.in-Triple.is))
      | in-Tuple w ↦
          ap the_view w.self-inside-is
          ∙ ap Tuple (w.set_in_vec.ensures ∙ ap (λ v. slice_set v.items c.args.index c.args.value) w.deref_mut-in-Tuple.ensures.value)
          ∙ sym (set_in _ _ _ _ (sym c.self.view_is ∙ ap term_of w.in-Tuple.is))
      | in_default w ↦
          ap the_view w.self-inside-is ∙ none_set _ _ _ w.in_default.not-Pair w.in_default.not-Triple w.in_default.not-Tuple
          ∙ ap (with_element c.args.index c.args.value) c.self.view_is
    ]
