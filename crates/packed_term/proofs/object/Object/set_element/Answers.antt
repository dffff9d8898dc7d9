use Rattle.std.proofs.Common.{sym, ap, ◌∙◌}
use Rattle.ets_term.specs.declared.term.Term.TheVariants.{Tuple}
use Rattle.packed_term.specs.contracts.object.Object.{the_view}
use Rattle.packed_term.specs.Elements.{with_element}
use Rattle.packed_term.specs.Objects.{object_of}
use Rattle.packed_term.proofs.TupleLaws.{set_in}
use Rattle.packed_term.proofs.object.Object.set_element.Goals.{in-Pair, in-Other}
use Rattle.packed_term.proofs.object.Object.set_element.Goals as goal

pub returns : goal.returns
returns c =
    elim c.match-self.branch [
      | in-Pair w ↦ ap the_view w.self-inside-is ∙ ap Tuple w.set_at.ensures ∙ sym (set_in _ _ _ _ (sym c.self.view_is ∙ ap object_of w.in-Pair.is))
      | in-Other w ↦
          ap the_view w.self-inside-is ∙ w.set_element.ensures
          ∙ ap (with_element c.args.index c.args.value) (sym (ap object_of w.in-Other.is) ∙ c.self.view_is)
    ]
