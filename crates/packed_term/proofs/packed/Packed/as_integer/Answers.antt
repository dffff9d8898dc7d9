use Rattle.std.proofs.Common.{rules, ◌∙◌, ap}
use Rattle.ets_term.specs.declared.term.Term.{the_lemmas}
use Rattle.ets_term.specs.Views.{as_int}
use Rattle.packed_term.proofs.FormLaws.{no_integer}
use Rattle.packed_term.proofs.packed.Packed.as_integer.Goals as goal

pub returns-in-Small : goal.returns-in-Small
returns-in-Small c = search (rules, the_lemmas)

pub returns-in-Wide : goal.returns-in-Wide
returns-in-Wide c = search (rules, the_lemmas)

pub returns-in_default : goal.returns-in_default
returns-in_default c = no_integer _ c.in_default.not-Small c.in_default.not-Wide ∙ ap as_int c.self.view_is
