use Rattle.std.proofs.Common.{◌∙◌, ℕ, List, ap, sym}
use Rattle.std.specs.Prelude.{codes}
use Rattle.std.specs.Str.{bytes_eq}
use Rattle.ets_script.proofs.PrintedTrue.{text_of_term-true}
use Rattle.ets_script.proofs.answer.is_true.Goals as goal

pub returns-in-Atom : goal.returns-in-Atom
returns-in-Atom c =
    λ e. text_of_term-true c.args.term.now c.in-Atom.name c.in-Atom.is (ap (λ (s : List ℕ). bytes_eq s (codes "true")) (sym (c.as_bytes.ensures.value ∙ c.text.ensures.text)) ∙ (sym c.eq.ensures ∙ e))
