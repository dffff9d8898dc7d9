-- The text of the atom `true`.
use Rattle.std.proofs.Common.{◌≡◌, ◌∙◌, ℕ, true, List, ap}
use Rattle.std.specs.Prelude.{codes}
use Rattle.std.specs.Str.{bytes_eq}
use Rattle.std.proofs.lemmas.Slice.Eq.{bytes_eq-Decides}
use Rattle.ets_term.specs.declared.term.Term.{Term}
use Rattle.ets_term.specs.declared.term.Term.TheVariants.{Atom}
use Rattle.term_text.specs.Printed.{text_of_term, atom_text}
use Rattle.term_text.specs.Text.{is_lowercase, is_name}
use Rattle.term_text.proofs.Printed.{text_of_term-Atom}

pub text_of_term-true : (t : Term) (name : List ℕ) → t ≡ Atom name → bytes_eq name (codes "true") ≡ true → text_of_term t ≡ codes "true"
unfolding is_lowercase is_name
text_of_term-true t name is e =
    let same : name ≡ codes "true" = (bytes_eq-Decides name (codes "true")).0 e in
    ap (λ (u : Term). text_of_term u) is ∙ text_of_term-Atom name ∙ ap (λ (s : List ℕ). atom_text s) same
