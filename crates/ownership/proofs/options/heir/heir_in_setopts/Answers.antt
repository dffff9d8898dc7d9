use Rattle.std.proofs.Common.{◌≡◌, rules, List, subst}
use Rattle.ets_term.specs.declared.term.Term.{Term, the_lemmas}
use Rattle.ets_term.specs.declared.term.Term.TheVariants as term
use Rattle.ownership.specs.Options.{heirs_from, heir_after}
use Rattle.ownership.specs.inside.Reading.{ReadsHeir}
use Rattle.ownership.proofs.options.heir.heir_in_setopts.Goals as goal

pub returns-in-List : goal.returns-in-List
returns-in-List c = λ heir.
    let means : heir_after heir (term.List c.in-List.terms) ≡ heirs_from heir c.in-List.terms = search (rules, the_lemmas) in
    rw (c.in-List.is, means) (subst (λ (terms : List Term). ReadsHeir (heirs_from heir terms) heir c.parse_last_heir.result) c.as_slice.ensures (c.parse_last_heir.ensures heir))
