use Rattle.std.proofs.Common.{◌≡◌, rules, List, option_map, is_some, subst, sym, ◌∙◌}
use Rattle.std.specs.List.{list_all}
use Rattle.ets_term.specs.declared.term.Term.{Term, the_lemmas}
use Rattle.ets_term.specs.declared.term.Term.TheVariants as term
use Rattle.ets_term.specs.Depth.{elements}
use Rattle.counters.specs.Elements.{element_spec_of_parts, all_element_specs, element_specs_of}
use Rattle.counters.specs.declared.elements.ElementSpecs.TheVariants as form
use Rattle.node_reasons.proofs.FormLaws.{many-specs}
use Rattle.node_reasons.proofs.forms.are_element_specs.Goals as goal

pub returns-in-List : goal.returns-in-List
returns-in-List c =
    let listed : c.are_all_element_specs.result ≡ list_all (λ (term : Term). is_some (element_spec_of_parts c.args.keypos (elements term))) c.in-List.terms =
    subst (λ (terms : List Term). c.are_all_element_specs.result ≡ list_all (λ (term : Term). is_some (element_spec_of_parts c.args.keypos (elements term))) terms) c.as_slice-in-List.ensures c.are_all_element_specs.ensures in
    let means : element_specs_of c.args.keypos (term.List c.in-List.terms) ≡ option_map form.Many (all_element_specs c.args.keypos c.in-List.terms) = search (rules, the_lemmas) in
    rw (c.in-List.is, means) (listed ∙ sym (many-specs c.args.keypos c.in-List.terms))
