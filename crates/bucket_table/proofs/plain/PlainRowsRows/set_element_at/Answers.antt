use Rattle.std.proofs.Common.{sym, ◌∙◌, ap, Some}
use Rattle.std.specs.Option.{option_map}
use Rattle.std.proofs.lemmas.Option.{same_Some, none-some}
use Rattle.bucket_table.proofs.slots.Single.{one-exists, element-in}
use Rattle.bucket_table.proofs.slots.Index.{at-place, place-entry, values-get}
use Rattle.bucket_table.proofs.slots.Step.{keys-kept}
use Rattle.bucket_table.proofs.plain.PlainRowsRows.set_element_at.Goals as goal

pub unreachable-requires : goal.unreachable-requires
unreachable-requires c =
    let slots = c.args.self.now.slots.entries in
    let s = place-entry slots c.args.place (one-exists _ _ c.requires) in
    none-some _ (c.in-None.ensures.value ∙ values-get slots c.args.place ∙ ap (option_map (λ e. e.1)) s.1)

pub returns-clause-now : goal.returns-clause-now
returns-clause-now c =
    let slots = c.args.self.now.slots.entries in
    let s = place-entry slots c.args.place (one-exists _ _ c.requires) in
    let at = at-place slots c.args.place s.0.0 s.0.1 c.get_index_mut.ensures.unique s.1 in
    let is = same_Some _ _ (c.in-Some.ensures.value ∙ values-get slots c.args.place ∙ ap (option_map (λ e. e.1)) s.1) in
    let set = element-in slots (Some s.0.0) c.in-Some.own.now c.set_element.new.self c.args.index c.args.value (at.found ∙ ap Some (sym is)) c.set_element.ensures in
    rw s.1 (at.written c.set_element.new.self ∙ set)

pub returns-clause-places : goal.returns-clause-places
returns-clause-places c = λ other. keys-kept c.args.self.now.slots.entries c.args.place other c.set_element.new.self
