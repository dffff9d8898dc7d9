use Rattle.std.proofs.Common.{sym, ◌∙◌, ap, Some}
use Rattle.std.specs.Option.{option_map}
use Rattle.std.proofs.lemmas.Option.{same_Some, none-some}
use Rattle.bucket_table.specs.Slots.{with_objects}
use Rattle.bucket_table.proofs.slots.Single.{one-exists, one-long, swapped}
use Rattle.bucket_table.proofs.slots.Index.{at-place, place-entry, values-get}
use Rattle.bucket_table.proofs.slots.Step.{keys-kept}
use Rattle.bucket_table.proofs.plain.PlainRowsRows.replace_one_at.Goals as goal

pub replace-requires : goal.replace-requires
replace-requires c =
    let slots = c.args.self.now.slots.entries in
    let s = place-entry slots c.args.place (one-exists _ _ c.requires) in
    let at = at-place slots c.args.place s.0.0 s.0.1 c.get_index_mut.ensures.unique s.1 in
    let is = same_Some _ _ (c.in-Some.ensures.value ∙ values-get slots c.args.place ∙ ap (option_map (λ e. e.1)) s.1) in
    one-long _ _ _ c.requires (rw s.1 (at.found ∙ ap Some (sym is)))

pub unreachable-requires : goal.unreachable-requires
unreachable-requires c =
    let slots = c.args.self.now.slots.entries in
    let s = place-entry slots c.args.place (one-exists _ _ c.requires) in
    none-some _ (c.in-None.ensures.value ∙ values-get slots c.args.place ∙ ap (option_map (λ e. e.1)) s.1)

pub returns-clause-objects : goal.returns-clause-objects
returns-clause-objects c =
    let slots = c.args.self.now.slots.entries in
    let s = place-entry slots c.args.place (one-exists _ _ c.requires) in
    let at = at-place slots c.args.place s.0.0 s.0.1 c.get_index_mut.ensures.unique s.1 in
    let is = same_Some _ _ (c.in-Some.ensures.value ∙ values-get slots c.args.place ∙ ap (option_map (λ e. e.1)) s.1) in
    let was = swapped _ _ c.in-Some.own.now c.replace.new.self c.replace.result c.args.object c.requires (rw s.1 (at.found ∙ ap Some (sym is))) c.replace.ensures.old c.replace.ensures.new in
    rw s.1 (at.found ∙ ap Some (sym is) ∙ ap Some was.read)

pub returns-clause-now : goal.returns-clause-now
returns-clause-now c =
    let slots = c.args.self.now.slots.entries in
    let s = place-entry slots c.args.place (one-exists _ _ c.requires) in
    let at = at-place slots c.args.place s.0.0 s.0.1 c.get_index_mut.ensures.unique s.1 in
    let is = same_Some _ _ (c.in-Some.ensures.value ∙ values-get slots c.args.place ∙ ap (option_map (λ e. e.1)) s.1) in
    let was = swapped _ _ c.in-Some.own.now c.replace.new.self c.replace.result c.args.object c.requires (rw s.1 (at.found ∙ ap Some (sym is))) c.replace.ensures.old c.replace.ensures.new in
    rw s.1 (at.written c.replace.new.self ∙ ap (with_objects slots s.0.0) was.written)

pub returns-clause-places : goal.returns-clause-places
returns-clause-places c = λ other. keys-kept c.args.self.now.slots.entries c.args.place other c.replace.new.self
