use Rattle.std.proofs.Common.{◌≡◌, sym, ◌∙◌, ap, Some}
use Rattle.bucket_table.proofs.slots.Step.{keys-kept}
use Rattle.std.specs.Option.{option_map}
use Rattle.std.proofs.lemmas.Option.{same_Some}
use Rattle.bucket_table.specs.Slots.{with_objects}
use Rattle.bucket_table.proofs.slots.Index.{at-place, place-entry, values-get, key-kept}
use Rattle.bucket_table.proofs.plain.PlainRowsRows.replace_at.Goals as goal

pub returns-clause-objects : goal.returns-clause-objects
returns-clause-objects c =
    let slots = c.args.self.now.slots.entries in
    let s = place-entry slots c.args.place c.requires in
    let at = at-place slots c.args.place s.0.0 s.0.1 c.get_index_mut.ensures.unique s.1 in
    let value : Some c.in-Some.own.now ≡ Some s.0.1 = c.in-Some.ensures.value ∙ values-get slots c.args.place ∙ ap (option_map (λ e. e.1)) s.1 in
    let is = same_Some _ _ value in
    rw s.1 (at.found ∙ ap Some (sym is) ∙ ap Some (sym c.replace.ensures.value))

pub returns-clause-now : goal.returns-clause-now
returns-clause-now c =
    let slots = c.args.self.now.slots.entries in
    let s = place-entry slots c.args.place c.requires in
    let at = at-place slots c.args.place s.0.0 s.0.1 c.get_index_mut.ensures.unique s.1 in
    rw s.1 (at.written c.replace.new.dest ∙ ap (with_objects slots s.0.0) c.replace.ensures.after)

pub returns-clause-place : goal.returns-clause-place
returns-clause-place c = key-kept c.args.self.now.slots.entries c.args.place c.replace.new.dest

pub returns-clause-places : goal.returns-clause-places
returns-clause-places c = λ other. keys-kept c.args.self.now.slots.entries c.args.place other c.replace.new.dest
