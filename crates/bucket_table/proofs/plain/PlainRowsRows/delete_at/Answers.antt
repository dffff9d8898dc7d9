use Rattle.std.proofs.Common.{◌≡◌, Some, sym, ◌∙◌, ap, subst, length}
use Rattle.std.specs.Option.{option_map}
use Rattle.ets_term.specs.declared.term.Term.{Term}
use Rattle.bucket_table.specs.Slots.{Slot}
use Rattle.bucket_table.specs.Rows.{without}
use Rattle.bucket_table.specs.Entries.{objects_in}
use Rattle.bucket_table.specs.Walks.{ComesBefore}
use Rattle.bucket_table.proofs.order.Remove.{one-key}
use Rattle.bucket_table.proofs.slots.Step.{key_in, index-stays}
use Rattle.bucket_table.proofs.slots.Index.{at-place}
use Rattle.bucket_table.proofs.plain.PlainRowsRows.delete_at.Goals as goal

pub returns-clause-count : goal.returns-clause-count
returns-clause-count c =
    let slots = c.args.self.now.slots.entries in
    let at = at-place slots c.args.place c.in-Some.slot.0 c.in-Some.slot.1 c.reveal_invariant.ensures (sym c.in-Some.ensures.entry) in
    let key : key_in slots c.args.place ≡ Some c.in-Some.slot.0 = ap (option_map (λ (s : Slot). s.0)) (sym c.in-Some.ensures.entry) in
    ap (λ o. option_map length (objects_in slots o)) key ∙ ap (option_map length) at.found ∙ ap Some (sym c.len.ensures)

pub returns-clause-now : goal.returns-clause-now
returns-clause-now c = λ gone is.
    let slots = c.args.self.now.slots.entries in
    let at = at-place slots c.args.place c.in-Some.slot.0 c.in-Some.slot.1 c.reveal_invariant.ensures (sym c.in-Some.ensures.entry) in
    let key : key_in slots c.args.place ≡ Some c.in-Some.slot.0 = ap (option_map (λ (s : Slot). s.0)) (sym c.in-Some.ensures.entry) in
    c.in-Some.ensures.entries ∙ at.removed ∙ ap (without slots) (sym (one-key gone c.in-Some.slot.0 (key_in slots c.args.place) is key))

pub returns-clause-before : goal.returns-clause-before
returns-clause-before c = λ gone is other key e b.
    let slots = c.args.self.now.slots.entries in
    let own : key_in slots c.args.place ≡ Some c.in-Some.slot.0 = ap (option_map (λ (s : Slot). s.0)) (sym c.in-Some.ensures.entry) in
    let B : Term → Type 0 = λ term. ComesBefore slots key term in
    ap (λ left. key_in left other) c.in-Some.ensures.entries
    ∙ index-stays slots other c.args.place key c.in-Some.slot c.reveal_invariant.ensures (sym c.in-Some.ensures.entry) e
    (subst B (one-key gone c.in-Some.slot.0 (key_in slots c.args.place) is own) b)
