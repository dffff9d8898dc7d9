use Rattle.std.proofs.Common.{◌≡◌, None, Some, sym, subst, ap, ◌∙◌, List}
use Rattle.std.specs.Prelude.{option_map}
use Rattle.bucket_table.specs.Lent.{slot_of_ref}
use Rattle.bucket_table.specs.Slots.{Slot}
use Rattle.fixed_walk.specs.Walk.{next_slot}
use Rattle.fixed_walk.specs.TableState.{TableState}
use Rattle.fixed_walk.proofs.FromLaws.{next-answer, next-absent}
use Rattle.fixed_walk.proofs.walked.Walked.next_lookup.Goals as goal

pub returns-clause-ok : goal.returns-clause-ok
returns-clause-ok g c =
    let rows = c.rows-rows.result.now in
    let key_at = g.R.Rows.key_at rows in
    let slots = g.R.Rows.slots rows in
    let key = c.args.key.now in
    let is : slots ≡ c.args.self.now.content.slots = c.rows-rows.ensures.slots ∙ ap (λ (t : TableState). t.content.slots) c.self.view_is in
    let key_is = next-answer key_at slots key (key_at c.in-Some.place) c.next_place.result c.reveal_invariant.ensures c.in-Some.ensures.0 c.next_place.ensures in
    subst (λ (zs : List Slot). next_slot zs key ≡ Some (option_map slot_of_ref c.first_nonempty.result)) is (key_is ∙ ap Some (sym c.first_nonempty.ensures))

pub returns-in_default-clause-err : goal.returns-in_default-clause-err
returns-in_default-clause-err g c =
    let is = c.rows-rows.ensures.slots ∙ ap (λ (t : TableState). t.content.slots) c.self.view_is in
    subst (λ (zs : List Slot). next_slot zs c.args.key.now ≡ None) is (next-absent (g.R.Rows.slots c.rows-rows.result.now) c.args.key.now c.in_default.ensures)
