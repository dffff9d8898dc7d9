use Rattle.std.proofs.Common.{◌≡◌, ◌∷◌, List, Some, option_map, slice_get, sym, ◌∙◌, ap}
use Rattle.bucket_table.specs.Slots.{Slot, slots_behind}
use Rattle.bucket_table.specs.Walks.{behind_in}
use Rattle.bucket_table.specs.SplitRowsState.{key_of_place}
use Rattle.bucket_table.specs.Lent.{key_of_ref}
use Rattle.bucket_table.proofs.list.Content.{behind-absent}
use Rattle.bucket_table.proofs.slots.Traverse.{next-one}
use Rattle.bucket_table.proofs.slots.Step.{read-one}
use Rattle.bucket_table.proofs.split.rows.SplitRowsRows.next_at.Goals as goal

pub returns-in_err-place : goal.returns-in_err-place
returns-in_err-place g c =
    let none = behind-absent c.args.key.now c.args.self.now.slots c.in_err-place.ensures in
    rw (c.from_residual.ensures, none)

pub returns-in-Some : goal.returns-in-Some
returns-in-Some g c =
    let slots = c.args.self.now.slots in
    let n = c.in-Some.ensures in
    let f = n.first in
    let behind : slots_behind slots c.args.key.now ≡ Some (f.slot ∷ f.rest) = sym (ap (behind_in slots) c.in_ok-place.ensures.0) ∙ (n.is ∙ ap Some f.is) in
    let one = next-one c.args.key.now slots f.slot f.rest c.reveal_invariant.ensures behind in
    ap (λ (s : Slot). Some (Some s)) (read-one slots f.slot (key_of_ref c.slot_at.result.0) c.slot_at.result.1.now (key_of_place c.args.self.now.places c.in-Some.next) f.key c.slot_at.ensures.key c.slot_at.ensures.objects one.objects)
    ∙ sym (ap (option_map (λ (ss : List Slot). slice_get ss 0)) behind)
