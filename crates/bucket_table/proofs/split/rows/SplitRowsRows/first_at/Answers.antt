use Rattle.std.proofs.Common.{◌≡◌, List, Some, slice_get, sym, ◌∙◌, ap, subst}
use Rattle.bucket_table.specs.Slots.{Slot, objects_of}
use Rattle.bucket_table.specs.SplitRowsState.{key_of_place}
use Rattle.bucket_table.specs.Lent.{key_of_ref}
use Rattle.bucket_table.proofs.slots.Traverse.{first-one}
use Rattle.bucket_table.proofs.slots.Step.{read-one}
use Rattle.bucket_table.proofs.split.rows.SplitRowsRows.first_at.Goals as goal

pub returns : goal.returns
returns g c =
    let slots = c.args.self.now.slots in
    let f = c.in_ok-place.ensures in
    let own : objects_of slots f.slot.0 ≡ Some f.slot.1 = subst (λ (l : List Slot). objects_of l f.slot.0 ≡ Some f.slot.1) (sym f.is) (first-one f.slot f.rest).objects in
    ap Some (read-one slots f.slot (key_of_ref c.slot_at.result.0) c.slot_at.result.1.now (key_of_place c.args.self.now.places c.in_ok-place.place) f.key c.slot_at.ensures.key c.slot_at.ensures.objects own)
    ∙ sym (ap (λ (l : List Slot). slice_get l 0) f.is)
