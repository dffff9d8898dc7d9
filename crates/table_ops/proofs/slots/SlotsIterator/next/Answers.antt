use Rattle.std.proofs.Common.{ℕ, ◌+◌, drop, sym, ◌∙◌, subst, Some, IfSome}
use Rattle.std.specs.Prelude.{Option, option_map}
use Rattle.bucket_table.specs.Lent.{key_of_ref}
use Rattle.bucket_table.specs.Walks.{IsFirstPlace}
use Rattle.table_ops.specs.declared.slots.PlacedSlot.{PlacedSlot}
use Rattle.table_ops.specs.inside.SlotsLeft.{IsPlaced}
use Rattle.table_ops.proofs.QueryLaws.{is-here, next-here, passed-here}
use Rattle.table_ops.proofs.slots.SlotsIterator.next.Goals as goal

pub invariant_of-self : goal.invariant_of-self
invariant_of-self g c =
    let slots = g.R.Rows.slots c.self.inside.rows.now in
    let key_at = g.R.Rows.key_at c.self.inside.rows.now in
    let i = c.self.inside.returned_count in
    let inv = c.self.invariant in
    let place = c.in-Some.slot.place in
    let here = is-here key_at slots inv.distinct i place (subst (λ (o : Option PlacedSlot). IsFirstPlace key_at (drop i slots) (option_map (λ slot. slot.place) o)) c.in-Some.is inv.here) in
    record {
      distinct = inv.distinct;
      here = subst (IsFirstPlace key_at (drop (i + 1) slots)) (sym c.slot_at-self-inside.ensures.place) (next-here key_at slots inv.distinct i place here.0 c.next_place.result here.1 c.next_place.ensures);
      placed = c.slot_at-self-inside.ensures.placed;
      fits = inv.fits;
    }

pub returns-clause-steps : goal.returns-clause-steps
returns-clause-steps g c =
    let slots = g.R.Rows.slots c.self.inside.rows.now in
    let key_at = g.R.Rows.key_at c.self.inside.rows.now in
    let i = c.self.inside.returned_count in
    let inv = c.self.invariant in
    let slot = c.in-Some.slot in
    let first = subst (λ (o : Option PlacedSlot). IsFirstPlace key_at (drop i slots) (option_map (λ slot. slot.place) o)) c.in-Some.is inv.here in
    let placed = subst (λ (o : Option PlacedSlot). IfSome o (IsPlaced key_at slots)) c.in-Some.is inv.placed in
    sym c.self.view_is ∙ passed-here key_at slots inv.distinct i slot.place (key_of_ref slot.key) slot.objects.now first placed.key placed.objects
