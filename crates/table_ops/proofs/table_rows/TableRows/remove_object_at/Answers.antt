use Rattle.std.proofs.Common.{◌≡◌, List, true, false, ◌==◌, ◌||◌, length, sym, ap, ◌∙◌}
use Rattle.ets_term.specs.declared.term.Term.{Term}
use Rattle.bucket_table.specs.Slots.{has_objects}
use Rattle.table_ops.proofs.PutLaws.{at-key, own-in, twice-in, out-in}
use Rattle.table_ops.proofs.DropLaws.{thins}
use Rattle.table_ops.proofs.table_rows.TableRows.remove_object_at.Goals as goal

pub returns-then-slot_stays-clause-slots : goal.returns-then-slot_stays-clause-slots
returns-then-slot_stays-clause-slots g c =
    let old = g.R.Rows.slots c.args.self.now.rows in
    let mid = g.R.Rows.slots c.replace_at-objects.new.self in
    let new = g.R.Rows.slots c.replace_at.new.self in
    let place = g.R.Rows.key_at c.args.self.now.rows c.args.place in
    let was = c.replace_at-objects.result in
    let rest = c.remove_all-count.new.self in
    let test : (c.args.hold || has_objects rest || (length was == 0)) ≡ true = ap (λ n. c.args.hold || has_objects rest || (n == 0)) (sym c.len-was_tombstone.ensures) ∙ ap (λ (l : List Term). c.args.hold || has_objects l || (c.len-was_tombstone.result == 0)) (sym c.as_slice.ensures) ∙ sym c.if-slot_stays.ensures in
    at-key place _ c.requires (λ key is.
    let written = twice-in old mid new place (g.R.Rows.key_at c.replace_at-objects.new.self c.args.place) key c.new.result rest is c.replace_at-objects.ensures.now c.replace_at-objects.ensures.place c.replace_at.ensures.now in
    thins true c.args.hold old new key c.args.object.now was rest c.remove_all-count.result (own-in old place key was is c.replace_at-objects.ensures.objects) c.remove_all-count.ensures.rest c.remove_all-count.ensures.count test written)

pub returns-else-slot_stays-clause-slots : goal.returns-else-slot_stays-clause-slots
returns-else-slot_stays-clause-slots g c =
    let old = g.R.Rows.slots c.args.self.now.rows in
    let mid = g.R.Rows.slots c.replace_at-objects.new.self in
    let new = g.R.Rows.slots c.delete_at.new.self in
    let place = g.R.Rows.key_at c.args.self.now.rows c.args.place in
    let was = c.replace_at-objects.result in
    let rest = c.remove_all-count.new.self in
    let test : (c.args.hold || has_objects rest || (length was == 0)) ≡ false = ap (λ n. c.args.hold || has_objects rest || (n == 0)) (sym c.len-was_tombstone.ensures) ∙ ap (λ (l : List Term). c.args.hold || has_objects l || (c.len-was_tombstone.result == 0)) (sym c.as_slice.ensures) ∙ sym c.if-slot_stays.ensures in
    at-key place _ c.requires (λ key is.
    let its = c.replace_at-objects.ensures.place ∙ is in
    let removed = out-in old mid new place (g.R.Rows.key_at c.replace_at-objects.new.self c.args.place) key key c.new.result is c.replace_at-objects.ensures.now c.replace_at-objects.ensures.place its (c.delete_at.ensures.now key its) in
    thins false c.args.hold old new key c.args.object.now was rest c.remove_all-count.result (own-in old place key was is c.replace_at-objects.ensures.objects) c.remove_all-count.ensures.rest c.remove_all-count.ensures.count test removed)
