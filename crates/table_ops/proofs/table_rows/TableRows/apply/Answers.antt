use Rattle.std.proofs.Common.{◌≡◌, ◌++◌, [], ◌∷◌, sym, ap, subst, ◌∙◌, List}
use Rattle.bucket_table.specs.Slots.{Slot}
use Rattle.table_ops.specs.inside.DeletePlan.{PlannedSlot, plan_at, with_kept, after_plan, AreInOrder}
use Rattle.table_ops.proofs.TableRowsLaws.{both-keep}
use Rattle.table_ops.proofs.DeletePlanLaws.{plan_of_slot-append, order-last, order-thin, plan_of_slot-same, thin-append}
use Rattle.table_ops.proofs.table_rows.TableRows.apply.Goals as goal

pub apply_one-requires : goal.apply_one-requires
apply_one-requires g c =
    let key_at = g.R.Rows.key_at c.loop-delete.self.rows in
    let ms = c.pop.new.self.items in
    let m : PlannedSlot = (key_at c.in-Some.delete.place, c.in-Some.delete.kept) in
    let all : plan_at key_at c.loop-delete.plan.list.items ≡ plan_at key_at ms ++ m ∷ [] = ap (plan_at key_at) c.in-Some.ensures.items ∙ plan_of_slot-append key_at ms (c.in-Some.delete ∷ []) in
    (order-last (g.R.Rows.slots c.loop-delete.self.rows) (plan_at key_at ms) m (subst (AreInOrder (g.R.Rows.slots c.loop-delete.self.rows)) all c.loop-delete.invariant.order)).0

pub loop-delete-preserved : goal.loop-delete-preserved
loop-delete-preserved g c =
    let key_at = g.R.Rows.key_at c.loop-delete.self.rows in
    let after = g.R.Rows.key_at c.apply_one.new.self.rows in
    let slots = g.R.Rows.slots c.loop-delete.self.rows in
    let new = g.R.Rows.slots c.apply_one.new.self.rows in
    let ms = c.pop.new.self.items in
    let m : PlannedSlot = (key_at c.in-Some.delete.place, c.in-Some.delete.kept) in
    let all : plan_at key_at c.loop-delete.plan.list.items ≡ plan_at key_at ms ++ m ∷ [] = ap (plan_at key_at) c.in-Some.ensures.items ∙ plan_of_slot-append key_at ms (c.in-Some.delete ∷ []) in
    let o = order-last slots (plan_at key_at ms) m (subst (AreInOrder slots) all c.loop-delete.invariant.order) in
    let kept' : plan_at after ms ≡ plan_at key_at ms = plan_of_slot-same key_at after slots m.0 ms (λ other h. c.apply_one.ensures.places other h) o.1 in
    let after_removal : new ≡ with_kept c.args.hold m.0 m.1 slots = c.apply_one.ensures.slots in
    record {
      rest = ap (λ (ns : List PlannedSlot). after_plan c.args.hold ns new) kept' ∙ ap (after_plan c.args.hold (plan_at key_at ms)) after_removal ∙ sym (thin-append c.args.hold (plan_at key_at ms) m slots)
          ∙ ap (λ (ns : List PlannedSlot). after_plan c.args.hold ns slots) (sym all) ∙ c.loop-delete.invariant.rest;
      order = subst (λ (ns : List PlannedSlot). AreInOrder new ns) (sym kept') (subst (λ (l : List Slot). AreInOrder l (plan_at key_at ms)) (sym after_removal) (order-thin c.args.hold slots m (plan_at key_at ms) c.reveal_invariant.ensures o.2 o.1));
      keeps = both-keep c.apply_one.ensures.keeps c.loop-delete.invariant.keeps;
    }
