use Rattle.std.proofs.Common.{◌≡◌, ◌+◌, ◌≤◌, ◌++◌, ap, subst, ◌∙◌, List, length, take, drop, arith}
use Rattle.std.specs.Prelude.{Option, ℕ}
use Rattle.ets_term.specs.declared.term.Term.{Term}
use Rattle.bucket_table.specs.Lent.{key_of_ref}
use Rattle.bucket_table.specs.Slots.{object_count}
use Rattle.bucket_table.specs.Walks.{IsFirstPlace}
use Rattle.node_list.specs.Ticks.{ticks}
use Rattle.table_ops.specs.Results.{chosen_count}
use Rattle.table_ops.specs.Read.{all_objects}
use Rattle.table_ops.specs.inside.DeletePlan.{plan_at, plan_of_slot, plan_of}
use Rattle.table_ops.proofs.DeletePlanLaws.{plan-next}
use Rattle.table_ops.proofs.QueryLaws.{is-here, none-here, next-here, objects-here, objects-count, chosen-few, chosen-slot, slot-count, count-within, ticks-on, ticks-most, joined}
use Rattle.table_ops.proofs.table_rows.TableRows.plan_all.Goals as goal

pub unreachable-requires : goal.unreachable-requires
unreachable-requires g c =
    let slots = g.R.Rows.slots c.args.self.now.rows in
    let i = c.loop.counter in
    let here = subst (λ (o : Option ℕ). IsFirstPlace (g.R.Rows.key_at c.args.self.now.rows) (drop i slots) o) c.in_default.is c.loop.invariant.here in
    none-here (g.R.Rows.key_at c.args.self.now.rows) slots c.reveal_invariant.ensures i here (omega (arith, c.loop-test.true, c.len-end.ensures))

pub returns-in_err-total-clause-at_most : goal.returns-in_err-total-clause-at_most
returns-in_err-total-clause-at_most g c =
    let slots = g.R.Rows.slots c.args.self.now.rows in
    let i = c.loop.counter in
    let key_at = g.R.Rows.key_at c.args.self.now.rows in
    let place = c.in-Some.place in
    let choose = g.P.Predicate.tests c.args.trial.now.query.now in
    let here = is-here key_at slots c.reveal_invariant.ensures i place (subst (λ (o : Option ℕ). IsFirstPlace key_at (drop i slots) o) c.in-Some.is c.loop.invariant.here) in
    let own : c.slot_at.result.1.now ≡ here.0.1 = objects-here key_at slots c.reveal_invariant.ensures i place here.0 (key_of_ref c.slot_at.result.0) c.slot_at.result.1.now here.1 c.slot_at.ensures.key c.slot_at.ensures.objects in
    ticks-most (object_count (take i slots)) (length c.slot_at.result.1.now) (object_count slots) c.args.looks.now c.loop.looks c.plan_slot.new.looks c.loop.invariant.looked c.plan_slot.ensures.at_most
    (omega (arith, ap length own, slot-count slots i here.0 here.1.at, count-within slots (i + 1)))

pub overflow_add-total : goal.overflow_add-total
overflow_add-total g c =
    let slots = g.R.Rows.slots c.args.self.now.rows in
    let i = c.loop.counter in
    let key_at = g.R.Rows.key_at c.args.self.now.rows in
    let place = c.in-Some.place in
    let choose = g.P.Predicate.tests c.args.trial.now.query.now in
    let here = is-here key_at slots c.reveal_invariant.ensures i place (subst (λ (o : Option ℕ). IsFirstPlace key_at (drop i slots) o) c.in-Some.is c.loop.invariant.here) in
    let own : c.slot_at.result.1.now ≡ here.0.1 = objects-here key_at slots c.reveal_invariant.ensures i place here.0 (key_of_ref c.slot_at.result.0) c.slot_at.result.1.now here.1 c.slot_at.ensures.key c.slot_at.ensures.objects in
    let few : c.loop.total + c.in_ok-total.field-0 ≤ object_count slots = omega (arith, ap length own, slot-count slots i here.0 here.1.at, count-within slots (i + 1), c.loop.invariant.done, c.in_ok-total.ensures.count, chosen-few choose (all_objects (take i slots)), chosen-few choose c.slot_at.result.1.now, objects-count (take i slots)) in
    let most = c.requires.few in
    omega (arith, few, most)

pub loop-preserved : goal.loop-preserved
loop-preserved g c =
    let slots = g.R.Rows.slots c.args.self.now.rows in
    let i = c.loop.counter in
    let key_at = g.R.Rows.key_at c.args.self.now.rows in
    let place = c.in-Some.place in
    let choose = g.P.Predicate.tests c.args.trial.now.query.now in
    let here = is-here key_at slots c.reveal_invariant.ensures i place (subst (λ (o : Option ℕ). IsFirstPlace key_at (drop i slots) o) c.in-Some.is c.loop.invariant.here) in
    let own : c.slot_at.result.1.now ≡ here.0.1 = objects-here key_at slots c.reveal_invariant.ensures i place here.0 (key_of_ref c.slot_at.result.0) c.slot_at.result.1.now here.1 c.slot_at.ensures.key c.slot_at.ensures.objects in
    record {
      here = next-here key_at slots c.reveal_invariant.ensures i place here.0 c.next_place-at.result here.1 c.next_place-at.ensures;
      done = omega (arith, c.loop.invariant.done, c.in_ok-total.ensures.count, ap (λ (os : List Term). chosen_count choose os) own, chosen-slot choose slots i here.0 here.1.at);
      marked = joined (plan_at key_at c.args.plan.now.list.items) (plan_at key_at c.loop.plan.list.items) (plan_at key_at c.plan_slot.new.self.list.items) (plan_of choose (take i slots)) (plan_of_slot choose here.0) (plan_of choose (take (i + 1) slots)) c.loop.invariant.marked
          (c.in_ok-total.ensures.plan key_at here.0.0 here.1.key ∙ ap (λ (os : List Term). plan_at key_at c.loop.plan.list.items ++ plan_of_slot choose (here.0.0, os)) own) (plan-next choose slots i here.0 here.1.at);
      looked = c.in_ok-total.ensures.looks ∙ ticks-on (object_count (take i slots)) (length c.slot_at.result.1.now) c.args.looks.now c.loop.looks c.loop.invariant.looked
          ∙ ap (λ n. ticks n c.args.looks.now) (omega (arith, ap length own, slot-count slots i here.0 here.1.at));
    }
