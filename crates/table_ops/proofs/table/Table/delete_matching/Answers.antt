use Rattle.std.proofs.Common.{◌-◌, ◌≡◌, List, sym, ap, subst, ◌∙◌, arith, option_copied}
use Rattle.bucket_table.specs.Slots.{Slot, object_count}
use Rattle.table_ops.specs.Content.{Content}
use Rattle.table_ops.specs.ContentState.{ContentState}
use Rattle.table_ops.specs.Drop.{after_drop}
use Rattle.table_ops.specs.inside.DeletePlan.{RequiresKey, PlannedSlot, AreInOrder, after_plan}
use Rattle.table_ops.proofs.BoundKeyLaws.{only_key}
use Rattle.table_ops.specs.inside.TableRows.{content_of}
use Rattle.table_ops.proofs.TableRowsLaws.{content-kept, holds-kept}
use Rattle.table_ops.proofs.DropLaws.{counted-less}
use Rattle.table_ops.proofs.DeletePlanLaws.{in-order, drops, drops-count}
use Rattle.table_ops.proofs.QueryLaws.{chosen-below}
use Rattle.table_ops.proofs.table.Table.delete_matching.Goals as goal

pub plan-requires-clause-only_key : goal.plan-requires-clause-only_key
plan-requires-clause-only_key g c =
    let choose = g.P.Predicate.tests c.args.trial.now.query.now in
    let only = subst (λ (t : ContentState). RequiresKey t.content.keypos (option_copied c.args.key) choose) (sym c.self.view_is) c.requires in
    only_key choose c.self.inside.inner.keypos (option_copied c.args.key) c.self.inside.inner.kind (g.R.Rows.slots c.self.inside.inner.rows) only c.self.invariant.slots_are

pub apply-requires : goal.apply-requires
apply-requires g c =
    let slots = g.R.Rows.slots c.self.inside.inner.rows in
    subst (λ (ns : List PlannedSlot). AreInOrder slots ns) (sym c.in_ok-removed.ensures.plan) (in-order (g.P.Predicate.tests c.args.trial.now.query.now) slots c.reveal_invariant.ensures)

pub overflow_sub-self : goal.overflow_sub-self
overflow_sub-self g c = omega (arith, drops-count (g.P.Predicate.tests c.args.trial.now.query.now) c.args.hold (g.R.Rows.slots c.self.inside.inner.rows), c.in_ok-removed.ensures.count, c.self.invariant.counted)

pub invariant_of-self : goal.invariant_of-self
invariant_of-self g c =
    let slots = g.R.Rows.slots c.self.inside.inner.rows in
    let new = g.R.Rows.slots c.apply.new.self.rows in
    let choose = g.P.Predicate.tests c.args.trial.now.query.now in
    let now : new ≡ after_drop c.args.hold (λ own. choose) slots = c.apply.ensures.slots ∙ ap (λ (ns : List PlannedSlot). after_plan c.args.hold ns slots) c.in_ok-removed.ensures.plan ∙ drops choose c.args.hold slots c.reveal_invariant.ensures in
    holds-kept g.R.Rows.slots c.self.inside.inner c.apply.new.self c.apply.ensures.keeps.rest (c.self.inside.count - c.in_ok-removed.removed)
    (counted-less c.args.hold (λ own. choose) c.self.inside.inner.kind c.self.inside.inner.keypos c.self.inside.inner.limit c.self.inside.count c.in_ok-removed.removed slots new c.self.invariant now
    (omega (arith, ap object_count now, c.in_ok-removed.ensures.count, drops-count choose c.args.hold slots)))

pub returns-clause-content : goal.returns-clause-content
returns-clause-content g c =
    let slots = g.R.Rows.slots c.self.inside.inner.rows in
    let new = g.R.Rows.slots c.apply.new.self.rows in
    let choose = g.P.Predicate.tests c.args.trial.now.query.now in
    let now : new ≡ after_drop c.args.hold (λ own. choose) slots = c.apply.ensures.slots ∙ ap (λ (ns : List PlannedSlot). after_plan c.args.hold ns slots) c.in_ok-removed.ensures.plan ∙ drops choose c.args.hold slots c.reveal_invariant.ensures in
    rw (← c.self.view_is) (content-kept g.R.Rows.slots c.self.inside.inner c.apply.new.self c.apply.ensures.keeps.rest
    ∙ ap (λ (l : List Slot). let r : Content = record (content_of g.R.Rows.slots c.self.inside.inner) { slots = l } in r) now)

pub returns-clause-few : goal.returns-clause-few
returns-clause-few g c =
    let i = c.self.inside in
    chosen-below (g.P.Predicate.tests c.args.trial.now.query.now) i.inner.kind i.inner.keypos i.inner.limit i.count c.in_ok-removed.removed (g.R.Rows.slots i.inner.rows) c.self.invariant c.in_ok-removed.ensures.count
