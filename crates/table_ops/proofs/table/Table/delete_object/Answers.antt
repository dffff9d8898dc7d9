use Rattle.std.proofs.Common.{◌-◌, Ok, sym, arith}
use Rattle.table_ops.specs.Content.{Content}
use Rattle.table_ops.specs.Drop.{equal_to, DeletesObject}
use Rattle.table_ops.specs.inside.TableRows.{content_of}
use Rattle.table_ops.proofs.TableRowsLaws.{of-slots, holds-kept}
use Rattle.table_ops.proofs.DropLaws.{object-taken, object-count, counted-less, none-dropped, keeps-others-object, deletes}
use Rattle.table_ops.proofs.table.Table.delete_object.Goals as goal

pub returns-in_default-find-clause-content : goal.returns-in_default-find-clause-content
returns-in_default-find-clause-content g c =
    let slots = g.R.Rows.slots c.self.inside.inner.rows in
    let old : Content = content_of g.R.Rows.slots c.self.inside.inner in
    let its = sym c.in-Some.ensures in
    let others = keeps-others-object c.self.inside.inner.kind c.self.inside.inner.keypos c.args.object.now c.in-Some.key.now slots its c.self.invariant.slots_are in
    rw (← c.self.view_is) (deletes c.args.hold c.args.object.now c.in-Some.key.now old its slots (sym (none-dropped c.args.hold (equal_to c.args.object.now) slots c.in-Some.key.now others c.in_default-find.ensures.place)))

pub overflow_sub-self : goal.overflow_sub-self
overflow_sub-self g c =
    let slots = g.R.Rows.slots c.self.inside.inner.rows in
    let new = g.R.Rows.slots c.remove_object_at-count.new.self.rows in
    let place = g.R.Rows.key_at c.self.inside.inner.rows c.in-Some-find.place in
    omega (arith, object-count c.args.hold slots new place c.in-Some.key.now c.args.object.now c.remove_object_at-count.result c.in-Some-find.ensures.place.0 c.remove_object_at-count.ensures.slots, c.self.invariant.counted)

pub invariant_of-self : goal.invariant_of-self
invariant_of-self g c =
    let slots = g.R.Rows.slots c.self.inside.inner.rows in
    let new = g.R.Rows.slots c.remove_object_at-count.new.self.rows in
    let place = g.R.Rows.key_at c.self.inside.inner.rows c.in-Some-find.place in
    let its = sym c.in-Some.ensures in
    holds-kept g.R.Rows.slots c.self.inside.inner c.remove_object_at-count.new.self c.remove_object_at-count.ensures.keeps.rest (c.self.inside.count - c.remove_object_at-count.result)
    (counted-less c.args.hold (equal_to c.args.object.now) c.self.inside.inner.kind c.self.inside.inner.keypos c.self.inside.inner.limit c.self.inside.count c.remove_object_at-count.result slots new c.self.invariant
    (object-taken c.args.hold c.self.inside.inner.kind c.self.inside.inner.keypos slots new place c.in-Some.key.now c.args.object.now c.remove_object_at-count.result c.find.ensures.distinct c.self.invariant.slots_are its c.in-Some-find.ensures.place.0 c.remove_object_at-count.ensures.slots)
    (object-count c.args.hold slots new place c.in-Some.key.now c.args.object.now c.remove_object_at-count.result c.in-Some-find.ensures.place.0 c.remove_object_at-count.ensures.slots))

pub returns-clause-content : goal.returns-clause-content
returns-clause-content g c =
    let slots = g.R.Rows.slots c.self.inside.inner.rows in
    let new = g.R.Rows.slots c.remove_object_at-count.new.self.rows in
    let place = g.R.Rows.key_at c.self.inside.inner.rows c.in-Some-find.place in
    let old : Content = content_of g.R.Rows.slots c.self.inside.inner in
    let its = sym c.in-Some.ensures in
    rw (← c.self.view_is) (of-slots g.R.Rows.slots c.self.inside.inner c.remove_object_at-count.new.self c.remove_object_at-count.ensures.keeps.rest (λ (n : Content). DeletesObject c.args.hold c.args.object.now old (Ok tt) n)
    (deletes c.args.hold c.args.object.now c.in-Some.key.now old its new
    (object-taken c.args.hold c.self.inside.inner.kind c.self.inside.inner.keypos slots new place c.in-Some.key.now c.args.object.now c.remove_object_at-count.result c.find.ensures.distinct c.self.invariant.slots_are its c.in-Some-find.ensures.place.0 c.remove_object_at-count.ensures.slots)))
