use Rattle.std.proofs.Common.{◌-◌, List, sym, ap, ◌∙◌, arith}
use Rattle.bucket_table.specs.Slots.{Slot}
use Rattle.table_ops.specs.Content.{Content}
use Rattle.table_ops.specs.Drop.{has_key}
use Rattle.table_ops.specs.inside.TableRows.{content_of}
use Rattle.table_ops.proofs.TableRowsLaws.{content-kept, holds-kept}
use Rattle.table_ops.proofs.DropLaws.{objects-deleted, deleted-count, counted-less, none-dropped, keeps-others-key}
use Rattle.table_ops.proofs.table.Table.take.Goals as goal

pub returns-in_default-clause-content : goal.returns-in_default-clause-content
returns-in_default-clause-content g c =
    let old = g.R.Rows.slots c.self.inside.inner.rows in
    rw (← c.self.view_is) (ap (λ (l : List Slot). let r : Content = record (content_of g.R.Rows.slots c.self.inside.inner) { slots = l } in r) (sym (none-dropped c.args.hold (has_key c.args.key.now) old c.args.key.now (keeps-others-key c.args.key.now old) c.in_default.ensures.place)))

pub overflow_sub-self : goal.overflow_sub-self
overflow_sub-self g c =
    let old = g.R.Rows.slots c.self.inside.inner.rows in
    let new = g.R.Rows.slots c.delete_objects_at-taken_count.new.self.rows in
    let place = g.R.Rows.key_at c.self.inside.inner.rows c.in-Some.place in
    omega (arith, deleted-count c.args.hold old new place c.args.key.now c.delete_objects_at-taken_count.result c.in-Some.ensures.place.0 c.delete_objects_at-taken_count.ensures.slots, c.self.invariant.counted)

pub invariant_of-self : goal.invariant_of-self
invariant_of-self g c =
    let old = g.R.Rows.slots c.self.inside.inner.rows in
    let new = g.R.Rows.slots c.delete_objects_at-taken_count.new.self.rows in
    let place = g.R.Rows.key_at c.self.inside.inner.rows c.in-Some.place in
    holds-kept g.R.Rows.slots c.self.inside.inner c.delete_objects_at-taken_count.new.self c.delete_objects_at-taken_count.ensures.keeps.rest (c.self.inside.count - c.delete_objects_at-taken_count.result)
    (counted-less c.args.hold (has_key c.args.key.now) c.self.inside.inner.kind c.self.inside.inner.keypos c.self.inside.inner.limit c.self.inside.count c.delete_objects_at-taken_count.result old new c.self.invariant
    (objects-deleted c.args.hold old new place c.args.key.now c.delete_objects_at-taken_count.result c.find.ensures.distinct c.in-Some.ensures.place.0 c.delete_objects_at-taken_count.ensures.slots)
    (deleted-count c.args.hold old new place c.args.key.now c.delete_objects_at-taken_count.result c.in-Some.ensures.place.0 c.delete_objects_at-taken_count.ensures.slots))

pub returns-clause-content : goal.returns-clause-content
returns-clause-content g c =
    let old = g.R.Rows.slots c.self.inside.inner.rows in
    let new = g.R.Rows.slots c.delete_objects_at-taken_count.new.self.rows in
    let place = g.R.Rows.key_at c.self.inside.inner.rows c.in-Some.place in
    rw (← c.self.view_is) (content-kept g.R.Rows.slots c.self.inside.inner c.delete_objects_at-taken_count.new.self c.delete_objects_at-taken_count.ensures.keeps.rest
    ∙ ap (λ (l : List Slot). let r : Content = record (content_of g.R.Rows.slots c.self.inside.inner) { slots = l } in r)
    (objects-deleted c.args.hold old new place c.args.key.now c.delete_objects_at-taken_count.result c.find.ensures.distinct c.in-Some.ensures.place.0 c.delete_objects_at-taken_count.ensures.slots))
