use Rattle.std.proofs.Common.{◌≡◌, List, sym, ap, subst, ◌∙◌, arith}
use Rattle.bucket_table.specs.Slots.{Slot, object_count}
use Rattle.table_ops.specs.Content.{Content}
use Rattle.table_ops.specs.Invariants.{AreSlots}
use Rattle.table_ops.specs.Drop.{every_object, after_drop}
use Rattle.table_ops.specs.inside.TableRows.{content_of}
use Rattle.table_ops.proofs.DropLaws.{slots-dropped, dropped-each, nothing-left}
use Rattle.table_ops.proofs.table.Table.delete_all.Goals as goal

pub invariant_of-self : goal.invariant_of-self
invariant_of-self g c =
    let i = c.self.invariant in
    let old = g.R.Rows.slots c.self.inside.inner.rows in
    let new : g.R.Rows.slots c.clear.new.self ≡ after_drop c.args.hold every_object old = c.clear.ensures.now ∙ sym (dropped-each c.args.hold old) in
    record {
      counted = sym (ap object_count new ∙ nothing-left c.args.hold old);
      within = omega arith;
      few = i.few;
      slots_are = subst (AreSlots c.self.inside.inner.kind c.self.inside.inner.keypos) (sym new) (slots-dropped c.args.hold every_object c.self.inside.inner.kind c.self.inside.inner.keypos old i.slots_are);
    }

pub returns-clause-content : goal.returns-clause-content
returns-clause-content g c =
    let old = g.R.Rows.slots c.self.inside.inner.rows in
    let new : g.R.Rows.slots c.clear.new.self ≡ after_drop c.args.hold every_object old = c.clear.ensures.now ∙ sym (dropped-each c.args.hold old) in
    rw (← c.self.view_is) (ap (λ (l : List Slot). let r : Content = record (content_of g.R.Rows.slots c.self.inside.inner) { slots = l } in r) new)
