use Rattle.std.proofs.Common.{sym, ap, subst, ◌∙◌}
use Rattle.bucket_table.specs.Slots.{object_count}
use Rattle.table_ops.specs.Invariants.{AreSlots}
use Rattle.table_ops.proofs.CountLaws.{count-purged}
use Rattle.table_ops.proofs.DropLaws.{slots-purged}
use Rattle.table_ops.proofs.table.Table.purge.Goals as goal

pub invariant_of-self : goal.invariant_of-self
invariant_of-self g c =
    let i = c.self.invariant in
    let old = g.R.Rows.slots c.self.inside.inner.rows in
    record {
      counted = i.counted ∙ sym (ap object_count c.purge.ensures.now ∙ count-purged old);
      within = i.within;
      few = i.few;
      slots_are = subst (AreSlots c.self.inside.inner.kind c.self.inside.inner.keypos) (sym c.purge.ensures.now) (slots-purged c.self.inside.inner.kind c.self.inside.inner.keypos old i.slots_are);
    }
