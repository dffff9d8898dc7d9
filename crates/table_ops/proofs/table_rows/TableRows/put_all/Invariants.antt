use Rattle.std.proofs.Common.{◌≡◌, ◌≤◌, length, take, vec_len, vec_capacity}
use Rattle.bucket_table.specs.Slots.{object_count}
use Rattle.table_ops.specs.Put.{PutsAll}
use Rattle.table_ops.specs.inside.TableRows.{ChangesSlotsOnly}
use Rattle.table_ops.specs.inside.Undo.{after_roll_back}
use Rattle.table_ops.proofs.table_rows.TableRows.put_all.Given as goal

abbrev pub invariant-loop-object : goal.invariant-loop-object
invariant-loop-object g l = record {
  done : PutsAll l.fn.self.kind l.fn.self.keypos (g.R.Rows.slots l.fn.self.rows) (take l.object-index l.objects) (g.R.Rows.slots l.self.rows);
  back : after_roll_back l.fn.self.keypos l.undo_log.items l.objects (g.R.Rows.slots l.self.rows) ≡ g.R.Rows.slots l.fn.self.rows;
  counted : l.count ≡ object_count (g.R.Rows.slots l.self.rows);
  within : l.count ≤ l.fn.self.limit;
  logged : length l.undo_log.items ≡ l.object-index;
  len : vec_len l.undo_log ≡ l.object-index;
  room : length l.objects ≤ vec_capacity l.undo_log;
  keeps : ChangesSlotsOnly g.R.Rows.readiness l.fn.self l.self;
}
