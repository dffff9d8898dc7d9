use Rattle.std.proofs.Common.{◌≡◌, ◌≤◌, length, vec_len}
use Rattle.table_ops.specs.inside.TableRows.{ChangesSlotsOnly}
use Rattle.table_ops.specs.inside.Undo.{after_roll_back}
use Rattle.table_ops.proofs.table_rows.TableRows.roll_back.Given as goal

abbrev pub invariant-loop-undo : goal.invariant-loop-undo
invariant-loop-undo g l = record {
  slots : after_roll_back l.initial.self.keypos l.undo_log.items l.objects (g.R.Rows.slots l.self.rows) ≡ after_roll_back l.initial.self.keypos l.initial.undo_log.items l.objects (g.R.Rows.slots l.initial.self.rows);
  keeps : ChangesSlotsOnly g.R.Rows.readiness l.initial.self l.self;
  long : length l.undo_log.items ≤ length l.objects;
}

abbrev pub decreases-loop-undo : goal.decreases-loop-undo
decreases-loop-undo g l = vec_len l.undo_log
