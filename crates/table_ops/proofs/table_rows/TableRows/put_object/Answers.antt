use Rattle.std.proofs.Common.{sym}
use Rattle.table_ops.proofs.InvariantLaws.{slot-under}
use Rattle.table_ops.proofs.table_rows.TableRows.put_object.Goals as goal

pub put-requires-clause-kind : goal.put-requires-clause-kind
put-requires-clause-kind g c = (slot-under c.args.self.now.kind c.args.self.now.keypos (g.R.Rows.slots c.args.self.now.rows) c.args.object.now c.in-Some.key.now c.requires.slots (sym c.in-Some.ensures)).kept
