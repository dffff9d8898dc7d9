use Rattle.std.proofs.Common.{sym}
use Rattle.bucket_table.proofs.slots.Distinct.{remove-absent}
use Rattle.bucket_table.proofs.split.rows.SplitRowsRows.remove.Goals as goal

pub returns-in_err-place-clause-now : goal.returns-in_err-place-clause-now
returns-in_err-place-clause-now g c = sym (remove-absent c.args.key.now c.args.self.now.slots c.in_err-place.ensures)
