use Rattle.std.proofs.Common.{sym}
use Rattle.bucket_table.proofs.slots.Distinct.{set-absent}
use Rattle.bucket_table.proofs.split.rows.SplitRowsRows.replace.Goals as goal

pub returns-in_err-place-clause-now : goal.returns-in_err-place-clause-now
returns-in_err-place-clause-now g c = sym (set-absent c.args.key.now c.args.self.now.slots c.args.objects c.in_err-place.ensures)
