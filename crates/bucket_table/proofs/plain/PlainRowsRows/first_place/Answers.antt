use Rattle.std.proofs.Common.{arith}
use Rattle.bucket_table.proofs.slots.Step.{first-index}
use Rattle.bucket_table.proofs.plain.PlainRowsRows.first_place.Goals as goal

pub returns-then-len-gt0 : goal.returns-then-len-gt0
returns-then-len-gt0 c = first-index c.args.self.now.slots.entries (omega (arith, c.len.ensures.len, c.if-len-gt0.true))
