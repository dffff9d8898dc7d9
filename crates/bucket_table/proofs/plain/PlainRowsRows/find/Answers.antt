use Rattle.std.proofs.Common.{sym}
use Rattle.bucket_table.proofs.slots.Index.{key-at}
use Rattle.bucket_table.proofs.plain.PlainRowsRows.find.Goals as goal

pub returns-in-Some : goal.returns-in-Some
returns-in-Some c =
    (key-at c.args.self.now.slots.entries c.args.key.now c.in-Some.place (sym c.in-Some.ensures.index), sym c.in-Some.ensures.found)
