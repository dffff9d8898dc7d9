use Rattle.std.proofs.Common.{arith}
use Rattle.bucket_table.proofs.slots.Step.{index-within, next-index, last-index}
use Rattle.bucket_table.proofs.plain.PlainRowsRows.next_place.Goals as goal

pub overflow_add-next : goal.overflow_add-next
overflow_add-next c = omega (arith, c.len-slots.ensures.len, c.len-slots.ensures.small, index-within c.args.self.now.slots.entries c.args.place c.requires)

pub returns-then-next-slots : goal.returns-then-next-slots
returns-then-next-slots c = next-index c.args.self.now.slots.entries c.args.place c.len-slots.ensures.unique c.requires (omega (arith, c.len-slots.ensures.len, c.if-next-slots.true))

pub returns-else-next-slots : goal.returns-else-next-slots
returns-else-next-slots c = last-index c.args.self.now.slots.entries c.args.place c.len-slots.ensures.unique c.requires (omega (arith, c.len-slots.ensures.len, c.if-next-slots.false))
