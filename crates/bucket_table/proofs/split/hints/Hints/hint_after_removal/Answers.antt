use Rattle.std.proofs.Common.{◌^◌, sym, ◌∙◌}
use Rattle.std.proofs.lemmas.Nat.{pow_pos}
use Rattle.bucket_table.proofs.hints.Remove.{empty-next, item-in-is_place, next-none, next-is_place, next-inside, next-outside}
use Rattle.bucket_table.proofs.split.hints.Hints.hint_after_removal.Goals as goal

pub after-requires : goal.after-requires
after-requires c = item-in-is_place _ _ _ _ c.requires.item

pub returns-in_default : goal.returns-in_default
returns-in_default c = empty-next _ _ c.empty.ensures (next-none (2 ^ c.args.self.now.interval_bits) c.args.interval c.args.at c.args.list.now.cells (sym c.after.ensures ∙ c.in_default.is))

pub split_key-split_key-requires : goal.split_key-split_key-requires
split_key-split_key-requires c = next-is_place (2 ^ c.args.self.now.interval_bits) c.args.interval c.args.at c.in-Some.next c.args.list.now.cells (pow_pos c.args.self.now.interval_bits) c.reveal_invariant.ensures.sorted c.reveal_invariant.ensures.apart c.requires.item (sym c.after.ensures ∙ c.in-Some.is)

pub returns-then-interval_of-interval : goal.returns-then-interval_of-interval
returns-then-interval_of-interval c = empty-next _ _ c.empty-then-interval_of-interval.ensures (next-outside (2 ^ c.args.self.now.interval_bits) c.args.interval c.args.at c.in-Some.next c.args.list.now.cells (pow_pos c.args.self.now.interval_bits) c.reveal_invariant.ensures.sorted c.reveal_invariant.ensures.apart c.requires.item (sym c.after.ensures ∙ c.in-Some.is) c.split_key-split_key.result c.split_key-split_key.ensures (λ e. c.if-interval_of-interval.true (c.interval_of.ensures ∙ e)))

pub returns-then-split_key-eq1 : goal.returns-then-split_key-eq1
returns-then-split_key-eq1 c = next-inside (2 ^ c.args.self.now.interval_bits) c.args.interval c.args.at c.in-Some.next c.args.list.now.cells (pow_pos c.args.self.now.interval_bits) c.reveal_invariant.ensures.sorted c.reveal_invariant.ensures.apart c.requires.item (sym c.after.ensures ∙ c.in-Some.is) c.split_key-split_key.result c.split_key-split_key.ensures c.requires.parity c.at.result c.at.ensures (sym c.interval_of.ensures ∙ c.if-interval_of-interval.false) c.if-split_key-eq1.true
