use Rattle.std.proofs.Common.{ℕ, ◌<◌, ◌^◌, sym, ◌∙◌, subst}
use Rattle.std.proofs.lemmas.Nat.{pow_pos}
use Rattle.bucket_table.proofs.hints.Refresh.{ends-empty, ends-past, ends-item, next-is, shorter}
use Rattle.bucket_table.proofs.split.hints.Hints.scan_to_interval.Goals as goal

pub split_key-split_key-requires : goal.split_key-split_key-requires
split_key-split_key-requires c = next-is (2 ^ c.args.self.now.interval_bits) c.args.interval c.loop-next.at c.args.list.now.cells (pow_pos c.args.self.now.interval_bits) c.reveal_invariant.ensures.sorted c.reveal_invariant.ensures.apart c.loop-next.invariant c.in-Some.next 0 (sym c.after.ensures ∙ c.in-Some.is)

pub returns-then-next_interval-interval-clause-hint : goal.returns-then-next_interval-interval-clause-hint
returns-then-next_interval-interval-clause-hint c = ends-past (2 ^ c.args.self.now.interval_bits) c.args.interval c.loop-next.at c.args.list.now.cells (pow_pos c.args.self.now.interval_bits) c.reveal_invariant.ensures.sorted c.reveal_invariant.ensures.apart c.loop-next.invariant c.in-Some.next c.split_key-split_key.result (sym c.after.ensures ∙ c.in-Some.is) c.split_key-split_key.ensures c.empty.result c.empty.ensures (subst (λ (z : ℕ). c.args.interval < z) c.interval_of-next_interval.ensures c.if-next_interval-interval.true)

pub returns-then-split_key-eq1-clause-hint : goal.returns-then-split_key-eq1-clause-hint
returns-then-split_key-eq1-clause-hint c = ends-item (2 ^ c.args.self.now.interval_bits) c.args.interval c.loop-next.at c.args.list.now.cells (pow_pos c.args.self.now.interval_bits) c.reveal_invariant.ensures.sorted c.reveal_invariant.ensures.apart c.loop-next.invariant c.in-Some.next c.split_key-split_key.result (sym c.after.ensures ∙ c.in-Some.is) c.split_key-split_key.ensures c.requires.parity c.at.result c.at.ensures (sym c.interval_of-next_interval.ensures ∙ c.if-next_interval-interval-2.true) c.if-split_key-eq1.true

pub loop-next-smaller : goal.loop-next-smaller
loop-next-smaller c = shorter (2 ^ c.args.self.now.interval_bits) c.args.interval c.loop-next.at c.args.list.now.cells (pow_pos c.args.self.now.interval_bits) c.reveal_invariant.ensures.sorted c.reveal_invariant.ensures.apart c.loop-next.invariant c.in-Some.next 0 (sym c.after.ensures ∙ c.in-Some.is)

pub returns-clause-hint : goal.returns-clause-hint
returns-clause-hint c = ends-empty (2 ^ c.args.self.now.interval_bits) c.args.interval c.loop-next.at c.args.list.now.cells (pow_pos c.args.self.now.interval_bits) c.reveal_invariant.ensures.sorted c.reveal_invariant.ensures.apart c.loop-next.invariant c.empty-2.result c.empty-2.ensures (sym c.after.ensures ∙ c.in_default.is)
