use Rattle.std.proofs.Common.{rules, arith, ◌∙◌}
use Rattle.term_text.proofs.Offsets.{signs-end, signs-wrong}
use Rattle.term_text.proofs.number.literal_at.Goals as goal

pub returns-then-offset-text-clause-reads : goal.returns-then-offset-text-clause-reads
returns-then-offset-text-clause-reads c = λ goal os.
    let w = c.loop-sign in
    w.invariant.reads goal os ∙ signs-end c.args.text.now c.args.signs.now w.offset w.sign-index goal os (search rules) (omega arith)

pub returns-then-text-offset-clause-reads : goal.returns-then-text-offset-clause-reads
returns-then-text-offset-clause-reads c = λ goal os.
    let w = c.loop-sign in
    w.invariant.reads goal os ∙ signs-wrong c.args.text.now c.args.signs.now w.offset w.sign-index goal os (search rules) (omega arith) (search rules)
