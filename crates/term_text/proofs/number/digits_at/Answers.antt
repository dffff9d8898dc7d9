use Rattle.std.proofs.Common.{rules, subst, ℕ, ◌<◌}
use Rattle.term_text.proofs.Numbers.{past-limit}
use Rattle.term_text.proofs.number.digits_at.Goals as goal

pub returns-in-None : goal.returns-in-None
returns-in-None c =
    let w = c.loop-offset in
    let P : ℕ → Type 0 = λ n. c.args.limit < n in
    subst P w.invariant.value (past-limit c.args.text.now w.offset w.n c.args.limit c.loop-offset-test.true (search rules) (search rules))
