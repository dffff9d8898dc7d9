use Rattle.std.proofs.Common.{sym, ap, ◌∙◌}
use Rattle.ownership.specs.declared.process.Process.{Process}
use Rattle.ownership.proofs.Posting.{taken, absent, popped}
use Rattle.ownership.proofs.messages.pop_message.Goals as goal

pub returns-in-Some : goal.returns-in-Some
returns-in-Some c = λ before message after_transfers.
    let left : Process = record { lives = c.in-Some.process.now.lives; mailbox = c.pop.new.self } in
    taken before c.args.processes.now.entries _ c.args.pid message c.in-Some.process.now left after_transfers (sym c.in-Some.ensures.value)
    (λ mailbox lives own. let rest = popped _ _ c.pop.new.self mailbox message c.pop.ensures (ap (λ (p : Process). p.mailbox) own) in let same = ap (λ (p : Process). p.lives) own in λ i. record { lives = same i; mailbox = rest i })
    (c.get_mut.follows.holds left).0

pub returns-in_default : goal.returns-in_default
returns-in_default c = λ before message after_transfers.
    let same = c.get_mut.follows.holds-at-none in
    ap (λ m. m.entries) same ∙ absent before c.args.processes.now.entries c.args.pid message after_transfers (sym c.in_default.ensures.value)
