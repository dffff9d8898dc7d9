use Rattle.std.proofs.Common.{◌≡◌, ◌==◌, sym, ap, ◌∙◌}
use Rattle.std.specs.Map.{set_value}
use Rattle.ownership.specs.declared.process.Process.{Process}
use Rattle.ownership.proofs.Posting.{set_value-same}
use Rattle.ownership.proofs.messages.push_message.Goals as goal

pub returns-in-Err-clause-err : goal.returns-in-Err-clause-err
returns-in-Err-clause-err c =
    let left : Process = record { lives = c.in-Some.process.now.lives; mailbox = c.push.new.self } in
    let same : left ≡ c.in-Some.process.now = ap (λ m. record { lives = c.in-Some.process.now.lives; mailbox = m }) c.in-Err.ensures.err in
    (c.get_mut.follows.holds left).0
    ∙ ap (set_value (λ q. c.args.pid == q) c.args.processes.now.entries) same
    ∙ set_value-same (λ q. c.args.pid == q) c.args.processes.now.entries c.in-Some.process.now (sym c.in-Some.ensures.value)
