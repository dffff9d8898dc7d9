use Rattle.std.proofs.Common.{◌≡◌, ◌+◌, ◌++◌, ◌∷◌, [], ap, ◌∙◌, subst, rules, arith}
use Rattle.std.proofs.lemmas.Grind.{common_steps}
use Rattle.node_core.specs.declared.step.Reply.TheVariants.{NoProcess}
use Rattle.node_shared.specs.declared.entry.Entry.{Entry}
use Rattle.node_shared.specs.Journal.{entry}
use Rattle.node_shared.specs.Records.{RecordState, with_entry}
use Rattle.node_shared.specs.Running.{EndsRun}
use Rattle.node_shared.proofs.Recording.{record-on}
use Rattle.node_shared.proofs.client.Client.step.Goals as goal

pub invariant_of-self : goal.invariant_of-self
invariant_of-self g c =
    let items : c.reserve.new.self.items ≡ c.self.inside.entries.items = c.reserve.ensures.items in
    rw items c.self.invariant

pub invariant_of-self-in_err-done : goal.invariant_of-self-in_err-done
invariant_of-self-in_err-done g c =
    let items : c.reserve.new.self.items ≡ c.self.inside.entries.items = c.reserve.ensures.items in
    let share : c.enter.new.share ≡ c.self.inside.share = search rules in
    rw (items, share) c.self.invariant

pub invariant_of-self-2 : goal.invariant_of-self-2
invariant_of-self-2 g c =
    let es = c.self.inside.entries.items in
    let reply = c.in_ok-done.done.reply in
    let draft : c.in_ok-draft.draft ≡ entry c.args.event NoProcess = search rules in
    let run = subst (λ (e : Entry). EndsRun g.L.Ledger.parts e.step reply) draft c.in_ok-done.ensures.run in
    let items : c.push_reserved.new.self.items ≡ es ++ entry c.args.event reply ∷ [] = grind (arith, common_steps) in
    let share : c.enter.new.share ≡ record c.self.inside.share { amount = c.self.inside.share.amount + 1 } = search rules in
    rw (items, share) (record-on g.L.Ledger.parts c.self.inside.share.pid c.self.inside.share.amount es c.args.event reply c.self.invariant run)

pub returns-clause-ok : goal.returns-clause-ok
returns-clause-ok g c =
    let es = c.self.inside.entries.items in
    let reply = c.in_ok-done.done.reply in
    let items : c.push_reserved.new.self.items ≡ es ++ entry c.args.event reply ∷ [] = grind (arith, common_steps) in
    let share : c.enter.new.share ≡ record c.self.inside.share { amount = c.self.inside.share.amount + 1 } = search rules in
    (reply, (λ i. record { pid = (share i).pid; entries = items i }) ∙ ap (λ (k : RecordState). with_entry k c.args.event reply) c.self.view_is)
