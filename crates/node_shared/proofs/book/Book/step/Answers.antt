use Rattle.std.proofs.Common.{◌≡◌, ◌++◌, ◌∷◌, [], arith, rules, subst}
use Rattle.std.proofs.lemmas.Grind.{common_steps}
use Rattle.node_core.specs.declared.step.Reply.TheVariants.{NoProcess}
use Rattle.node_shared.specs.declared.entry.Entry.{Entry}
use Rattle.node_shared.specs.Journal.{entry, TakesStep}
use Rattle.node_shared.proofs.Growing.{invariant-step, own-weighs, ends-run}
use Rattle.node_shared.proofs.book.Book.step.Goals as goal

pub invariant_of-self-2 : goal.invariant_of-self-2
invariant_of-self-2 g c =
    let reply = c.in_ok-entry.reply in
    let draft : c.in_ok-draft.draft ≡ entry c.args.event.now NoProcess = search rules in
    let does = subst (λ (e : Entry). TakesStep c.self.inside.node e.step reply c.run_and_reply.new.node) draft c.in_ok-entry.ensures.run in
    let s = invariant-step _ _ c.self.inside.journal.items c.self.inside.node c.run_and_reply.new.node c.self.inside.ledger.total c.self.inside.unissued_share.parts c.args.event.now reply 1 c.self.invariant does (own-weighs _ _ c.requires) in
    let journal : c.push_reserved.new.self.items ≡ c.self.inside.journal.items ++ entry c.args.event.now reply ∷ [] = grind (arith, common_steps) in
    let total = c.add.ensures.total in
    rw (journal, total) s

pub returns-clause-run : goal.returns-clause-run
returns-clause-run g c =
    let was = c.self.invariant in
    let reply = c.in_ok-entry.reply in
    let draft : c.in_ok-draft.draft ≡ entry c.args.event.now NoProcess = search rules in
    let does = subst (λ (e : Entry). TakesStep c.self.inside.node e.step reply c.run_and_reply.new.node) draft c.in_ok-entry.ensures.run in
    ends-run c.self.inside.limits _ c.self.inside.node c.run_and_reply.new.node c.self.inside.journal.items c.args.event.now reply
    was.most was.run does
