use Rattle.std.proofs.Common.{◌≡◌, ◌++◌, ◌∷◌, [], arith}
use Rattle.std.proofs.lemmas.Grind.{common_steps}
use Rattle.node_shared.specs.Journal.{entry}
use Rattle.node_shared.proofs.Growing.{invariant-step, own-weighs, ends-run}
use Rattle.node_shared.proofs.book.Book.enter.Goals as goal

pub invariant_of-self-2 : goal.invariant_of-self-2
invariant_of-self-2 g c =
    let does = c.in_ok-done.ensures.run in
    let reply = c.in_ok-done.done.reply in
    let s = invariant-step _ _ c.self.inside.journal.items c.self.inside.node c.run.new.node c.self.inside.ledger.total c.self.inside.unissued_share.parts c.args.draft.step reply 1 c.self.invariant does (own-weighs _ _ c.requires) in
    let journal : c.push_reserved.new.self.items ≡ c.self.inside.journal.items ++ entry c.args.draft.step reply ∷ [] = grind (arith, common_steps) in
    let total = c.add.ensures.total in
    rw (journal, total) s

pub returns-clause-run : goal.returns-clause-run
returns-clause-run g c =
    let was = c.self.invariant in
    ends-run c.self.inside.limits _ c.self.inside.node c.run.new.node c.self.inside.journal.items c.args.draft.step c.in_ok-done.done.reply
    was.most was.run c.in_ok-done.ensures.run
