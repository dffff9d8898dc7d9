use Rattle.std.proofs.Common.{◌≡◌, ◌++◌, ◌∷◌, [], Some, rules, arith, subst}
use Rattle.std.proofs.lemmas.Grind.{common_steps}
use Rattle.node_core.specs.declared.step.Reply.TheVariants.{NoProcess}
use Rattle.node_core.specs.Pending.{due}
use Rattle.node_shared.specs.declared.entry.Entry.{Entry}
use Rattle.node_shared.specs.Journal.{entry, TakesStep}
use Rattle.node_shared.proofs.Growing.{invariant-step, due-weighs}
use Rattle.node_shared.proofs.book.Book.tend.Goals as goal

pub invariant_of-self-2 : goal.invariant_of-self-2
invariant_of-self-2 g c =
    let es = c.self.inside.journal.items in
    let old = c.self.inside.node in
    let event = c.in-Some.event in
    let reply = c.in_ok-done.done.reply in
    let is : due old ≡ Some event = search rules in
    let draft : c.in_ok-draft.draft ≡ entry event NoProcess = search rules in
    let does = subst (λ (e : Entry). TakesStep old e.step reply c.run.new.node) draft c.in_ok-done.ensures.run in
    let s = invariant-step _ _ es old c.run.new.node c.self.inside.ledger.total c.self.inside.unissued_share.parts event reply 0 c.self.invariant does (due-weighs old event is) in
    let journal : c.push_reserved.new.self.items ≡ es ++ entry event reply ∷ [] = grind (arith, common_steps) in
    rw journal (record { most = s.most; same = s.same; run = s.run; counted = let t = s.counted in omega arith; enough = s.enough })
