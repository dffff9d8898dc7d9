use Rattle.std.proofs.Common.{◌≡◌, ◌++◌, ◌∷◌, [], ◌+◌, true, false, arith, rules, subst, ◌∙◌}
use Rattle.std.proofs.lemmas.Grind.{common_steps}
use Rattle.node_core.specs.declared.step.Reply.TheVariants.{NoProcess}
use Rattle.node_core.specs.declared.step.Step.TheVariants.{Enrol}
use Rattle.node_core.specs.Values.{is_value}
use Rattle.node_core.specs.Observable.{observable}
use Rattle.node_core.proofs.calls.Enrolling.{not-enrolled}
use Rattle.node_shared.specs.Running.{RefusesEnrol}
use Rattle.node_shared.specs.declared.entry.Entry.{Entry}
use Rattle.node_shared.specs.Journal.{entry, TakesStep}
use Rattle.node_shared.proofs.Growing.{invariant-join, ends-run}
use Rattle.node_shared.proofs.Enrolments.{enrol-granted, enrol-refused}
use Rattle.node_shared.proofs.book.Book.join.Goals as goal

pub invariant_of-self-then-not-is_value : goal.invariant_of-self-then-not-is_value
invariant_of-self-then-not-is_value g c =
    let draft : c.in-Ok.draft ≡ entry (Enrol c.args.pid) NoProcess = search rules in
    let does = subst (λ (e : Entry). TakesStep c.self.inside.node e.step c.in-Ok-run_and_reply.reply c.run_and_reply.new.node) draft c.in-Ok-run_and_reply.ensures.run in
    let refused : is_value c.in-Ok-run_and_reply.reply ≡ false = search rules in
    let same : c.run_and_reply.new.node ≡ c.self.inside.node = not-enrolled c.self.inside.node c.run_and_reply.new.node c.args.pid c.in-Ok-run_and_reply.reply refused does.0 does.1 in
    let items : c.reserve.new.self.items ≡ c.self.inside.journal.items = c.reserve.ensures.items in
    rw (same, items) c.self.invariant

pub returns-then-not-is_value-clause-err : goal.returns-then-not-is_value-clause-err
returns-then-not-is_value-clause-err g c =
    let draft : c.in-Ok.draft ≡ entry (Enrol c.args.pid) NoProcess = search rules in
    let does = subst (λ (e : Entry). TakesStep c.self.inside.node e.step c.in-Ok-run_and_reply.reply c.run_and_reply.new.node) draft c.in-Ok-run_and_reply.ensures.run in
    let refused : is_value c.in-Ok-run_and_reply.reply ≡ false = search rules in
    let same : c.run_and_reply.new.node ≡ c.self.inside.node = not-enrolled c.self.inside.node c.run_and_reply.new.node c.args.pid c.in-Ok-run_and_reply.reply refused does.0 does.1 in
    let items : c.reserve.new.self.items ≡ c.self.inside.journal.items = c.reserve.ensures.items in
    (λ i. record { state = same i; journal = items i; total = c.self.inside.ledger.total }) ∙ c.self.view_is

pub invariant_of-self-2 : goal.invariant_of-self-2
invariant_of-self-2 g c =
    let draft : c.in-Ok.draft ≡ entry (Enrol c.args.pid) NoProcess = search rules in
    let does = subst (λ (e : Entry). TakesStep c.self.inside.node e.step c.in-Ok-run_and_reply.reply c.run_and_reply.new.node) draft c.in-Ok-run_and_reply.ensures.run in
    let granted : is_value c.in-Ok-run_and_reply.reply ≡ true = search rules in
    let es = c.self.inside.journal.items in
    let s = invariant-join _ _ es c.self.inside.node c.run_and_reply.new.node c.self.inside.ledger.total c.self.inside.unissued_share.parts c.args.pid c.in-Ok-run_and_reply.reply granted c.self.invariant does c.split_off-tokens.new.self.parts c.split_off-tokens.ensures.parts_left in
    let journal : c.push_reserved.new.self.items ≡ es ++ entry (Enrol c.args.pid) c.in-Ok-run_and_reply.reply ∷ [] = grind (arith, common_steps) in
    let total : c.add.new.self.total ≡ c.self.inside.ledger.total + 1 = c.add.ensures.total in
    rw (journal, total) s

pub returns-clause-pid : goal.returns-clause-pid
returns-clause-pid g c =
    let draft : c.in-Ok.draft ≡ entry (Enrol c.args.pid) NoProcess = search rules in
    let does = subst (λ (e : Entry). TakesStep c.self.inside.node e.step c.in-Ok-run_and_reply.reply c.run_and_reply.new.node) draft c.in-Ok-run_and_reply.ensures.run in
    let granted : is_value c.in-Ok-run_and_reply.reply ≡ true = search rules in
    enrol-granted (observable c.self.inside.node) (observable c.run_and_reply.new.node) c.args.pid c.in-Ok-run_and_reply.reply granted does.0

pub returns-clause-run : goal.returns-clause-run
returns-clause-run g c =
    let draft : c.in-Ok.draft ≡ entry (Enrol c.args.pid) NoProcess = search rules in
    let does = subst (λ (e : Entry). TakesStep c.self.inside.node e.step c.in-Ok-run_and_reply.reply c.run_and_reply.new.node) draft c.in-Ok-run_and_reply.ensures.run in
    let was = c.self.invariant in
    ends-run c.self.inside.limits _ c.self.inside.node c.run_and_reply.new.node c.self.inside.journal.items (Enrol c.args.pid) c.in-Ok-run_and_reply.reply
    was.most was.run does

pub returns-then-not-is_value-clause-refused_run : goal.returns-then-not-is_value-clause-refused_run
returns-then-not-is_value-clause-refused_run g c =
    let draft : c.in-Ok.draft ≡ entry (Enrol c.args.pid) NoProcess = search rules in
    let does = subst (λ (e : Entry). TakesStep c.self.inside.node e.step c.in-Ok-run_and_reply.reply c.run_and_reply.new.node) draft c.in-Ok-run_and_reply.ensures.run in
    let refused : is_value c.in-Ok-run_and_reply.reply ≡ false = search rules in
    let was = c.self.invariant in
    let both : RefusesEnrol g.L.Ledger.parts c.args.pid c.in-Ok-run_and_reply.reply = (
      enrol-refused (observable c.self.inside.node) (observable c.run_and_reply.new.node) c.args.pid c.in-Ok-run_and_reply.reply refused does.0,
      ends-run c.self.inside.limits _ c.self.inside.node c.run_and_reply.new.node c.self.inside.journal.items (Enrol c.args.pid) c.in-Ok-run_and_reply.reply
          was.most was.run does,
    ) in
    rw c.refusal.ensures both
