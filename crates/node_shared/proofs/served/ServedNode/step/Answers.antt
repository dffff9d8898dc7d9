use Rattle.std.proofs.Common.{◌≢◌, [], List, sym, subst, ◌∙◌}
use Rattle.node_shared.specs.declared.entry.Entry.{Entry}
use Rattle.node_shared.specs.Journal.{entry, IsRun, entries_of}
use Rattle.node_shared.proofs.Growing.{run-on, counts-on}
use Rattle.node_shared.proofs.Knowing.{known-own}
use Rattle.node_shared.proofs.served.ServedNode.step.Goals as goal

pub invariant_of-self-2 : goal.invariant_of-self-2
invariant_of-self-2 g c =
    let did = c.in_ok-reply.ensures in
    let was = c.self.invariant in
    let h = c.self.inside.owner in
    let old = c.self.inside.node in
    let new = c.step.new.self in
    let reply = c.in_ok-reply.reply in
    let event = entry c.args.event reply in
    let some : entries_of c.args.writer.now.pid h ≢ [] = λ none. c.has_joined.ensures (sym c.enter-entered.ensures.exact ∙ none) in (
      rw c.enter-entered.ensures.all (run-on g.B.HistoryId.limits old new h c.args.event reply was.0 (did.ok, did.buckets)),
      rw (c.saturating_add-self-inside.ensures, c.enter-entered.ensures.all) (counts-on h event c.self.inside.count was.1),
      rw c.enter-entered.ensures.all (known-own h old new c.args.event reply was.2 (did.ok, did.buckets) c.args.writer.now.pid c.requires.own some),
    )

pub returns-clause-run : goal.returns-clause-run
returns-clause-run g c =
    let did = c.in_ok-reply.ensures in
    let limits = g.B.HistoryId.limits in
    let new = c.step.new.self in
    subst (λ (es : List Entry). IsRun limits es new) (sym c.enter-entered.ensures.all) (run-on limits c.self.inside.node new c.self.inside.owner c.args.event c.in_ok-reply.reply c.self.invariant.0 (did.ok, did.buckets))
