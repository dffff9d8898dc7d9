use Rattle.std.proofs.Common.{◌≡◌, [], List, sym, subst, ◌∙◌}
use Rattle.node_shared.specs.declared.entry.Entry.{Entry}
use Rattle.node_shared.specs.Journal.{IsRun}
use Rattle.node_shared.specs.Serving.{Continues}
use Rattle.node_shared.proofs.Callers.{continues-seen, continues-after}
use Rattle.node_shared.proofs.Calls.{ask-none}
use Rattle.node_shared.proofs.caller.Caller.ask_and_grow.Goals as goal

pub ask_each-requires-clause-more : goal.ask_each-requires-clause-more
ask_each-requires-clause-more g c =
    let limits = g.B.HistoryId.limits in
    let now = c.look_alone.new.self in
    let state = c.args.served.now.state in
    let run : IsRun limits now.seen state = subst (λ (es : List Entry). IsRun limits es state) (sym c.look_alone.ensures.seen) c.look_alone.ensures.run in
    continues-seen limits c.args.self.now now state c.look_alone.ensures.more run

pub returns-then-is_err-clause-err : goal.returns-then-is_err-clause-err
returns-then-is_err-clause-err g c =
    let limits = g.B.HistoryId.limits in
    let old = c.args.self.now in
    let now = c.look_alone.new.self in
    let state = c.args.served.now.state in
    let more = c.look_alone.ensures.more in
    let run : IsRun limits now.seen state = subst (λ (es : List Entry). IsRun limits es state) (sym c.look_alone.ensures.seen) c.look_alone.ensures.run in
    let did : Continues limits old [] now = continues-after limits old now now [] more (continues-seen limits old now state more run) in
    let none : c.fault_after.result.replies ≡ [] = c.fault_after.ensures ∙ (c.reserve.ensures.items ∙ c.new-replies.ensures.items) in
    rw none (ask-none limits old now c.args.calls.items did)
