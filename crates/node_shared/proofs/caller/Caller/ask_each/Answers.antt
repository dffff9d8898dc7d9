use Rattle.std.proofs.Common.{◌≡◌, ℕ, List, ◌++◌, [], ◌∷◌, length, sym, ap, ◌∙◌, subst, append_assoc, length-append, arith, rules}
use Rattle.std.specs.Vec.Iter.{into_iter_items}
use Rattle.node_core.specs.declared.step.Step.TheVariants.{Ask}
use Rattle.node_shared.specs.declared.entry.Entry.{Entry}
use Rattle.node_shared.specs.Journal.{entry}
use Rattle.node_shared.specs.Serving.{ContinuesBy}
use Rattle.node_shared.proofs.Calls.{ask-none, ask-next}
use Rattle.node_shared.proofs.caller.Caller.ask_each.Goals as goal

pub loop-call-init : goal.loop-call-init
loop-call-init g c = record {
  all = search rules;
  len = search rules;
  count = ap length c.requires.none;
  room = c.requires.room;
  seen = c.requires.all;
  calls_made = rw c.requires.none (ask-none g.B.HistoryId.limits c.args.self.now c.args.self.now c.args.calls.items c.requires.more);
}

pub loop-call-preserved : goal.loop-call-preserved
loop-call-preserved g c =
    let at = c.loop-call in
    let call = c.in-Some.call in
    let reply = c.in-Ok.reply in
    let new = c.step_locked.new.self in
    let did = c.in-Ok.ensures in
    let rest = into_iter_items c.next.new.self in
    let steps : into_iter_items at.call-iterator ≡ call ∷ rest = c.in-Some.ensures.steps.0 in
    let gone = c.in-Some.ensures.steps.1 in
    let short = ap length steps in
    let all : (at.yielded ++ call ∷ []) ++ rest ≡ c.args.calls.items = append_assoc at.yielded (call ∷ []) rest ∙ rw (← steps) at.invariant.all in
    let pushed : c.push_reserved.new.self.items ≡ at.replies.items ++ reply ∷ [] = c.push_reserved.ensures.items in
    let last = subst (λ (q : ℕ). ContinuesBy g.B.HistoryId.limits at.self (Ask q call) reply new) c.pid.ensures did.ok in
    let added : new.seen ≡ at.self.seen ++ entry (Ask c.pid.result call) reply ∷ [] = did.all ∙ (did.step.1 ∙ ap (λ (es : List Entry). es ++ entry (Ask c.pid.result call) reply ∷ []) (sym at.invariant.seen)) in
    let seen = subst (λ (q : ℕ). new.seen ≡ at.self.seen ++ entry (Ask q call) reply ∷ []) c.pid.ensures added in
    record {
      all = all;
      len = omega (arith, at.invariant.len, gone, short);
      count = ap length pushed ∙ omega (arith, length-append at.replies.items (reply ∷ []), length-append at.yielded (call ∷ []), at.invariant.count);
      room = omega (arith, c.push_reserved.ensures.capacity, at.invariant.room);
      seen = did.all;
      calls_made = rw pushed (ask-next g.B.HistoryId.limits c.args.self.now at.self new at.yielded rest call c.args.calls.items at.replies.items reply (sym (append_assoc at.yielded (call ∷ []) rest) ∙ all) at.invariant.count at.invariant.calls_made last seen);
    }
