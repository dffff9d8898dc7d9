use Rattle.std.proofs.Common.{rules, arith, ◌≡◌, ◌∙◌, ◌+◌, ◌<◌, ◌++◌, ◌∷◌, [], sym, ap, take, length}
use Rattle.std.proofs.lemmas.List.{take_more}
use Rattle.node_core.proofs.buckets.Runs.{run-push, run-on-buckets-push}
use Rattle.node_core.proofs.node.Node.run.Goals as goal

pub loop-event-preserved : goal.loop-event-preserved
loop-event-preserved g c =
    let xs = c.args.steps.now in
    let i = c.loop-event.event-index in
    let within : i < length xs = omega arith in
    let more : take (i + 1) xs ≡ take i xs ++ c.event-item.result ∷ [] = take_more xs i c.event-item.result within ∙ ap (λ x. take i xs ++ x ∷ []) (sym c.event-item.is) in
    let pushed : c.push.new.self.items ≡ c.loop-event.replies.items ++ c.in-Ok.reply ∷ [] = search rules in
    record {
      runs = rw (more, pushed) (run-push _ _ _ _ _ _ _ c.loop-event.invariant.runs c.in-Ok.ensures.ok);
      buckets = rw (more, pushed) (run-on-buckets-push _ _ _ _ _ _ _ c.loop-event.invariant.buckets c.in-Ok.ensures.ok c.in-Ok.ensures.buckets);
      room = omega (arith, c.push.ensures.lower_bound, c.push.ensures.capacity);
      count = search rules;
    }
