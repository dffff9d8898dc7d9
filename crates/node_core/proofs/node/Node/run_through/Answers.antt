use Rattle.std.proofs.Common.{rules, arith, ◌≡◌, ◌∙◌, ◌+◌, ◌<◌, ◌++◌, ◌∷◌, [], sym, ap, take, length}
use Rattle.std.proofs.lemmas.List.{take_more, length-take-le}
use Rattle.node_core.proofs.buckets.Through.{through-push, through-on-buckets}
use Rattle.node_core.proofs.node.Node.run_through.Goals as goal

pub loop-event-preserved : goal.loop-event-preserved
loop-event-preserved g c =
    let xs = c.args.steps.now in
    let i = c.loop-event.event-index in
    let within : i < length xs = omega arith in
    let more : take (i + 1) xs ≡ take i xs ++ c.event-item.result ∷ [] = take_more xs i c.event-item.result within ∙ ap (λ x. take i xs ++ x ∷ []) (sym c.event-item.is) in
    let pushed : c.push_reserved.new.self.items ≡ c.loop-event.answers.items ++ c.try_step.result ∷ [] = search rules in
    let even : length c.loop-event.answers.items ≡ length (take i xs) = let n = length-take-le i xs (omega arith) in search rules in
    record {
      runs = rw (more, pushed) (through-push _ _ _ _ _ _ _ even c.loop-event.invariant.runs c.try_step.ensures);
      buckets = rw (more, pushed) (through-on-buckets _ _ _ _ _ _ _ even c.loop-event.invariant.buckets c.try_step.ensures);
      room = omega (arith, c.push_reserved.ensures.capacity, c.loop-event.invariant.room);
      count = omega (arith, c.push_reserved.ensures.len, c.loop-event.invariant.count);
    }
