use Rattle.std.proofs.Common.{◌≡◌, ◌++◌, ◌∷◌, [], map, sym, ap, ap₂, ◌∙◌, append_assoc, arith, rules, length}
use Rattle.std.proofs.lemmas.List.{append-nil, map-append}
use Rattle.test_nodes.proofs.tests.node.walk_among.plan_follower.PlanFollowerOthers.between.Goals as goal

pub loop-step-init : goal.loop-step-init
loop-step-init c = record {
  keys = search rules;
  handed_in = c.reserve-2.ensures.items ∙ sym (append-nil _);
  len = search rules;
  room = omega (arith, c.into_iter-step-iterator.ensures.into_iter_gives.1, c.len.ensures, c.reserve-2.ensures.len, c.in_ok-reserve-2.ensures.ok, c.in_ok-steps.steps.ok.0);
}

pub push_reserved-requires-in-loop-step : goal.push_reserved-requires-in-loop-step
push_reserved-requires-in-loop-step c = omega (arith, c.loop-step.invariant.room, c.in-Some.ensures.steps.1)

pub loop-step-preserved : goal.loop-step-preserved
loop-step-preserved c =
    let at = c.loop-step in
    let old = c.args.self.now in
    let turn : c.len-turn.result ≡ length old.keys.items = omega (arith, c.len-turn.ensures, old.keys.ok.0) in
    let pushed = c.push_reserved-in-loop-step.ensures in
    record {
      keys = at.invariant.keys;
      handed_in = pushed.items ∙ (ap₂ (λ xs n. xs ++ (n, c.in-Some.step) ∷ []) at.invariant.handed_in turn
          ∙ (append_assoc old.handed_in.items (map (λ s. (length old.keys.items, s)) at.yielded) ((length old.keys.items, c.in-Some.step) ∷ [])
          ∙ ap (λ xs. old.handed_in.items ++ xs) (sym (map-append (λ s. (length old.keys.items, s)) at.yielded (c.in-Some.step ∷ [])))));
      len = omega (arith, at.invariant.len, c.in-Some.ensures.steps.1, ap length c.in-Some.ensures.steps.0);
      room = omega (arith, at.invariant.room, c.in-Some.ensures.steps.1, pushed.len, pushed.capacity);
    }
