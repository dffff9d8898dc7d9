use Rattle.std.proofs.Common.{arith, ◌≡◌, ◌∙◌, ◌+◌, ◌<◌, ◌++◌, ◌∷◌, [], sym, ap, take, length}
use Rattle.std.proofs.lemmas.List.{take_more}
use Rattle.node_core.proofs.walks.OthersSteps.{did-after}
use Rattle.node_core.proofs.walk.run_steps.Goals as goal

pub loop-step-preserved : goal.loop-step-preserved
loop-step-preserved g c =
    let xs = c.args.steps.now in
    let i = c.loop-step.step-index in
    let item = c.loop-step-item.result in
    let within : i < length xs = omega arith in
    let more : take (i + 1) xs ≡ take i xs ++ item ∷ [] = take_more xs i item within ∙ ap (λ x. take i xs ++ x ∷ []) (sym c.loop-step-item.is) in
    did-after c.args.pid c.args.node.now c.loop-step.node c.step.new.self (take i xs) (take (i + 1) xs) item c.step.result more c.loop-step.invariant
    (sym c.if-is_of.ensures) c.if-is_err.ensures.value c.step.ensures.ok c.step.ensures.buckets
