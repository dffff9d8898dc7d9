-- What each step has as its outcome.
use Rattle.std.specs.Prelude.{◌≡◌, false, List}
use Rattle.node_core.specs.declared.limits.Limits.{Limits}
use Rattle.node_core.specs.declared.step.Step.{Step}
use Rattle.node_core.specs.declared.step.Reply.{Reply}
use Rattle.node_core.specs.State.{State, empty}
use Rattle.node_core.specs.Observable.{observable}
use Rattle.node_core.specs.Values.{is_value}
use Rattle.node_core.specs.Machine.{step, run}
use Rattle.node_core.specs.rules.Growth.{step_on_buckets}

-- a step whose reply is a refusal leaves the state as it was
abbrev pub RefusalsChangeNothing : Type 0
RefusalsChangeNothing =
    (old new : State) (s : Step) (r : Reply) → step old s r new → is_value r ≡ false → new ≡ old

-- the same for a node, whose tables have buckets: a refused step leaves these as they were, too
abbrev pub RefusalsKeepBuckets : Type 0
RefusalsKeepBuckets =
    (old new : State) (s : Step) (r : Reply) → step (observable old) s r (observable new)
    → step_on_buckets old s r new → is_value r ≡ false → new ≡ old

-- in each state that a run reaches from the empty one, each step has a reply and a state after it
abbrev pub StepsHaveOutcomes : Type 0
StepsHaveOutcomes =
    (limits : Limits) (steps : List Step) (replies : List Reply) (old : State)
    → run (empty limits) steps replies old → (s : Step) → (r : Reply) × (new : State) × step old s r new
