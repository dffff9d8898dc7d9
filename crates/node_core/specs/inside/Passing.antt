-- One step of a run that goes on when memory runs out.
use Rattle.std.specs.Prelude.{◌≡◌, Option, Some, None}
use Rattle.node_core.specs.declared.step.Step.{Step}
use Rattle.node_core.specs.declared.step.Reply.{Reply}
use Rattle.node_core.specs.State.{State}
use Rattle.node_core.specs.Observable.{observable}
use Rattle.node_core.specs.Machine.{step}
use Rattle.node_core.specs.rules.Growth.{step_on_buckets}

-- a step of the machine if there is a reply; otherwise nothing has changed
abbrev pub StepsOrUnchanged : State → Step → Option Reply → State → Type 0
StepsOrUnchanged old s None new = new ≡ old
StepsOrUnchanged old s (Some r) new =
    step (observable old) s r (observable new) × step_on_buckets old s r new
