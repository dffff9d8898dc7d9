-- Runs of a node, whose tables have buckets, as runs of the machine.
use Rattle.std.specs.Prelude.{List}
use Rattle.node_core.specs.declared.limits.Limits.{Limits}
use Rattle.node_core.specs.declared.step.Step.{Step}
use Rattle.node_core.specs.declared.step.Reply.{Reply}
use Rattle.node_core.specs.State.{State, empty}
use Rattle.node_core.specs.Observable.{observable}
use Rattle.node_core.specs.Machine.{run}
use Rattle.node_core.specs.Buckets.{run_on_buckets}

-- a run of a node is a run of the machine: the same steps with the same replies, from the observable state before it to
-- the one after it
abbrev pub RunsAreObservable : Type 0
RunsAreObservable =
    (old : State) (steps : List Step) (replies : List Reply) (new : State)
    → run_on_buckets old steps replies new → run (observable old) steps replies (observable new)

-- the same for a run from the empty state, which is its own observable state: it has no buckets
abbrev pub TranscriptsAreRuns : Type 0
TranscriptsAreRuns =
    (limits : Limits) (steps : List Step) (replies : List Reply) (new : State)
    → run_on_buckets (empty limits) steps replies new
    → run (empty limits) steps replies (observable new)
