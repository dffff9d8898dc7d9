-- What the methods of a node do over states with buckets is what the machine may do over the observable state, and does to buckets what it should.
use Rattle.std.proofs.Common.{Result, Ok, Err, IfOk}
use Rattle.std.specs.declared.alloc.AllocError.{AllocError}
use Rattle.node_core.specs.declared.step.Step.{Step}
use Rattle.node_core.specs.declared.step.Step.TheVariants.{Enrol, End, Ask, Grow, Ready}
use Rattle.node_core.specs.declared.step.Reply.{Reply}
use Rattle.node_core.specs.State.{State}
use Rattle.node_core.specs.Observable.{observable, KeepsBuckets}
use Rattle.node_core.specs.Machine.{step}
use Rattle.node_core.specs.rules.Growth.{step_on_buckets, HasFirstBuckets}
use Rattle.node_core.specs.inside.ReplyReserve.{StepsWithBuckets}
use Rattle.node_core.proofs.buckets.Observable.{buckets-follow, grown-observable, readied-observable}
use Rattle.node_core.proofs.calls.EachCall.{step-lawful, step-follows}

-- any step but growing and readying, of which only the observable state is known
step-buckets : (old new : State) (event : Step) (reply : Reply) → step old event reply new → KeepsBuckets old new × HasFirstBuckets old new
step-buckets old new event reply h = buckets-follow old new (step-follows old new event reply h)

pub done-observable : (old new : State) (event : Step) (reply : Reply) → StepsWithBuckets old event reply new → step (observable old) event reply (observable new)
done-observable old new (Enrol p) reply h = (step-lawful old (Enrol p)).observable reply new h
done-observable old new (End p) reply h = (step-lawful old (End p)).observable reply new h
done-observable old new (Ask p asked) reply h = (step-lawful old (Ask p asked)).observable reply new h
done-observable old new (Grow t) reply h = grown-observable old new reply t h
done-observable old new (Ready t bucket) reply h = readied-observable old new reply t bucket h

pub done-buckets : (old new : State) (event : Step) (reply : Reply) → StepsWithBuckets old event reply new → step_on_buckets old event reply new
done-buckets old new (Enrol p) reply h = step-buckets old new (Enrol p) reply h
done-buckets old new (End p) reply h = step-buckets old new (End p) reply h
done-buckets old new (Ask p asked) reply h = step-buckets old new (Ask p asked) reply h
done-buckets old new (Grow t) reply h = h
done-buckets old new (Ready t bucket) reply h = h

-- the same with a reply and its copy, unless memory was refused
module _ (old new : State) (event : Step) where
  pub twice-observable : (r : Result (Reply × Reply) AllocError) → IfOk r (λ both. StepsWithBuckets old event both.0 new) → IfOk r (λ both. step (observable old) event both.0 (observable new))
  twice-observable (Ok both) h = done-observable old new event both.0 h
  twice-observable (Err error) h = h

  pub twice-buckets : (r : Result (Reply × Reply) AllocError) → IfOk r (λ both. StepsWithBuckets old event both.0 new) → IfOk r (λ both. step_on_buckets old event both.0 new)
  twice-buckets (Ok both) h = done-buckets old new event both.0 h
  twice-buckets (Err error) h = h
