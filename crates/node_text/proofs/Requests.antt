-- What a run of a request does, after the growth steps that no call observes.
use Rattle.std.proofs.Common.{◌≡◌, ℤ, inl, sym, subst}
use Rattle.std.specs.Prelude.{Option}
use Rattle.node_core.specs.declared.step.Reply.{Reply}
use Rattle.node_core.specs.declared.step.Step.{Step}
use Rattle.node_text.specs.Answers.{status_of}
use Rattle.node_text.specs.Calls.{RunsStep}
use Rattle.node_text.specs.Requests.{RunReturns}
use Rattle.node_text.specs.StoreState.{StoreState}
use Rattle.node_text.specs.declared.last_refusal.LastRefusal.{LastRefusal}

-- the step was run, which led to the state mid, and the growth steps after it leave this state as it is
pub ran : (event : Step) (status : ℤ) (old mid new : StoreState) (reply : Reply) (refusal : Option LastRefusal)
    → RunsStep old event (record mid { reply = reply; refusal = refusal }) → mid.reply ≡ old.reply → mid.refusal ≡ old.refusal
    → new ≡ mid → status ≡ status_of reply → RunReturns event status old new reply refusal
ran event status old mid new reply refusal runs keeps_reply keeps_refusal same told =
    subst (λ (after : StoreState). RunReturns event status old after reply refusal) (sym same) (inl (runs, told, keeps_reply, keeps_refusal))
