-- The state of a store, as a contract sees it.
use Rattle.std.specs.Prelude.{Option, Some}
use Rattle.node_core.specs.State.{State}
use Rattle.node_core.specs.declared.step.Reply.{Reply}
use Rattle.node_text.specs.declared.last_refusal.LastRefusal.{LastRefusal}

-- the observable state of the node, the reply to the last step that was run, and why the last call was refused, if it
-- was
pub record StoreState : Type 0 where
  pub node : State
  pub reply : Reply
  pub refusal : Option LastRefusal

-- the same store, with this reason as that of the last refusal
abbrev pub with_refusal : LastRefusal → StoreState → StoreState
with_refusal refusal s = record s { refusal = Some refusal }
