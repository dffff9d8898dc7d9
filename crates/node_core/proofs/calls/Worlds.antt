-- What the world answers is what the machine may, and what holds of it.
use Rattle.std.proofs.Common.{◌≡◌, refl, sym, ap, subst}
use Rattle.std.specs.Prelude.{Result, Ok, Err, IfOk, OnOk, OnErr}
use Rattle.std.specs.declared.alloc.AllocError.{AllocError}
use Rattle.table_ops.specs.declared.refusal.Refusal.{Refusal}
use Rattle.table_ops.specs.declared.refusal.Refusal.TheVariants as refusal
use Rattle.table_ops.specs.Outcomes.{Outcome}
use Rattle.ownership.specs.World.{World}
use Rattle.ownership.specs.Outcomes as world
use Rattle.ownership.specs.declared.fault.WorldFault.{WorldFault}
use Rattle.ownership.specs.declared.fault.WorldFault.TheVariants.{Badarg, SystemLimit, NoProcess, Memory}
use Rattle.node_core.specs.declared.step.Reply.{Reply}
use Rattle.node_core.specs.State.{State}
use Rattle.node_core.specs.Access.{changes_world}
use Rattle.node_core.specs.inside.Refusals as called

module _ {X : Type 0} (old : State) (answer : X → Reply) (outcome : Outcome (Result X WorldFault) World) (w : World) where
  pub changes_world-world-ok : (x : X) → world.RefinesWorld outcome old.world (Ok x) w → changes_world old answer outcome (answer x) (record old { world = w })
  changes_world-world-ok x h = (Ok x, h, refl, refl)

  pub changes_world-world-err : (fault : WorldFault) → world.RefinesWorld outcome old.world (Err fault) w → called.RefinesReply (changes_world old answer outcome) old (called.refusal_of fault) (record old { world = w })
  changes_world-world-err Badarg h = (Err Badarg, h, refl, refl)
  changes_world-world-err SystemLimit h = (Err SystemLimit, h, refl, refl)
  changes_world-world-err NoProcess h = (Err NoProcess, h, refl, refl)
  changes_world-world-err Memory h = ap (λ v. record old { world = v }) h

-- the reply for the result of a calling method
pub reply-ok : (outcome : Outcome Reply State) (old new : State) (r : Result Reply Refusal) (replied : Result Reply AllocError) → called.RefinesReply outcome old r new → called.RefusalToReply r replied → IfOk replied (λ reply. outcome reply new)
reply-ok outcome old new (Ok reply) (Ok answer) c e = subst (λ a. outcome a new) (sym e) c
reply-ok outcome old new (Err refusal.Badarg) (Ok answer) c e = subst (λ a. outcome a new) (sym e) c
reply-ok outcome old new (Err refusal.SystemLimit) (Ok answer) c e = subst (λ a. outcome a new) (sym e) c
reply-ok outcome old new (Err refusal.Memory) (Ok answer) c e = absurd e
reply-ok outcome old new r (Err error) c e = tt

pub reply-err : (outcome : Outcome Reply State) (old new : State) (r : Result Reply Refusal) (replied : Result Reply AllocError) → called.RefinesReply outcome old r new → called.RefusalToReply r replied → OnErr replied (new ≡ old)
reply-err outcome old new r (Ok answer) c e = tt
reply-err outcome old new (Err refusal.Memory) (Err error) c e = c
reply-err outcome old new (Ok reply) (Err error) c e = absurd e
reply-err outcome old new (Err refusal.Badarg) (Err error) c e = absurd e
reply-err outcome old new (Err refusal.SystemLimit) (Err error) c e = absurd e

-- the same of a method that writes its reply
pub written-ok : {E : Type 0} (P : Reply → Type 0) (reply : Reply) (r : Result (Unit {0}) E) → IfOk (called.to_reply (λ _. reply) r) P → OnOk r (P reply)
written-ok P reply (Ok x) h = h
written-ok P reply (Err e) h = tt

pub written-err : {E : Type 0} (X : Type 0) (reply : Reply) (r : Result (Unit {0}) E) → OnErr (called.to_reply (λ _. reply) r) X → OnErr r X
written-err X reply (Ok x) h = tt
written-err X reply (Err e) h = h
