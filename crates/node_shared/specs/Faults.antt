-- Why a process is not enrolled.
use Rattle.std.specs.Prelude.{◌≡◌, ℕ, false}
use Rattle.node_core.specs.declared.step.Step.TheVariants.{Enrol}
use Rattle.node_core.specs.declared.step.Reply.{Reply}
use Rattle.node_core.specs.State.{State}
use Rattle.node_core.specs.Observable.{observable}
use Rattle.node_core.specs.Machine.{step}
use Rattle.node_core.specs.Values.{is_value}
use Rattle.node_shared.specs.declared.book.BookFault.{BookFault}
use Rattle.node_shared.specs.declared.book.BookFault.TheVariants as book
use Rattle.node_shared.specs.declared.pids.Drawn.{Drawn}
use Rattle.node_shared.specs.declared.shared.JoinFault.{JoinFault}
use Rattle.node_shared.specs.declared.shared.JoinFault.TheVariants as join

-- the machine refuses to enrol p, with this reply
abbrev pub Refuses : State → ℕ → BookFault → Type 0
Refuses s p (book.Refused r) = (is_value r ≡ false) × step (observable s) (Enrol p) r (observable s)
Refuses s p book.Memory = Unit {0}

-- the fault is a refusal of this kind, or out of memory
abbrev pub RefusesWith : (Reply → Type 0) → BookFault → Type 0
RefusesWith allowed (book.Refused r) = allowed r
RefusesWith allowed book.Memory = Unit {0}

-- the same for the fault of creating a client
abbrev pub JoinRefusesWith : (Reply → Type 0) → JoinFault → Type 0
JoinRefusesWith allowed (join.Refused r back) = allowed r
JoinRefusesWith allowed (join.Memory back) = Unit {0}

-- the fault gives this drawn number back
abbrev pub HandsBack : Drawn → JoinFault → Type 0
HandsBack drawn (join.Refused r back) = (is_value r ≡ false) × (back ≡ drawn)
HandsBack drawn (join.Memory back) = back ≡ drawn
