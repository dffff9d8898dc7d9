-- The state of a caller after several calls under one hold of the lock.
use Rattle.std.specs.Prelude.{ℕ, ◌≤◌, List, length, map, zip}
use Rattle.node_core.specs.declared.limits.Limits.{Limits}
use Rattle.node_core.specs.declared.step.Step.TheVariants.{Ask}
use Rattle.node_core.specs.declared.step.Call.{Call}
use Rattle.node_core.specs.declared.step.Reply.{Reply}
use Rattle.node_shared.specs.declared.entry.Entry.{Entry}
use Rattle.node_shared.specs.Journal.{entry}
use Rattle.node_shared.specs.Serving.{CallerState, Continues}

-- the entries of these calls of a process with these replies; a call without a reply has no entry
abbrev pub call_entries : ℕ → List Call → List Reply → List Entry
call_entries p calls replies = map (λ made. entry (Ask p made.0) made.1) (zip calls replies)

-- the caller made the first of these calls, one for each of these replies, with no step of others between them
abbrev pub HasAsked : Limits → CallerState → List Call → List Reply → CallerState → Type 0
HasAsked limits old calls replies new =
    (length replies ≤ length calls) × Continues limits old (call_entries old.own.pid calls replies) new
