-- The journal of a shared node: each step that was run, with its reply, in order.
use Rattle.std.specs.Prelude.{ℕ, Bool, List, map, filter, length, Option, Some, None, is_some}
use Rattle.std.specs.List.{list_any}
use Rattle.node_core.specs.declared.limits.Limits.{Limits}
use Rattle.node_core.specs.declared.step.Step.{Step}
use Rattle.node_core.specs.declared.step.Step.TheVariants.{Enrol, End, Ask, Grow, Ready}
use Rattle.node_core.specs.declared.step.Reply.{Reply}
use Rattle.node_core.specs.State.{State, empty}
use Rattle.node_core.specs.Observable.{observable}
use Rattle.node_core.specs.Machine.{step}
use Rattle.node_core.specs.Buckets.{run_on_buckets}
use Rattle.node_core.specs.Woven.{is_step_of}
use Rattle.node_core.specs.rules.Growth.{step_on_buckets}
use Rattle.node_shared.specs.declared.entry.Entry.{Entry}

-- the entry of a step with its reply
abbrev pub entry : Step → Reply → Entry
entry s r = record { step = s; reply = r }

-- the node may run this step with this reply
abbrev pub TakesStep : State → Step → Reply → State → Type 0
TakesStep old s r new = step (observable old) s r (observable new) × step_on_buckets old s r new

-- from the empty state, the node may run these steps with these replies, and is then in this state
abbrev pub IsRun : Limits → List Entry → State → Type 0
IsRun limits entries state =
    run_on_buckets (empty limits) (map (λ e. e.step) entries) (map (λ e. e.reply) entries) state

-- the process whose step it is; Grow and Ready are not steps of a process
abbrev pub process_of : Step → Option ℕ
process_of (Enrol p) = Some p
process_of (End p) = Some p
process_of (Ask p call) = Some p
process_of (Grow t) = None
process_of (Ready t bucket) = None

-- the number of entries of processes
abbrev pub process_entries : List Entry → ℕ
process_entries entries = length (filter (λ e. is_some (process_of e.step)) entries)

-- whether the entry is of a step of this process
abbrev pub is_entry_of : ℕ → Entry → Bool
is_entry_of p e = is_step_of p e.step

-- the entries of a process, in order
abbrev pub entries_of : ℕ → List Entry → List Entry
entries_of p entries = filter (is_entry_of p) entries

-- whether a process has entries
abbrev pub has_entries : ℕ → List Entry → Bool
has_entries p entries = list_any (is_entry_of p) entries
