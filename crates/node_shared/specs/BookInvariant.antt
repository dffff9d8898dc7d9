-- What holds of a book whenever the lock is free.
use Rattle.std.specs.Prelude.{◌≡◌, ◌≤◌, ◌+◌, ℕ, List, length}
use Rattle.node_core.specs.declared.limits.Limits.{Limits}
use Rattle.node_core.specs.State.{State}
use Rattle.node_shared.specs.declared.entry.Entry.{Entry}
use Rattle.node_shared.specs.Journal.{IsRun, process_entries}

-- The journal is a run from the empty state to the node's state. The total is the number of its entries of processes.
-- The ledger has one part for each process that the limits allow, and one more. Each enrolled process was given a part.
-- Of the other `parts`, there is at least one for each process that can still be enrolled, and one more.
pub record BookInvariant
    (limits : Limits) (all_parts : ℕ) (state : State) (journal : List Entry) (total parts : ℕ) : Type 0 where
  pub most : limits.processes + 1 ≡ all_parts
  pub same : state.limits ≡ limits
  pub run : IsRun limits journal state
  pub counted : total ≡ process_entries journal
  pub enough : state.world.max_processes + 1 ≤ length state.world.processes + parts
