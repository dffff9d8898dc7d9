-- What holds in every state that a run reaches.
use Rattle.std.specs.Prelude.{◌≡◌, ℕ, true, false, List, Some, codes}
use Rattle.std.specs.List.{AllByRecursion}
use Rattle.std.specs.Map.{keys_of}
use Rattle.ets_term.specs.Atoms.{is_atom}
use Rattle.bucket_table.specs.Slots.{Slot}
use Rattle.bucket_table.specs.Rows.{HasDistinctKeys}
use Rattle.ownership.specs.World.{Table, table_at}
use Rattle.node_core.specs.declared.limits.Limits.{Limits}
use Rattle.node_core.specs.declared.step.Reply.{Reply}
use Rattle.node_core.specs.declared.step.Step.{Step}
use Rattle.node_core.specs.State.{State, empty}
use Rattle.node_core.specs.Machine.{run}

-- no slot has the key '$end_of_table', with which a traversal ends
abbrev pub HasNoEnd : List Slot → Type 0
HasNoEnd slots = AllByRecursion (λ key. is_atom (codes "$end_of_table") key ≡ false) (keys_of slots)

-- a sound state: no two slots of one table have the same key, none has the key '$end_of_table', and no two named tables
-- have the same name
pub record IsSound (s : State) : Type 0 where
  pub keys : (t : ℕ) (table : Table) → table_at s.world.tables t ≡ Some table
      → HasDistinctKeys table.state.content.slots
  pub ends : (t : ℕ) (table : Table) → table_at s.world.tables t ≡ Some table
      → HasNoEnd table.state.content.slots
  pub names :
      (t u : ℕ) (one other : Table) → table_at s.world.tables t ≡ Some one
      → table_at s.world.tables u ≡ Some other
      → one.metadata.named ≡ true → other.metadata.named ≡ true → one.metadata.name ≡ other.metadata.name → t ≡ u

-- a run from a sound state ends in a sound state
abbrev pub RunsStaySound : Type 0
RunsStaySound =
    (old : State) (steps : List Step) (replies : List Reply) (new : State)
    → run old steps replies new → IsSound old → IsSound new

-- each state that a run reaches from the empty one is sound
abbrev pub ReachedAreSound : Type 0
ReachedAreSound =
    (limits : Limits) (steps : List Step) (replies : List Reply) (s : State)
    → run (empty limits) steps replies s → IsSound s
