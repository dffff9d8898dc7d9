-- What a step keeps of the keys of a table.
use Rattle.std.specs.Prelude.{◌≡◌, ℕ, Bool, true, false, List, []}
use Rattle.std.specs.List.{AllByRecursion}
use Rattle.std.specs.Map.{keys_of}
use Rattle.std.specs.Option.{option_map_or}
use Rattle.bucket_table.specs.Slots.{Slot}
use Rattle.fixed_walk.specs.Fixes.{is_fixed}
use Rattle.fixed_walk.specs.laws.Kept.{IsSubsequence}
use Rattle.ownership.specs.World.{table_at}
use Rattle.node_core.specs.declared.step.Reply.{Reply}
use Rattle.node_core.specs.declared.step.Step.{Step}
use Rattle.node_core.specs.State.{State}
use Rattle.node_core.specs.Machine.{step}

-- the slots of the table with this identifier; none if it does not exist
abbrev pub slots_in : ℕ → State → List Slot
slots_in t s = option_map_or (λ table. table.state.content.slots) (table_at s.world.tables t) []

-- whether the table with this identifier exists, and some process fixes it
abbrev pub is_fixed_in : ℕ → State → Bool
is_fixed_in t s =
    option_map_or (λ table. is_fixed table.state.fixes) (table_at s.world.tables t) false

-- some process fixes the table in each of these states
abbrev pub StaysFixed : ℕ → List State → Type 0
StaysFixed t stretch = AllByRecursion (λ s. is_fixed_in t s ≡ true) stretch

-- if a table is fixed before and after a step, the keys of its slots before are among those after, in the same order
abbrev pub StepsKeepKeys : Type 0
StepsKeepKeys =
    (old new : State) (s : Step) (r : Reply) (t : ℕ) → step old s r new → is_fixed_in t old ≡ true
    → is_fixed_in t new ≡ true
    → IsSubsequence (keys_of (slots_in t old)) (keys_of (slots_in t new))
