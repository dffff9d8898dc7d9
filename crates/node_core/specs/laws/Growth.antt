-- What growth steps do for tables: how far their growth lags, what holds once no step is pending, and what searches cost then.
use Rattle.std.specs.Prelude.{◌≡◌, ◌⊎◌, ℕ, ◌+◌, ◌*◌, ◌%◌, ◌<◌, ◌≤◌, true, false, not, None, Some, MatchOption, length, get_or, count_by, map, sum}
use Rattle.std.specs.List.{range_with_len}
use Rattle.ets_term.specs.declared.term.Term.{Term}
use Rattle.bucket_table.specs.Visits.{HasLooked}
use Rattle.fixed_walk.specs.TableState.{TableState}
use Rattle.ownership.specs.World.{Table, table_at}
use Rattle.node_core.specs.declared.step.Step.{Step}
use Rattle.node_core.specs.declared.step.Reply.{Reply}
use Rattle.node_core.specs.State.{State}
use Rattle.node_core.specs.Pending.{due, pending_step_at}
use Rattle.node_core.specs.rules.Growth.{max_buckets, step_on_buckets}
use Rattle.node_core.specs.laws.Kept.{slots_in}

-- if no step is pending, each table has at most four slots a bucket, or the greatest number of buckets, and each of its
-- buckets is ready
abbrev pub GrowthSuffices : Type 0
GrowthSuffices =
    (s : State) (t : ℕ) (table : Table) → due s ≡ None → table_at s.world.tables t ≡ Some table
    → ((length table.state.content.slots ≤ 4 * length table.state.buckets)
    ⊎ (max_buckets ≤ length table.state.buckets))
    × ((bucket : ℕ) → bucket < length table.state.buckets → get_or table.state.buckets bucket false ≡ true)

-- The growth of this table lags at most n steps: the table has at most four slots a bucket and n more, where each bucket
-- that is not ready counts as three slots; or it has the greatest number of buckets.
abbrev pub LagsAtMost : ℕ → ℕ → State → Type 0
LagsAtMost n t s =
    (table : Table) → table_at s.world.tables t ≡ Some table
    → (1 ≤ length table.state.buckets)
    × ((length table.state.content.slots + 3 * count_by not table.state.buckets ≤ 4 * length table.state.buckets + n)
    ⊎ (max_buckets ≤ length table.state.buckets))

-- a step that adds at most m slots to a table adds at most m to the lag of its growth
abbrev pub StepsAddLag : Type 0
StepsAddLag =
    (old new : State) (s : Step) (r : Reply) (t n m : ℕ) → step_on_buckets old s r new
    → length (slots_in t new) ≤ length (slots_in t old) + m → LagsAtMost n t old → LagsAtMost (n + m) t new

-- the pending step of a table, if it has one, lowers the lag of its growth by one
abbrev pub PendingStepsLowerLag : Type 0
PendingStepsLowerLag =
    (old new : State) (r : Reply) (t n : ℕ)
    → MatchOption (pending_step_at old.world.tables t) (new ≡ old) (λ s. step_on_buckets old s r new)
    → LagsAtMost (n + 1) t old → LagsAtMost n t new

-- a search of the table for some key of this bucket, which visits this number of nodes
abbrev pub VisitsInBucket : (Term → ℕ) → TableState → ℕ → ℕ → Type 0
VisitsInBucket hash_of table bucket nodes =
    (key : Term) × (old : ℕ) × (new : ℕ)
    × (looked : HasLooked hash_of table.content.slots table.buckets key old new)
    × (hash_of key % length table.buckets ≡ bucket) × (looked.nodes ≡ nodes)

-- If no step is pending, searches of a table, one in each bucket, visit in total at most its slots and two nodes a bucket.
-- That is at most six nodes a bucket, unless the table has the greatest number of buckets.
abbrev pub SearchesAreShort : Type 0
SearchesAreShort =
    (s : State) (t : ℕ) (table : Table) (hash_of : Term → ℕ) (nodes : ℕ → ℕ) (total : ℕ) → due s ≡ None
    → table_at s.world.tables t ≡ Some table
    → ((bucket : ℕ) → bucket < length table.state.buckets
    → VisitsInBucket hash_of table.state bucket (nodes bucket))
    → total ≡ sum (map nodes (range_with_len 0 (length table.state.buckets)))
    → (total ≤ length table.state.content.slots + 2 * length table.state.buckets)
    × ((total ≤ 6 * length table.state.buckets) ⊎ (max_buckets ≤ length table.state.buckets))
