-- Which step of growth is pending.
use Rattle.std.specs.Prelude.{◌≡◌, ◌*◌, ◌⊎◌, ℕ, zero, suc, nat_lt, ◌&&◌, Bool, not, if◌then◌else◌, position, length, [], ◌∷◌, Option, Some, None, option_map}
use Rattle.std.specs.Bool.{MatchBool}
use Rattle.std.specs.Option.{option_map_or, option_and_then, IsSomeAnd}
use Rattle.fixed_walk.specs.TableState.{TableState}
use Rattle.ownership.specs.World.{Tables, table_at}
use Rattle.node_core.specs.declared.step.Step.{Step}
use Rattle.node_core.specs.declared.step.Step.TheVariants.{Grow, Ready}
use Rattle.node_core.specs.declared.step.Reply.{Reply}
use Rattle.node_core.specs.State.{State}
use Rattle.node_core.specs.rules.Growth.{max_buckets, step_on_buckets}

-- a table doubles its buckets if it has more slots per bucket than this
abbrev pub max_slots_per_bucket : ℕ
max_slots_per_bucket = 4

-- whether a table has more than four slots per bucket, tombstones included, and may have more buckets
abbrev pub is_crowded : TableState → Bool
is_crowded table =
    nat_lt (max_slots_per_bucket * length table.buckets) (length table.content.slots)
    && nat_lt (length table.buckets) max_buckets

-- the pending step of a table: to double if it is crowded, else to ready its first bucket that is not ready
abbrev pub pending_step_of : ℕ → TableState → Option Step
pending_step_of t table =
    if is_crowded table then Some (Grow t)
    else option_map (λ bucket. Ready t bucket) (position not table.buckets)

-- the pending step of the table with an identifier, if there is such a table and step
abbrev pub pending_step_at : Tables → ℕ → Option Step
pending_step_at tables t = option_and_then (λ table. pending_step_of t table.state) (table_at tables t)

-- the pending step of the first table, in order of creation, that has one
abbrev pub pending_from : ℕ → Tables → Option Step
pending_from t [] = None
pending_from t (table ∷ tables) =
    option_map_or (λ step. Some step) (option_and_then (λ own. pending_step_of t own.state) table)
    (pending_from (suc t) tables)

-- the pending step of a state, if any
abbrev pub due : State → Option Step
due s = pending_from 0 s.world.tables

-- runs the pending step, if there is one, and says whether there was one; otherwise nothing changes
abbrev pub RunsPending : State → State → Bool → Type 0
RunsPending old new ran =
    MatchBool ran
    (IsSomeAnd (due old) (λ event. (r : Reply) × step_on_buckets old event r new))
    ((due old ≡ None) × (new ≡ old))

-- a step is the pending step of some table
abbrev pub IsPending : State → Step → Type 0
IsPending s event = (t : ℕ) × (pending_step_at s.world.tables t ≡ Some event)

-- runs the pending step of some table
abbrev pub RunsOne : State → State → Type 0
RunsOne old new = (event : Step) × IsPending old event × ((r : Reply) × step_on_buckets old event r new)

-- runs the pending step of some table, and says whether it ran one; otherwise nothing changes
abbrev pub RunsPendingOfTable : State → State → Bool → Type 0
RunsPendingOfTable old new ran = MatchBool ran (RunsOne old new) (new ≡ old)

-- runs at most n steps, each pending in the state before it
abbrev pub RunsAtMost : ℕ → State → State → Type 0
RunsAtMost zero old new = new ≡ old
RunsAtMost (suc n) old new = (new ≡ old) ⊎ ((mid : State) × (RunsAtMost n old mid × RunsOne mid new))
