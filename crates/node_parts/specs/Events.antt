-- The events of a store in parts, and what each does to one part.
use Rattle.std.specs.Prelude.{◌≡◌, ◌≢◌, ◌⊎◌, ℕ, ◌+◌, ◌-◌, ◌<◌, ◌≤◌, Bool, true, ◌==◌, ◌||◌, List, Option, Some, None, IsSomeAnd, length, slice_get, filter_map}
use Rattle.std.specs.Bool.{MatchBool}
use Rattle.std.specs.List.{AllZip, FoldsTo, enumerate_from, filter, reduce}
use Rattle.ets_term.specs.declared.term.Term.{Term}
use Rattle.bucket_table.specs.Slots.{object_count}
use Rattle.node_core.specs.declared.step.Call.{Call}
use Rattle.node_core.specs.declared.step.Step.{Step}
use Rattle.node_core.specs.declared.step.Step.TheVariants.{Ask}
use Rattle.node_core.specs.declared.step.Reply.{Reply}
use Rattle.node_core.specs.declared.step.Reply.TheVariants.{SystemLimit}
use Rattle.node_core.specs.State.{State}
use Rattle.node_core.specs.Machine.{step}
use Rattle.node_core.specs.Reads.{is_read}
use Rattle.node_core.specs.laws.Kept.{slots_in}
use Rattle.node_parts.specs.ForAll.{is_for_all}
use Rattle.node_parts.specs.Joined.{is_on_all_objects, join}
use Rattle.node_parts.specs.Keyed.{IsOnPart, HasNoRoomFor}
use Rattle.node_parts.specs.Parts.{limit_in}
use Rattle.node_parts.specs.Room.{with_limit}

-- What happens in a store in parts. Growth of the tables of one part is no event: no call observes it.
pub data Event : Type 0 where
  -- part k makes a call of process p, with this reply
  made : (k p : ℕ) → Call → Reply → Event
  -- each part makes a step, with this reply
  made_by_all : Step → Reply → Event
  -- each part makes a call of a process on all objects of a table, and the replies of the parts make this reply
  made_by_each : ℕ → Call → List Reply → Reply → Event
  -- part k refuses a call of process p by a limit, and no other part has room in the table
  refused : (k p : ℕ) → Call → Event
  -- room for n objects of table t moves from one part to another
  moved : (t from to n : ℕ) → Event

-- the step of an event, with its reply; None if room moves
abbrev pub step_of : Event → Option (Step × Reply)
step_of (made k p asked reply) = Some (Ask p asked, reply)
step_of (made_by_all s reply) = Some (s, reply)
step_of (made_by_each p asked replies reply) = Some (Ask p asked, reply)
step_of (refused k p asked) = Some (Ask p asked, SystemLimit)
step_of (moved t from to n) = None

-- m parts can have the event: it names some of them, and its step and replies are such as it says
abbrev pub IsEventOf : ℕ → Event → Type 0
IsEventOf m (made k p asked reply) = k < m
IsEventOf m (made_by_all s reply) = (0 < m) × (is_for_all s ≡ true)
IsEventOf m (made_by_each p asked replies reply) =
    (length replies ≡ m) × (is_on_all_objects asked ≡ true) × (reduce join replies ≡ Some reply)
IsEventOf m (refused k p asked) = k < m
IsEventOf m (moved t from to n) = (from < m) × (to < m) × (from ≢ to)

-- whether an event is one of part k
abbrev pub is_of : ℕ → Event → Bool
is_of k (made j p asked reply) = j == k
is_of k (moved t from to n) = from == k || to == k
is_of k _ = true

-- What an event of part k does to it. If another part refuses a call by a limit, part k has no room for it. If room moves,
-- part k either gives it, as far as its objects leave it, or takes it.
abbrev pub Does : (ℕ → Term → ℕ) → ℕ → State → Event → State → Type 0
Does part_of k old (made j p asked reply) new =
    step old (Ask p asked) reply new × IsOnPart part_of k old asked
    × ((reply ≢ SystemLimit) ⊎ (is_read asked ≡ true))
Does part_of k old (made_by_all s reply) new = step old s reply new
Does part_of k old (made_by_each p asked replies reply) new =
    IsSomeAnd (slice_get replies k) (λ own. step old (Ask p asked) own new)
Does part_of k old (refused j p asked) new =
    MatchBool (j == k)
    (step old (Ask p asked) SystemLimit new × IsOnPart part_of k old asked)
    ((new ≡ old) × HasNoRoomFor old asked)
Does part_of k old (moved t from to n) new =
    MatchBool (from == k)
    ((object_count (slots_in t old) + n ≤ limit_in t old) × (new ≡ with_limit t (limit_in t old - n) old))
    (new ≡ with_limit t (limit_in t old + n) old)

-- each part goes by its own events, one after another, from one state to another
abbrev pub PartsGo : (ℕ → Term → ℕ) → List State → List Event → List State → Type 0
PartsGo part_of parts events news =
    AllZip (λ part new. FoldsTo (Does part_of part.0) part.1 (filter (is_of part.0) events) new)
    (enumerate_from 0 parts) news

-- the steps of events, each with its reply
abbrev pub steps_of : List Event → List (Step × Reply)
steps_of events = filter_map step_of events
