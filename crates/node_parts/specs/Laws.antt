-- What holds of the parts of a state: which steps on one part, or on each, are steps of the whole.
use Rattle.std.specs.Prelude.{◌≡◌, ◌≢◌, ◌⊎◌, ◌↔◌, ℕ, ◌≤◌, true, List, [], ◌∷◌, ◌++◌, Some, length, map, slice_get, slice_set}
use Rattle.std.specs.Bool.{MatchBool}
use Rattle.std.specs.List.{AllByRecursion, AllZip, reduce, sum}
use Rattle.std.specs.Map.{keys_of, values_of}
use Rattle.ets_term.specs.declared.term.Term.{Term}
use Rattle.bucket_table.specs.Slots.{object_count}
use Rattle.node_core.specs.declared.step.Call.{Call}
use Rattle.node_core.specs.declared.step.Step.{Step}
use Rattle.node_core.specs.declared.step.Step.TheVariants.{Ask}
use Rattle.node_core.specs.declared.step.Reply.{Reply}
use Rattle.node_core.specs.declared.step.Reply.TheVariants.{SystemLimit}
use Rattle.node_core.specs.declared.limits.Limits.{Limits}
use Rattle.node_core.specs.State.{State, empty}
use Rattle.node_core.specs.Machine.{step, run}
use Rattle.node_core.specs.laws.Kept.{slots_in}
use Rattle.node_core.specs.Reads.{is_read}
use Rattle.node_parts.specs.ForAll.{is_for_all}
use Rattle.node_parts.specs.Parts.{ArePartsOf, ShareAllRoom, empty_part, limit_in}
use Rattle.node_parts.specs.Room.{with_limits}
use Rattle.node_parts.specs.Keyed.{IsOnPart, HasAllRoomFor}
use Rattle.node_parts.specs.Joined.{is_on_all_objects, join}
use Rattle.node_parts.specs.Events.{Event, made, IsEventOf, is_of, Does, PartsGo, steps_of}

-- A call on keys of part k alone is made on that part. Then the part refuses it by a limit, nothing changes, and the part
-- lacks room that the table has elsewhere. Or the whole may give the same reply, and the parts, with part k as it is now,
-- are those of the whole after it.
abbrev pub CallsOnPartsAreCalls : Type 0
CallsOnPartsAreCalls =
    (part_of : ℕ → Term → ℕ) (parts : List State) (whole : State) (k : ℕ) (part new : State) (p : ℕ) (asked : Call)
    (reply : Reply)
    → ArePartsOf part_of parts whole → slice_get parts k ≡ Some part → IsOnPart part_of k part asked
    → step part (Ask p asked) reply new
    → ((reply ≡ SystemLimit) × (new ≡ part) × (HasAllRoomFor whole part asked → ⊥))
    ⊎ ((next : State) × step whole (Ask p asked) reply next × ArePartsOf part_of (slice_set parts k new) next)

-- a read of keys of part k alone, made on that part, is a read of the whole, with the same reply, and nothing changes
abbrev pub ReadsOnPartsAreReads : Type 0
ReadsOnPartsAreReads =
    (part_of : ℕ → Term → ℕ) (parts : List State) (whole : State) (k : ℕ) (part new : State) (p : ℕ) (asked : Call)
    (reply : Reply)
    → ArePartsOf part_of parts whole → slice_get parts k ≡ Some part → IsOnPart part_of k part asked
    → is_read asked ≡ true → step part (Ask p asked) reply new
    → (new ≡ part) × step whole (Ask p asked) reply whole

-- Each part makes a call on all objects of a table. Then the replies, put together in the order of the parts, are a reply
-- that the whole may give, and the parts are then those of the whole after it.
abbrev pub CallsOnAllObjectsAreCalls : Type 0
CallsOnAllObjectsAreCalls =
    (part_of : ℕ → Term → ℕ) (parts : List State) (whole : State) (p : ℕ) (asked : Call) (made : List (Reply × State))
    (reply : Reply)
    → ArePartsOf part_of parts whole → is_on_all_objects asked ≡ true
    → AllZip (λ part made. step part (Ask p asked) made.0 made.1) parts made → reduce join (keys_of made) ≡ Some reply
    → (next : State) × step whole (Ask p asked) reply next × ArePartsOf part_of (values_of made) next

-- a step that each part makes, with this reply in each, is a step of the whole, and the parts are those of the whole after
-- it
abbrev pub StepsOnAllPartsAreSteps : Type 0
StepsOnAllPartsAreSteps =
    (part_of : ℕ → Term → ℕ) (parts news : List State) (whole : State) (s : Step) (reply : Reply)
    → ArePartsOf part_of parts whole → parts ≢ [] → is_for_all s ≡ true
    → AllZip (λ part new. step part s reply new) parts news
    → (next : State) × step whole s reply next × ArePartsOf part_of news next

-- two parts give the same reply to a step that each part makes
abbrev pub PartsReplyAlike : Type 0
PartsReplyAlike =
    (part_of : ℕ → Term → ℕ) (parts : List State) (whole : State) (s : Step) (k j : ℕ) (part other : State)
    (r q : Reply) (new next : State)
    → ArePartsOf part_of parts whole → slice_get parts k ≡ Some part → slice_get parts j ≡ Some other
    → is_for_all s ≡ true → step part s r new → step other s q next → r ≡ q

-- empty states with these limits of objects, which add up to at most that of the whole, are the parts of the empty state
abbrev pub EmptyStatesAreParts : Type 0
EmptyStatesAreParts =
    (part_of : ℕ → Term → ℕ) (limits : Limits) (rooms : List ℕ) → sum rooms ≤ limits.objects
    → ArePartsOf part_of (map (empty_part limits) rooms) (empty limits)

-- The parts stay those of the whole if each gets another limit of the objects of one table, if none has more objects, and
-- if these limits add up to at most that of the whole.
abbrev pub MovedRoomKeepsParts : Type 0
MovedRoomKeepsParts =
    (part_of : ℕ → Term → ℕ) (parts : List State) (whole : State) (t : ℕ) (rooms : List ℕ)
    → ArePartsOf part_of parts whole → AllZip (λ room part. object_count (slots_in t part) ≤ room) rooms parts
    → sum rooms ≤ limit_in t whole
    → ArePartsOf part_of (with_limits t rooms parts) whole

-- Let parts that share all room go by events, each by its own. Then the steps of the events, in their order and with
-- their replies, are a run of the whole, and the parts are then those of the whole after it.
abbrev pub RunsOfPartsAreRuns : Type 0
RunsOfPartsAreRuns =
    (part_of : ℕ → Term → ℕ) (parts news : List State) (whole : State) (events : List Event)
    → ArePartsOf part_of parts whole → ShareAllRoom parts whole → AllByRecursion (IsEventOf (length parts)) events
    → PartsGo part_of parts events news
    → (next : State) × run whole (keys_of (steps_of events)) (values_of (steps_of events)) next
    × ArePartsOf part_of news next × ShareAllRoom news next

-- the same from empty parts, which share the limit of objects: then the run is one of the empty whole
abbrev pub RunsOfEmptyPartsAreRuns : Type 0
RunsOfEmptyPartsAreRuns =
    (part_of : ℕ → Term → ℕ) (limits : Limits) (rooms : List ℕ) (news : List State) (events : List Event)
    → sum rooms ≡ limits.objects → AllByRecursion (IsEventOf (length rooms)) events
    → PartsGo part_of (map (empty_part limits) rooms) events news
    → (next : State) × run (empty limits) (keys_of (steps_of events)) (values_of (steps_of events)) next
    × ArePartsOf part_of news next

-- parts go by events and then by more just if they go by all of them
abbrev pub PartsGoOn : Type 0
PartsGoOn =
    (part_of : ℕ → Term → ℕ) (parts news : List State) (events more : List Event)
    → PartsGo part_of parts (events ++ more) news
    ↔ ((mids : List State) × PartsGo part_of parts events mids × PartsGo part_of mids more news)

-- a call on part k takes that part on, and the others stay as they are
abbrev pub CallsTakeOnePartOn : Type 0
CallsTakeOnePartOn =
    (part_of : ℕ → Term → ℕ) (parts : List State) (k : ℕ) (part new : State) (p : ℕ) (asked : Call) (reply : Reply)
    → slice_get parts k ≡ Some part → Does part_of k part (made k p asked reply) new
    → PartsGo part_of parts (made k p asked reply ∷ []) (slice_set parts k new)

-- an event takes on the parts whose event it is, and the others stay as they are
abbrev pub EventsTakePartsOn : Type 0
EventsTakePartsOn =
    (part_of : ℕ → Term → ℕ) (parts news : List State) (event : Event) → length news ≡ length parts
    → ((k : ℕ) (part new : State) → slice_get parts k ≡ Some part → slice_get news k ≡ Some new
    → MatchBool (is_of k event) (Does part_of k part event new) (new ≡ part))
    → PartsGo part_of parts (event ∷ []) news
