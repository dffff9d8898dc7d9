-- Runs of parts are runs of the whole: by one event, and by all.
use Rattle.std.proofs.Common.{◌≡◌, ◌≢◌, ◌⊎◌, inl, inr, ℕ, zero, suc, ◌+◌, ◌<◌, ◌==◌, Bool, true, false, List, [], ◌∷◌, length, map, MatchBool, MatchOption, Option, None, Some, IsSomeAnd, refl, sym, ap, subst, ◌∙◌, arith}
use Rattle.std.specs.Prelude.{slice_get, slice_set}
use Rattle.std.specs.List.{AllByRecursion, AllZip, cons_option, each_same, enumerate_from, flat_map, reduce, sum_by}
use Rattle.std.specs.Map.{keys_of, values_of}
use Rattle.std.proofs.lemmas.Bool.Decides.{nat_tests}
use Rattle.std.proofs.lemmas.List.{length-map}
use Rattle.std.proofs.lemmas.List.Sums.{sum_by-cons}
use Rattle.ets_term.specs.declared.term.Term.{Term}
use Rattle.bucket_table.specs.Slots.{object_count}
use Rattle.ownership.specs.World.{resolve}
use Rattle.node_core.specs.declared.call_name.CallName.{CallName}
use Rattle.node_core.specs.declared.step.Call.{Call}
use Rattle.node_core.specs.declared.step.Reply.{Reply}
use Rattle.node_core.specs.declared.step.Reply.TheVariants.{SystemLimit}
use Rattle.node_core.specs.declared.step.Step.{Step}
use Rattle.node_core.specs.declared.step.Step.TheVariants.{Ask}
use Rattle.node_core.specs.State.{State, empty}
use Rattle.node_core.specs.CallName.{call_name}
use Rattle.node_core.specs.Machine.{step, run}
use Rattle.node_core.specs.Reads.{is_read}
use Rattle.node_core.specs.laws.Kept.{slots_in}
use Rattle.node_core.proofs.determined.Laws.{nothing-changed}
use Rattle.node_parts.specs.Events.{Event, made, made_by_all, made_by_each, refused, moved, step_of, IsEventOf, is_of, Does, PartsGo, steps_of}
use Rattle.node_parts.specs.ForAll.{is_for_all}
use Rattle.node_parts.specs.Joined.{is_on_all_objects, join}
use Rattle.node_parts.specs.Keyed.{keyed, HasKeysOfPart, IsOnPart, HasRoomOfTable, HasAllRoomFor, HasNoRoomFor}
use Rattle.node_parts.specs.Laws.{RunsOfPartsAreRuns, RunsOfEmptyPartsAreRuns, PartsGoOn, CallsTakeOnePartOn, EventsTakePartsOn}
use Rattle.node_parts.specs.Parts.{limit_in, HasAllRoom, ArePartsOf, ShareAllRoom, empty_part}
use Rattle.node_parts.proofs.Around.{count-around, count-parts}
use Rattle.node_parts.proofs.Calls.{Merges, step-follows, step-agrees}
use Rattle.node_parts.proofs.Empties.{empties-are-parts, empties-share}
use Rattle.node_parts.proofs.ForAll.{all-follow}
use Rattle.node_parts.proofs.ForAllSteps.{step-for-all}
use Rattle.node_parts.proofs.Counted.{step-counted}
use Rattle.node_parts.proofs.Lists.{sum-around}
use Rattle.node_parts.proofs.Merged.{set-same}
use Rattle.node_parts.proofs.Moves.{is-itself, moved-parts, moved-shares}
use Rattle.node_parts.proofs.Places.{GoesByOne, between, no-events, same-length, at-place, at-each-place, each-does, one-does, by-first, then-more, by-this-event, one-changes}
use Rattle.node_parts.proofs.Whole.{IsAt, resolve-same, opened, own, front, back, whole-slots}

-- ---- one event
-- the whole after an event, with these parts
record Next (part_of : ℕ → Term → ℕ) (whole : State) (event : Event) (news : List State) : Type 0 where
  next : State
  does : MatchOption (step_of event) (next ≡ whole) (λ d. step whole d.0 d.1 next)
  are : ArePartsOf part_of news next
  share : ShareAllRoom news next

-- a part has no room left in the table that a term names
abbrev HasNoRoomOfTable : State → Term × (ℕ → List Term) → Type 0
HasNoRoomOfTable part called =
    (t : ℕ) → resolve part.world.tables called.0 ≡ Some t → object_count (slots_in t part) ≡ limit_in t part

-- ---- a part has all the room that is left if no other part has any
full-parts : (t : ℕ) (parts : List State) → AllByRecursion (λ s. object_count (slots_in t s) ≡ limit_in t s) parts → object_count (flat_map (slots_in t) parts) ≡ sum_by (limit_in t) parts
full-parts t [] h = refl
full-parts t (s ∷ parts) h =
    let rest = full-parts t parts h.1 in
    let full = h.0 in
    omega (arith, count-parts (slots_in t s) (flat_map (slots_in t) parts), rest, full, sum_by-cons (limit_in t) s parts)

module _ {part_of : ℕ → Term → ℕ} {parts : List State} {whole : State} {k : ℕ} {part : State} (are : ArePartsOf part_of parts whole) (share : ShareAllRoom parts whole) (at : IsAt parts k part) where
  room-in : (t : ℕ) → ((j : ℕ) (other : State) → (j ≡ k → ⊥) → slice_get parts j ≡ Some other → object_count (slots_in t other) ≡ limit_in t other) → HasAllRoom t whole part
  room-in t full =
      let split = opened are at in
      let others = split.others (λ (s : State). object_count (slots_in t s) ≡ limit_in t s) full in
      let before = full-parts t split.before others.0 in
      let after = full-parts t split.after others.1 in
      let count : object_count (slots_in t whole) ≡ object_count (front are at t) + (object_count (slots_in t part) + object_count (back are at t)) =
      ap object_count (whole-slots are at t) ∙ count-around (front are at t) (back are at t) (slots_in t part) in
      let sum : sum_by (limit_in t) parts ≡ sum_by (limit_in t) split.before + (limit_in t part + sum_by (limit_in t) split.after) =
      ap (sum_by (limit_in t)) split.is ∙ sum-around (limit_in t) split.before split.after part in
      let all = share.tables t in
      omega (arith, before, after, count, sum, all)

  module _ (K : Term × (ℕ → List Term) → Type 0) where
    -- it holds of each other part
    abbrev OfOthers : (State → Type 0) → Type 0
    OfOthers P = (j : ℕ) (other : State) → (j ≡ k → ⊥) → slice_get parts j ≡ Some other → P other

    room-of-table : (called : Term × (ℕ → List Term)) → OfOthers (λ other. HasNoRoomOfTable other called) → HasRoomOfTable whole part called
    room-of-table called full =
        λ t named. room-in t (λ j other apart there.
        full j other apart there t (resolve-same part other ((own are at).same ∙ sym (are.each j other there).same) called.0 ∙ named))

    room-by-keys : (u : Option (Term × (ℕ → List Term))) → IsSomeAnd u K → OfOthers (λ other. IsSomeAnd u (HasNoRoomOfTable other)) → IsSomeAnd u (HasRoomOfTable whole part)
    room-by-keys None keys full = absurd keys
    room-by-keys (Some called) keys full = room-of-table called full

    room-by-name : (args : List Term) (o : Option CallName) → IsSomeAnd o (λ n. IsSomeAnd (keyed n args) K) → OfOthers (λ other. IsSomeAnd o (λ n. IsSomeAnd (keyed n args) (HasNoRoomOfTable other)))
        → IsSomeAnd o (λ n. IsSomeAnd (keyed n args) (HasRoomOfTable whole part))
    room-by-name args None keys full = absurd keys
    room-by-name args (Some n) keys full = room-by-keys (keyed n args) keys full

-- ---- places
some-at : (parts : List State) (k : ℕ) → k < length parts → (part : State) × (slice_get parts k ≡ Some part)
some-at [] k within = absurd (omega (arith, within))
some-at (part ∷ parts) zero within = (part, refl)
some-at (part ∷ parts) (suc k) within = some-at parts k (omega (arith, within))

-- what each part makes, as one list
record Zipped (R : State → Reply → State → Type 0) (parts : List State) (replies : List Reply) (news : List State) : Type 0 where
  pairs : List (Reply × State)
  keys : keys_of pairs ≡ replies
  values : values_of pairs ≡ news
  all : AllZip (λ part m. R part m.0 m.1) parts pairs

zip-of : (R : State → Reply → State → Type 0) (parts : List State) (replies : List Reply) (news : List State) → length replies ≡ length parts → length news ≡ length parts
    → ((k : ℕ) (part : State) → slice_get parts k ≡ Some part → (new : State) × (slice_get news k ≡ Some new) × IsSomeAnd (slice_get replies k) (λ own. R part own new)) → Zipped R parts replies news
zip-of R [] [] [] e f h = record { pairs = []; keys = refl; values = refl; all = tt }
zip-of R [] [] (new ∷ news) e f h = absurd (omega (arith, f))
zip-of R [] (reply ∷ replies) news e f h = absurd (omega (arith, e))
zip-of R (part ∷ parts) [] news e f h = absurd (omega (arith, e))
zip-of R (part ∷ parts) (reply ∷ replies) [] e f h = absurd (omega (arith, f))
zip-of R (part ∷ parts) (reply ∷ replies) (new ∷ news) e f h =
    let own = h 0 part refl in
    let is : new ≡ own.0 = let there = own.1 in cc in
    let rest = zip-of R parts replies news (omega (arith, e)) (omega (arith, f)) (λ k q at. h (suc k) q at) in
    record {
      pairs = (reply, new) ∷ rest.pairs;
      keys = ap (λ l. reply ∷ l) rest.keys;
      values = ap (λ l. new ∷ l) rest.values;
      all = (subst (λ (s : State). R part reply s) (sym is) own.2, rest.all);
    }

is-other : (i k : ℕ) → (k ≡ i → ⊥) → (i == k) ≡ false
is-other i k apart = by (i == k) refl
  where
    by : (b : Bool) → (i == k) ≡ b → (i == k) ≡ false
    by false e = e
    by true e = absurd (apart (grind (arith, nat_tests, e)))

itself : (k : ℕ) → (k == k) ≡ true
itself k = is-itself k k (k == k) refl refl

module _ (part_of : ℕ → Term → ℕ) where
  abbrev ByOne : Event → List State → List State → Type 0
  ByOne event parts news = AllZip (GoesByOne is_of (Does part_of) event) (enumerate_from 0 parts) news

  module _ (parts : List State) (whole : State) (are : ArePartsOf part_of parts whole) (share : ShareAllRoom parts whole) where
    made-next : (k p : ℕ) (asked : Call) (reply : Reply) (part new : State) → slice_get parts k ≡ Some part → Does part_of k part (made k p asked reply) new
        → Next part_of whole (made k p asked reply) (slice_set parts k new)
    made-next k p asked reply part new there h = by h.2
      where
        at : IsAt parts k part
        at = record { there = there }

        by-merged : (reply ≢ SystemLimit) → ((reply ≡ SystemLimit) × (HasAllRoomFor whole part asked → ⊥)) ⊎ Merges are at (step whole (Ask p asked)) reply new
            → Next part_of whole (made k p asked reply) (slice_set parts k new)
        by-merged apart (inl limit) = absurd (apart limit.0)
        by-merged apart (inr merged) = record { next = merged.0; does = merged.1; are = merged.2; share = merged.3 share }

        by : (reply ≢ SystemLimit) ⊎ (is_read asked ≡ true) → Next part_of whole (made k p asked reply) (slice_set parts k new)
        by (inl apart) = by-merged apart ((step-follows are at p asked h.1).does reply new h.0)
        by (inr only) =
            let both = (step-agrees are at p asked h.1 only).does reply new h.0 in
            let same : parts ≡ slice_set parts k new = sym (ap (slice_set parts k) both.0 ∙ set-same parts k part there) in
            record { next = whole; does = both.1; are = subst (λ (l : List State). ArePartsOf part_of l whole) same are; share = subst (λ (l : List State). ShareAllRoom l whole) same share }

    all-next : (s : Step) (reply : Reply) (news : List State) → 0 < length parts → is_for_all s ≡ true → ByOne (made_by_all s reply) parts news → Next part_of whole (made_by_all s reply) news
    all-next s reply news some for_all h =
        let steps = each-does is_of (Does part_of) (made_by_all s reply) (λ k. refl) (λ old new. step old s reply new) (λ k old new d. d) 0 parts news h in
        let none : parts ≢ [] = λ e. let empty : length parts ≡ 0 = ap (λ (l : List State). length l) e in absurd (omega (arith, empty, some)) in
        let done = all-follow (λ v. step v s) whole (step-for-all whole s for_all) part_of parts news reply are none steps in
        record { next = done.0; does = done.1; are = done.2; share = done.3 share }

    each-next : (p : ℕ) (asked : Call) (replies : List Reply) (reply : Reply) (news : List State) → length replies ≡ length parts → is_on_all_objects asked ≡ true → reduce join replies ≡ Some reply
        → ByOne (made_by_each p asked replies reply) parts news → Next part_of whole (made_by_each p asked replies reply) news
    each-next p asked replies reply news count on_all joined h =
        let its = zip-of (λ part own new. step part (Ask p asked) own new) parts replies news count (same-length is_of (Does part_of) (GoesByOne is_of (Does part_of) (made_by_each p asked replies reply)) 0 parts news h) (λ k part there.
        at-place is_of (Does part_of) (GoesByOne is_of (Does part_of) (made_by_each p asked replies reply)) k k 0 parts news part (omega arith) there h) in
        let done = (step-counted are p asked on_all).does its.pairs reply its.all (ap (reduce join) its.keys ∙ joined) in
        record {
          next = done.0;
          does = done.1;
          are = subst (λ (l : List State). ArePartsOf part_of l done.0) its.values done.2;
          share = subst (λ (l : List State). ShareAllRoom l done.0) its.values (done.3 share);
        }

    module _ (k p : ℕ) (asked : Call) (news : List State) (h : ByOne (refused k p asked) parts news) where
      abbrev Refuses : Bool → ℕ → State → State → Type 0
      Refuses own j old new =
          MatchBool own (step old (Ask p asked) SystemLimit new × IsOnPart part_of j old asked) ((new ≡ old) × HasNoRoomFor old asked)

      unchanged : (own : Bool) (j : ℕ) (old new : State) → Refuses own j old new → new ≡ old
      unchanged true j old new h = nothing-changed old new (Ask p asked) SystemLimit h.0 refl
      unchanged false j old new h = h.0

      all-unchanged : news ≡ parts
      all-unchanged =
          each_same parts news
          (each-does is_of (Does part_of) (refused k p asked) (λ j. refl) (λ old new. new ≡ old) (λ j old new d. unchanged (k == j) j old new d) 0 parts news h)

      refuses : (j : ℕ) (old : State) → slice_get parts j ≡ Some old → (new : State) × Refuses (k == j) j old new
      refuses j old there =
          let one = at-place is_of (Does part_of) (GoesByOne is_of (Does part_of) (refused k p asked)) j j 0 parts news old (omega arith) there h in
          (one.0, one.2)

      refused-next : k < length parts → Next part_of whole (refused k p asked) news
      refused-next within = by ((step-follows are at p asked it.1).does SystemLimit one.0 it.0)
        where
          part : State
          part = (some-at parts k within).0

          at : IsAt parts k part
          at = record { there = (some-at parts k within).1 }

          one : (new : State) × Refuses (k == k) k part new
          one = refuses k part at.there

          it : step part (Ask p asked) SystemLimit one.0 × IsOnPart part_of k part asked
          it = subst (λ (b : Bool). Refuses b k part one.0) (itself k) one.1

          full : (j : ℕ) (other : State) → (j ≡ k → ⊥) → slice_get parts j ≡ Some other → HasNoRoomFor other asked
          full j other apart there =
              let its = refuses j other there in
              (subst (λ (b : Bool). Refuses b j other its.0) (is-other k j apart) its.1).1

          room : HasAllRoomFor whole part asked
          room = room-by-name are share at (HasKeysOfPart part_of k part) asked.args (call_name asked.name) it.1 full

          same : slice_set parts k one.0 ≡ news
          same = ap (slice_set parts k) (unchanged true k part one.0 it) ∙ (set-same parts k part at.there ∙ sym all-unchanged)

          by : ((SystemLimit ≡ SystemLimit) × (HasAllRoomFor whole part asked → ⊥)) ⊎ Merges are at (step whole (Ask p asked)) SystemLimit one.0 → Next part_of whole (refused k p asked) news
          by (inl limit) = absurd (limit.1 room)
          by (inr merged) = record { next = merged.0; does = merged.1; are = subst (λ (l : List State). ArePartsOf part_of l merged.0) same merged.2; share = subst (λ (l : List State). ShareAllRoom l merged.0) same (merged.3 share) }

    next-of : (event : Event) (news : List State) → IsEventOf (length parts) event → ByOne event parts news → Next part_of whole event news
    next-of (made k p asked reply) news within h =
        let one = one-does is_of (Does part_of) (made k p asked reply) k k 0 parts news (omega arith) within (itself k) (λ j apart. is-other k j apart) h in
        subst (λ (l : List State). Next part_of whole (made k p asked reply) l) (sym one.written) (made-next k p asked reply one.old one.new one.there one.does)
    next-of (made_by_all s reply) news within h = all-next s reply news within.0 within.1 h
    next-of (made_by_each p asked replies reply) news within h = each-next p asked replies reply news within.0 within.1 within.2 h
    next-of (refused k p asked) news within h = refused-next k p asked news h within
    next-of (moved t from to n) news within h = record {
      next = whole;
      does = refl;
      are = moved-parts part_of t from to n within.2 parts news whole are share within.0 within.1 h;
      share = moved-shares part_of t from to n within.2 parts news whole are share within.0 within.1 h;
    }

  -- ---- all events
  run-on : (o : Option (Step × Reply)) (steps : List (Step × Reply)) (whole next last : State) → MatchOption o (next ≡ whole) (λ d. step whole d.0 d.1 next)
      → run next (keys_of steps) (values_of steps) last → run whole (keys_of (cons_option o steps)) (values_of (cons_option o steps)) last
  run-on None steps whole next last h rest = subst (λ (s : State). run s (keys_of steps) (values_of steps) last) h rest
  run-on (Some d) steps whole next last h rest = (next, h, rest)

  follow : (events : List Event) (parts news : List State) (whole : State) → ArePartsOf part_of parts whole → ShareAllRoom parts whole → AllByRecursion (IsEventOf (length parts)) events → PartsGo part_of parts events news
      → (next : State) × run whole (keys_of (steps_of events)) (values_of (steps_of events)) next × ArePartsOf part_of news next × ShareAllRoom news next
  follow [] parts news whole are share among h =
      let same = sym (no-events is_of (Does part_of) 0 parts news h) in
      (whole, refl, subst (λ (l : List State). ArePartsOf part_of l whole) same are, subst (λ (l : List State). ShareAllRoom l whole) same share)
  follow (event ∷ events) parts news whole are share among h =
      let b = between is_of (Does part_of) event events 0 parts news h in
      let one = next-of parts whole are share event b.mids among.0 b.first in
      let length = sym (same-length is_of (Does part_of) (GoesByOne is_of (Does part_of) event) 0 parts b.mids b.first) in
      let rest = follow events b.mids news one.next one.are one.share (subst (λ (m : ℕ). AllByRecursion (IsEventOf m) events) length among.1) b.rest in
      (rest.0, run-on (step_of event) (steps_of events) whole one.next rest.0 one.does rest.1, rest.2, rest.3)

pub runs-are-runs : RunsOfPartsAreRuns
runs-are-runs part_of parts news whole events are share among h = follow part_of events parts news whole are share among h

pub empty-runs-are-runs : RunsOfEmptyPartsAreRuns
empty-runs-are-runs part_of limits rooms news events all among h =
    let count : length (map (empty_part limits) rooms) ≡ length rooms = length-map rooms (empty_part limits) in
    let done = follow part_of events (map (empty_part limits) rooms) news (empty limits)
    (empties-are-parts part_of limits rooms (omega (arith, all))) (empties-share limits rooms all)
    (subst (λ (m : ℕ). AllByRecursion (IsEventOf m) events) (sym count) among) h in
    (done.0, done.1, done.2)

pub parts-go-on : PartsGoOn
parts-go-on part_of parts news events more =
    (by-first is_of (Does part_of) events more 0 parts news, λ h. then-more is_of (Does part_of) events more 0 parts h.0 news h.1 h.2)

pub call-takes-on : CallsTakeOnePartOn
call-takes-on part_of parts k part new p asked reply there h =
    by-this-event is_of (Does part_of) (made k p asked reply) 0 parts (slice_set parts k new)
    (one-changes is_of (Does part_of) (made k p asked reply) k k 0 parts part new (omega arith) there (itself k) (λ j of. grind (arith, nat_tests, of)) h)

pub event-takes-on : EventsTakePartsOn
event-takes-on part_of parts news event count h =
    by-this-event is_of (Does part_of) event 0 parts news
    (at-each-place is_of (Does part_of) (GoesByOne is_of (Does part_of) event) 0 parts news count (λ k part new there now.
    let place : k ≡ 0 + k = omega arith in
    subst (λ (j : ℕ). GoesByOne is_of (Does part_of) event (j, part) new) place (h k part new there now)))
