-- Walks over a table that stays fixed are whole, in every run.
use Rattle.std.proofs.Common.{◌≡◌, ℕ, Bool, true, false, List, [], ◌∷◌, Option, None, Some, refl, sym, subst, ap, ◌∙◌}
use Rattle.std.specs.Prelude.{MatchOption}
use Rattle.std.specs.List.{AllByRecursion}
use Rattle.std.specs.Map.{keys_of}
use Rattle.std.specs.Option.{option_map_or}
use Rattle.ets_term.specs.declared.term.Term.{Term}
use Rattle.bucket_table.specs.Slots.{Slot}
use Rattle.bucket_table.specs.Rows.{HasDistinctKeys}
use Rattle.table_ops.specs.Content.{is_present}
use Rattle.fixed_walk.specs.Fixes.{is_fixed}
use Rattle.fixed_walk.specs.laws.Kept.{IsSubsequence}
use Rattle.fixed_walk.specs.laws.Walks.{MomentsKeepKeys, IsWalk}
use Rattle.fixed_walk.proofs.Subsequences.{sub-same, sub-further}
use Rattle.fixed_walk.proofs.WalkLaws.{whole}
use Rattle.ownership.specs.World.{Table, table_at}
use Rattle.node_core.specs.declared.step.Reply.{Reply}
use Rattle.node_core.specs.declared.step.Step.{Step}
use Rattle.node_core.specs.State.{State}
use Rattle.node_core.specs.Machine.{step, run}
use Rattle.node_core.specs.rules.Walking.{key_reply}
use Rattle.node_core.specs.laws.Kept.{slots_in, is_fixed_in, StepsKeepKeys}
use Rattle.node_core.specs.laws.Reached.{HasNoEnd, IsSound}
use Rattle.node_core.specs.laws.Walk.{states, walk_step, IsKey, Answers, Walks, HasSoundKeys, SoundStatesHaveSoundKeys, TableWalksAreWhole}
use Rattle.fixed_walk.proofs.ChangeLaws.{is_end}
use Rattle.node_core.proofs.moves.Reached.{distinct-none}
use Rattle.node_core.proofs.buckets.Observable.{stays-there}
use Rattle.node_core.proofs.calls.EachCall.{step-follows}
use Rattle.node_core.proofs.walks.WalkCalls.{Replies, next_key-free, step-replies, tells-end, tells-key}

-- a table that is there and fixed
record IsThere (t : ℕ) (s : State) : Type 0 where
  table : Table
  at : table_at s.world.tables t ≡ Some table
  fixed : is_fixed table.state.fixes ≡ true

there_at : (t : ℕ) (s : State) (o : Option Table) → table_at s.world.tables t ≡ o → option_map_or (λ table. is_fixed table.state.fixes) o false ≡ true → IsThere t s
there_at t s None at fixed = cc
there_at t s (Some table) at fixed = record { table = table; at = at; fixed = fixed }

there : (t : ℕ) (s : State) → is_fixed_in t s ≡ true → IsThere t s
there t s fixed = there_at t s (table_at s.world.tables t) refl fixed

own_slots : (t : ℕ) (s : State) (table : Table) → table_at s.world.tables t ≡ Some table → table.state.content.slots ≡ slots_in t s
own_slots t s table at = sym (ap (λ o. option_map_or (λ table. table.state.content.slots) o []) at)

-- the keys of a table that is fixed before and after a step
pub ground : StepsKeepKeys
ground old new s r t h before after =
    let was = there t old before in
    let now = there t new after in
    let stays = stays-there old new (step-follows old new s r h) t was.table now.table was.at now.at in
    subst (λ (ss : List Slot). IsSubsequence (keys_of ss) (keys_of (slots_in t new))) (own_slots t old was.table was.at) (
    subst (λ (ss : List Slot). IsSubsequence (keys_of was.table.state.content.slots) (keys_of ss)) (own_slots t new now.table now.at) (
    stays.fixed.keys.order was.fixed now.fixed))

-- what holds of each state of a run holds of the one before it
first_state : (P : State → Type 0) (old : State) (steps : List Step) (replies : List Reply) (new : State) (done : run old steps replies new) → AllByRecursion P (states old steps replies new done) → P old
first_state P old [] [] new done all = all.0
first_state P old (s ∷ steps) (r ∷ replies) new done all = all.0
first_state P old [] (r ∷ replies) new done all = absurd done
first_state P old (s ∷ steps) [] new done all = absurd done

-- one moment more, before the others
sooner : (now next : List Slot) (moments : List (List Slot)) → HasDistinctKeys now → IsSubsequence (keys_of now) (keys_of next) → MomentsKeepKeys (next ∷ moments) → MomentsKeepKeys (now ∷ moments)
sooner now next [] distinct sub kept = distinct
sooner now next (m ∷ moments) distinct sub kept = (distinct, sub-further (keys_of now) (keys_of next) (keys_of m) sub kept.1, kept.2)

-- the slots at the calls of a walk in a run
record Walked (p t : ℕ) (call : Option Term) (keys : List Term) (old : State) (stretch : List State) : Type 0 where
  moments : List (List Slot)
  kept : MomentsKeepKeys (slots_in t old ∷ moments)
  walk : IsWalk call moments keys
  free : AllByRecursion HasNoEnd moments
  present : (key : Term) → AllByRecursion (λ s. is_present (slots_in t s) key ≡ true) stretch → AllByRecursion (λ slots. is_present slots key ≡ true) moments

-- the key of the following call of next has a slot at some moment
next_key-present : (key : Term) (moments : List (List Slot)) (keys : List Term) → IsWalk (Some key) moments keys → AllByRecursion HasNoEnd moments → is_end key ≡ false
next_key-present key [] keys walk free = absurd walk
next_key-present key (m ∷ moments) [] walk free = next_key-free m key None free.0 walk.0
next_key-present key (m ∷ moments) (k ∷ keys) walk free = next_key-free m key (Some k) free.0 walk.0

module _ (p t : ℕ) (old mid : State) (s : Step) (r : Reply) (steps : List Step) (stretch : List State) (done : step old s r mid) (distinct : HasDistinctKeys (slots_in t old)) (free : HasNoEnd (slots_in t old))
    (is : IsThere t old) (sub : IsSubsequence (keys_of (slots_in t old)) (keys_of (slots_in t mid))) (Further : Option Term → List Term → Type 0)
    (further : (call : Option Term) (keys : List Term) → Further call keys → Walked p t call keys mid stretch) where
  -- the step is not a call of the walk
  passes : (call : Option Term) (keys : List Term) → Walked p t call keys mid stretch → Walked p t call keys old (old ∷ stretch)
  passes call keys w = record {
    moments = w.moments;
    kept = sooner (slots_in t old) (slots_in t mid) w.moments distinct sub w.kept;
    walk = w.walk;
    free = w.free;
    present = λ key all. w.present key all.1;
  }

  replies : (call : Option Term) (objects : Bool) → walk_step old p t s ≡ Some (call, objects) → Replies objects call (slots_in t old) r
  replies call objects e = subst (λ (ss : List Slot). Replies objects call ss r) (own_slots t old is.table is.at) (step-replies old mid p t s r is.table call objects is.at e done)

  -- it is the last
  ends : (call : Option Term) (objects : Bool) → walk_step old p t s ≡ Some (call, objects) → r ≡ key_reply None → Walked p t call [] old (old ∷ stretch)
  ends call objects e last = record {
    moments = slots_in t old ∷ [];
    kept = (distinct, sub-same (keys_of (slots_in t old)), distinct);
    walk = (tells-end objects call (slots_in t old) r free (replies call objects e) last, refl);
    free = (free, tt);
    present = λ key all. (all.0, tt);
  }

  -- it is one that answers a key
  answers : (call : Option Term) (objects : Bool) (key : Term) (keys : List Term) → walk_step old p t s ≡ Some (call, objects) → IsKey objects key r → Walked p t (Some key) keys mid stretch → Walked p t call (key ∷ keys) old (old ∷ stretch)
  answers call objects key keys e replied w = record {
    moments = slots_in t old ∷ w.moments;
    kept = (distinct, sub-same (keys_of (slots_in t old)), sooner (slots_in t old) (slots_in t mid) w.moments distinct sub w.kept);
    walk = (tells-key objects call (slots_in t old) r key (next_key-present key w.moments keys w.walk w.free) (replies call objects e) replied, w.walk);
    free = (free, w.free);
    present = λ k all. (all.0, w.present k all.1);
  }

  answered : (call : Option Term) (objects : Bool) (keys : List Term) → walk_step old p t s ≡ Some (call, objects) → Answers objects r steps keys (λ key keys. Further (Some key) keys) → Walked p t call keys old (old ∷ stretch)
  answered call objects [] e w = ends call objects e w.0
  answered call objects (key ∷ keys) e w = answers call objects key keys e w.0 (further (Some key) keys w.1)

  walked_at : (call : Option Term) (keys : List Term) (o : Option (Option Term × Bool)) → walk_step old p t s ≡ o
      → MatchOption o (Further call keys) (λ asked. (asked.0 ≡ call) × Answers asked.1 r steps keys (λ key keys. Further (Some key) keys)) → Walked p t call keys old (old ∷ stretch)
  walked_at call keys None e w = passes call keys (further call keys w)
  walked_at call keys (Some asked) e w = answered call asked.1 keys (e ∙ (λ i. Some (w.0 i, asked.1))) w.1

-- the keys of the table stay sound while it is fixed
sound-kept : (old new : State) (s : Step) (r : Reply) (t : ℕ) → step old s r new → is_fixed_in t old ≡ true → is_fixed_in t new ≡ true → HasSoundKeys t old → HasSoundKeys t new
sound-kept old new s r t h before after sound =
    let was = there t old before in
    let now = there t new after in
    let stays = stays-there old new (step-follows old new s r h) t was.table now.table was.at now.at in
    let back = sym (own_slots t old was.table was.at) in
    let on = own_slots t new now.table now.at in
    (subst HasDistinctKeys on (stays.fixed.keys.distinct (subst HasDistinctKeys back sound.0)), subst HasNoEnd on (stays.fixed.ends (subst HasNoEnd back sound.1)))

abbrev slots_of : Option Table → List Slot
slots_of o = option_map_or (λ table. table.state.content.slots) o []

sound-at : (s : State) (t : ℕ) (o : Option Table) → table_at s.world.tables t ≡ o → IsSound s → HasDistinctKeys (slots_of o) × HasNoEnd (slots_of o)
sound-at s t None at sound = (distinct-none, tt)
sound-at s t (Some table) at sound = (sound.keys t table at, sound.ends t table at)

pub sound-keys : SoundStatesHaveSoundKeys
sound-keys s t sound = sound-at s t (table_at s.world.tables t) refl sound

walked : (p t : ℕ) (call : Option Term) (keys : List Term) (old : State) (steps : List Step) (replies : List Reply) (new : State) (done : run old steps replies new) → HasSoundKeys t old
    → AllByRecursion (λ s. is_fixed_in t s ≡ true) (states old steps replies new done) → Walks p t call keys old steps replies new done → Walked p t call keys old (states old steps replies new done)
walked p t call keys old [] [] new done sound fixed w = absurd w
walked p t call keys old [] (r ∷ replies) new done sound fixed w = absurd w
walked p t call keys old (s ∷ steps) [] new done sound fixed w = absurd w
walked p t call keys old (s ∷ steps) (r ∷ replies) new done sound fixed w =
    let is = there t old fixed.0 in
    let after = first_state (λ s. is_fixed_in t s ≡ true) done.0 steps replies new done.2 fixed.1 in
    walked_at p t old done.0 s r steps (states done.0 steps replies new done.2) done.1 sound.0 sound.1 is (ground old done.0 s r t done.1 fixed.0 after)
    (λ call keys. Walks p t call keys done.0 steps replies new done.2)
    (λ call keys w. walked p t call keys done.0 steps replies new done.2 (sound-kept old done.0 s r t done.1 fixed.0 after sound) fixed.1 w)
    call keys (walk_step old p t s) refl w

later : (now : List Slot) (moments : List (List Slot)) (call : Option Term) (keys : List Term) → IsWalk call moments keys → MomentsKeepKeys (now ∷ moments) → MomentsKeepKeys moments
later now [] call keys walk kept = absurd walk
later now (m ∷ moments) call keys walk kept = kept.2

pub walks-whole : TableWalksAreWhole
walks-whole old steps replies new done p t keys sound fixed w =
    let walk = walked p t None keys old steps replies new done sound fixed w in
    let is = whole walk.moments keys (later (slots_in t old) walk.moments None keys walk.walk walk.kept) walk.walk in
    record { once = is.once; all = λ key all. is.all key (walk.present key all) }
