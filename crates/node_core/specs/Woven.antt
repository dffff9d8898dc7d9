-- A traversal of a table, with steps of other processes between its calls (stdlib manual, module ets, safe_fixtable/2,
-- first/1 and next/2). It is one run of a node.
use Rattle.std.specs.Prelude.{◌≡◌, ◌≤◌, ◌<◌, ◌⊎◌, ℕ, suc, ◌==◌, ◌&&◌, Bool, true, false, if◌then◌else◌, List, [], ◌∷◌, ◌++◌, map, filter, length, None, Result, Ok, Err, MatchOption, codes}
use Rattle.std.specs.Bool.{MatchBool}
use Rattle.std.specs.List.{AllByRecursion, Contains}
use Rattle.std.specs.Option.{option_map_or}
use Rattle.ets_term.specs.declared.term.Term.{Term}
use Rattle.ets_term.specs.declared.term.Term.TheVariants.{Atom, Tid}
use Rattle.ets_term.specs.Atoms.{is_atom}
use Rattle.fixed_walk.specs.Fixes.{max_fixes, fix_count}
use Rattle.ownership.specs.Access.{may_read}
use Rattle.ownership.specs.Lookups.{has_access}
use Rattle.ownership.specs.World.{table_at, resolve, lives}
use Rattle.node_core.specs.declared.step.Step.{Step}
use Rattle.node_core.specs.declared.step.Step.TheVariants.{Enrol, End, Ask, Grow, Ready}
use Rattle.node_core.specs.declared.step.Reply.{Reply}
use Rattle.node_core.specs.declared.step.Reply.TheVariants.{Value}
use Rattle.node_core.specs.declared.walk.Walk.{Walk}
use Rattle.node_core.specs.declared.walk.WalkFault.{WalkFault}
use Rattle.node_core.specs.declared.walk.WalkFault.TheVariants as fault
use Rattle.node_core.specs.State.{State}
use Rattle.node_core.specs.Observable.{observable}
use Rattle.node_core.specs.Buckets.{run_on_buckets, observable_states}
use Rattle.node_core.specs.rules.Replies.{true_reply}
use Rattle.node_core.specs.rules.Walking.{key_reply}
use Rattle.node_core.specs.laws.Kept.{StaysFixed}
use Rattle.node_core.specs.laws.Walk.{IsWholeOverStates}

-- whether the step is one of this process
abbrev pub is_step_of : ℕ → Step → Bool
is_step_of p (Enrol q) = q == p
is_step_of p (End q) = q == p
is_step_of p (Ask q call) = q == p
is_step_of p (Grow t) = false
is_step_of p (Ready t bucket) = false

-- the replies to the steps of this process, in order
abbrev pub replies_to : ℕ → List Step → List Reply → List Reply
replies_to p (s ∷ steps) (r ∷ replies) =
    if is_step_of p s then r ∷ replies_to p steps replies else replies_to p steps replies
replies_to p _ _ = []

-- the steps that the others add, each with its turn: the index, from 0, of the key after which it runs
abbrev pub Given : Type 0
Given = List (ℕ × Step)

-- the steps of one turn, in order
abbrev pub steps_at : ℕ → Given → List Step
steps_at turn given = map (λ g. g.1) (filter (λ g. g.0 == turn) given)

-- what the others do when the traversal reaches a key: they append it to the keys, and any number of steps to the added
-- ones, with the index of the key as their turn
abbrev pub AddsTurn : List Term → Given → Term → List Term → Given → Type 0
AddsTurn keys given key new_keys new_given =
    (new_keys ≡ keys ++ key ∷ [])
    × ((steps : List Step) × (new_given ≡ given ++ map (λ s. (length keys, s)) steps))

-- there is one unseen reply: a key that the traversal found, but that the others do not get
abbrev pub IsUnseenKey : List Reply → Type 0
IsUnseenKey unseen =
    (key : Term) × (unseen ≡ Value key ∷ []) × (is_atom (codes "$end_of_table") key ≡ false)

-- the process p traverses the table with the identifier t
module _ (p t : ℕ) where
  -- a call of the process on the table, with these further arguments
  abbrev pub table_call : List ℕ → List Term → Step
  table_call name args = Ask p (record { name = name; args = Tid t ∷ args })

  -- safe_fixtable(Table, true)
  abbrev pub fix : Step
  fix = table_call (codes "safe_fixtable") (Atom (codes "true") ∷ [])

  -- safe_fixtable(Table, false)
  abbrev pub release : Step
  release = table_call (codes "safe_fixtable") (Atom (codes "false") ∷ [])

  -- first(Table)
  abbrev pub first : Step
  first = table_call (codes "first") []

  -- next(Table, Key)
  abbrev pub next : Term → Step
  next key = table_call (codes "next") (key ∷ [])

  -- the steps of all turns from this one on: for each key, the steps that the others add in its turn, in order, and
  -- then next of the key
  abbrev pub turns : Given → ℕ → List Term → List Step
  turns given turn [] = []
  turns given turn (key ∷ keys) = steps_at turn given ++ next key ∷ turns given (suc turn) keys

  -- the steps between the fix and the release, interleaved: first, and then the turn of each key
  abbrev pub walk : List Term → Given → List Step
  walk keys given = first ∷ turns given 0 keys

  -- whether the process lives, the table exists, and the process may read it
  abbrev pub can_read : State → Bool
  can_read s = lives s.world.processes p && has_access may_read s.world.tables p t

  -- the number of the process's fixes of the table
  abbrev pub fixes_in : State → ℕ
  fixes_in s = option_map_or (λ table. fix_count table.state.fixes p) (table_at s.world.tables t) 0

  -- the fix fails for this reason, and the traversal does not begin
  abbrev pub RefusesFix : WalkFault → State → Type 0
  RefusesFix fault.Lost old = can_read old ≡ false
  RefusesFix fault.SystemLimit old = (can_read old ≡ true) × (fixes_in old ≡ max_fixes)
  RefusesFix fault.Memory old = (can_read old ≡ true) × (fixes_in old < max_fixes)
  RefusesFix _ old = ⊥

  -- The end of a traversal. If the process may still read the table, it releases its fix, and then has as many fixes as
  -- before the traversal. Otherwise nothing more is done.
  abbrev pub EndsWithRelease : (old last new : State) → Type 0
  EndsWithRelease old last new =
      MatchBool (can_read (observable last))
      (run_on_buckets last (release ∷ []) (true_reply ∷ []) new
      × (fixes_in (observable new) ≡ fixes_in (observable old)))
      (new ≡ last)

  module _ (old : State) (keys : List Term) (given : Given) (last : State) where
    -- The run of a traversal, up to its release: the fix, and then the interleaved steps, or the first of them if the
    -- traversal stopped early. `keys` and `given` are the keys that the others got and the steps that they added.
    pub record WovenRun : Type 0 where
      -- the state after the fix
      pub fixed : State
      -- the interleaved steps that were run
      pub done : List Step
      -- the interleaved steps that were not run
      pub left : List Step
      -- the replies to the steps that were run
      pub replies : List Reply
      -- the replies to the process after those that are the keys; the others do not see them
      pub unseen : List Reply
      pub fix_done : run_on_buckets old (fix ∷ []) (true_reply ∷ []) fixed
      pub walk_done : run_on_buckets fixed done replies last
      pub order : walk keys given ≡ done ++ left
      -- the turn of each added step is the index of a key
      pub turns : AllByRecursion (λ g. g.0 < length keys) given
      -- the process's own steps that were run are the first calls of its traversal
      pub own : (rest : List Step) × (walk keys [] ≡ filter (is_step_of p) done ++ rest)
      -- the replies to them are the keys, and then the unseen replies
      pub replied : replies_to p done replies ≡ map (λ key. Value key) keys ++ unseen

    -- the observable states from the one after the fix to the one before the release
    abbrev pub stretch : WovenRun → List State
    stretch run = observable_states run.fixed run.done run.replies last run.walk_done

    -- The run reached the end of the table, which stayed fixed all the time. No key comes twice, and each key that has
    -- objects in every state comes. No step of the others is a step of this process.
    pub record IsComplete (limit : ℕ) (run : WovenRun) : Type 0 where
      pub none_left : run.left ≡ []
      pub end : run.unseen ≡ key_reply None ∷ []
      pub readable : can_read (observable last) ≡ true
      pub stays_fixed : StaysFixed t (stretch run)
      pub whole : IsWholeOverStates t (stretch run) keys
      pub others : AllByRecursion (λ g. is_step_of p g.1 ≡ false) given
      pub few : length keys ≤ limit

    -- the run stopped for this reason
    abbrev pub StopReason : WalkFault → ℕ → WovenRun → Type 0
    StopReason fault.Lost limit run = (run.unseen ≡ []) × (can_read (observable last) ≡ false)
    StopReason fault.OwnStep limit run =
        (turn : ℕ) × (s : Step) × (further : List Step) × (run.unseen ≡ [])
        × (run.left ≡ s ∷ further) × Contains given (turn, s) × (is_step_of p s ≡ true)
    StopReason fault.LimitReached limit run =
        IsUnseenKey run.unseen × (run.left ≡ []) × (length keys ≡ limit)
    StopReason fault.Memory limit run = (run.unseen ≡ []) ⊎ IsUnseenKey run.unseen
    StopReason fault.SystemLimit limit run = ⊥

-- nothing was done: the state is as before, and the others have no keys and no steps
abbrev pub IsNotBegun : State → List Term → Given → State → Type 0
IsNotBegun old keys given new = (new ≡ old) × (keys ≡ []) × (given ≡ [])

-- the contract of a traversal of the table that a term names: its result, the keys and the steps that the others have
-- at the end, and the new state
abbrev pub WalksAmong : State → ℕ → Term → ℕ → List Term → Given → Result Walk WalkFault → State
    → Type 0
WalksAmong old p term limit keys given (Ok walk) new =
    (walk.keys ≡ keys) × MatchOption (resolve old.world.tables term) ⊥ (λ t.
    (last : State) × (run : WovenRun p t old keys given last)
    × IsComplete p t old keys given last limit run × EndsWithRelease p t old last new)
WalksAmong old p term limit keys given (Err why) new =
    MatchOption (resolve old.world.tables term)
    ((why ≡ fault.Lost) × IsNotBegun old keys given new) (λ t.
    (RefusesFix p t why (observable old) × IsNotBegun old keys given new)
    ⊎ ((last : State) × (run : WovenRun p t old keys given last)
    × StopReason p t old keys given last why limit run × EndsWithRelease p t old last new))
