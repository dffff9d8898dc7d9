-- What the parts of a traversal among the steps of others do.
use Rattle.std.specs.Prelude.{◌≡◌, ◌≤◌, ◌<◌, ℕ, suc, Bool, true, false, List, [], ◌∷◌, ◌++◌, map, take, drop, length, Option, Some, None, Result, Ok, Err, MatchOption, is_some, codes, slice_get}
use Rattle.std.specs.List.{AllByRecursion, list_any}
use Rattle.std.specs.Map.{keys_of}
use Rattle.ets_term.specs.declared.term.Term.{Term}
use Rattle.ets_term.specs.Atoms.{is_atom}
use Rattle.ets_term.specs.Depth.{is_too_deep}
use Rattle.ets_term.specs.Order.{same}
use Rattle.fixed_walk.specs.Fixes.{max_fixes}
use Rattle.ownership.specs.World.{table_at}
use Rattle.node_core.specs.declared.step.Step.{Step}
use Rattle.node_core.specs.declared.step.Reply.{Reply}
use Rattle.node_core.specs.declared.step.Reply.TheVariants.{Value}
use Rattle.node_core.specs.declared.walk.Walk.{Walk}
use Rattle.node_core.specs.declared.walk.WalkFault.{WalkFault}
use Rattle.node_core.specs.declared.walk.WalkFault.TheVariants as fault
use Rattle.node_core.specs.State.{State}
use Rattle.node_core.specs.Observable.{observable}
use Rattle.node_core.specs.Machine.{step}
use Rattle.node_core.specs.Buckets.{run_on_buckets, observable_states}
use Rattle.node_core.specs.rules.Growth.{step_on_buckets}
use Rattle.node_core.specs.rules.Replies.{true_reply}
use Rattle.node_core.specs.rules.Walking.{key_reply}
use Rattle.node_core.specs.laws.Kept.{slots_in, StaysFixed}
use Rattle.node_core.specs.laws.Walk.{HasSoundKeys}
use Rattle.node_core.specs.Woven.{is_step_of, replies_to, Given, fix, release, first, next, walk, can_read, fixes_in, WovenRun, StopReason}

abbrev pub exists_in : ℕ → State → Bool
exists_in t s = is_some (table_at s.world.tables t)

-- each step of the others has the index of one of these keys
abbrev pub AreTurns : List Term → Given → Type 0
AreTurns keys given = AllByRecursion (λ g. g.0 < length keys) given

-- a key from which the traversal can go on
pub record CanResume (t : ℕ) (s : State) (key : Term) : Type 0 where
  pub slot : exists_in t s ≡ true → list_any (same key) (keys_of (slots_in t s)) ≡ true
  pub shallow : is_too_deep key ≡ false
  pub no_end : is_atom (codes "$end_of_table") key ≡ false

abbrev pub CanContinue : ℕ → State → Option Term → Type 0
CanContinue t s call = MatchOption call (Unit {0}) (λ key. CanResume t s key)

module _ (p t : ℕ) where
  -- the call of the traversal: first, or next of a key
  abbrev pub call_of : Option Term → Step
  call_of None = first p t
  call_of (Some key) = next p t key

  -- its result: a key or the end
  abbrev pub FindsKey : Option Term → State → Result (Option Term) WalkFault → Type 0
  FindsKey call s (Ok found) =
      (can_read p t s ≡ true) × step s (call_of call) (key_reply found) s × CanContinue t s found
  FindsKey call s (Err fault.Lost) = can_read p t s ≡ false
  FindsKey call s (Err fault.Memory) = Unit {0}
  FindsKey call s (Err _) = ⊥

  -- one more fix of the process, in a table whose keys are sound
  abbrev pub FixesTable : State → Result (Unit {0}) WalkFault → State → Type 0
  FixesTable old (Ok done) new =
      step old (fix p t) true_reply new × (fixes_in p t new ≡ suc (fixes_in p t old))
      × HasSoundKeys t new
  FixesTable old (Err fault.Lost) new = (can_read p t old ≡ false) × (new ≡ old)
  FixesTable old (Err fault.SystemLimit) new =
      (can_read p t old ≡ true) × (fixes_in p t old ≡ max_fixes) × (new ≡ old)
  FixesTable old (Err fault.Memory) new =
      (can_read p t old ≡ true) × (fixes_in p t old < max_fixes) × (new ≡ old)
  FixesTable old (Err _) new = ⊥

  -- one fix less, if the table may be read
  abbrev pub UnfixesTable : State → Bool → State → Type 0
  UnfixesTable old true new =
      (can_read p t old ≡ true) × step old (release p t) true_reply new
      × ((n : ℕ) → fixes_in p t old ≡ suc n → fixes_in p t new ≡ n)
  UnfixesTable old false new = (can_read p t old ≡ false) × (new ≡ old)

  -- what it does to the buckets
  abbrev pub FixOnBuckets : State → Result (Unit {0}) WalkFault → State → Type 0
  FixOnBuckets old (Ok done) new = step_on_buckets old (fix p t) true_reply new
  FixOnBuckets old (Err why) new = new ≡ old

  abbrev pub UnfixOnBuckets : State → Bool → State → Type 0
  UnfixOnBuckets old true new = step_on_buckets old (release p t) true_reply new
  UnfixOnBuckets old false new = new ≡ old

  -- the fix is done
  abbrev pub FixIsDone : State → State → Type 0
  FixIsDone old new =
      FixesTable (observable old) (Ok tt) (observable new) × FixOnBuckets old (Ok tt) new

  -- a run during which the table stays fixed
  abbrev pub RunsFixed : State → List Step → List Reply → State → Type 0
  RunsFixed old steps replies new =
      (ran : run_on_buckets old steps replies new)
      × StaysFixed t (observable_states old steps replies new ran)

  -- if the table exists, the process has one fix more than before the traversal
  abbrev pub HasFix : State → State → Type 0
  HasFix old now =
      exists_in t (observable now) ≡ true
      → fixes_in p t (observable now) ≡ suc (fixes_in p t (observable old))

  -- the traversal so far, when the last of its calls found this
  pub record WalkSoFar (old : State) (keys : List Term) (given : Given) (found : Option Term)
      (now : State) : Type 0 where
    pub fixed : State
    pub before : List Reply
    pub fix_done : run_on_buckets old (fix p t ∷ []) (true_reply ∷ []) fixed
    pub sound : HasSoundKeys t (observable fixed)
    pub walk_done : RunsFixed fixed (walk p t keys given) (before ++ key_reply found ∷ []) now
    pub replied : replies_to p (walk p t keys given) (before ++ key_reply found ∷ [])
        ≡ map (λ key. Value key) keys ++ key_reply found ∷ []
    pub others : AllByRecursion (λ g. is_step_of p g.1 ≡ false) given
    pub turns : AreTurns keys given
    pub fixes : HasFix old now
    pub long : t < length (observable now).world.tables
    pub readable : can_read p t (observable now) ≡ true
    pub goes_on : CanContinue t (observable now) found

  -- a traversal that stopped, before the release
  pub record WalkStopped (old : State) (limit : ℕ) (keys : List Term) (given : Given)
      (why : WalkFault) (last : State) : Type 0 where
    pub run : WovenRun p t old keys given last
    pub reason : StopReason p t old keys given last why limit run
    pub fixes : HasFix old last

  -- what the turn of a key does, wherever the traversal began
  abbrev pub TurnResult : (keys : List Term) (given : Given) (key : Term) (was : State)
      (keys' : List Term) (given' : Given) → Result (Option Term) WalkFault → State → Type 0
  TurnResult keys given key was keys' given' (Ok found) now =
      (old : State) → WalkSoFar old keys given (Some key) was
      → WalkSoFar old keys' given' found now
  TurnResult keys given key was keys' given' (Err why) now =
      (old : State) → WalkSoFar old keys given (Some key) was → (limit : ℕ)
      → WalkStopped old limit keys' given' why now

  -- what the whole traversal does, before the release
  abbrev pub WalkResult : (limit : ℕ) (was : State) (keys : List Term) (given : Given)
      → Result Walk WalkFault → State → Type 0
  WalkResult limit was keys given (Ok walk) now =
      (old : State) → FixIsDone old was
      → (walk.keys ≡ keys) × (length keys ≤ limit) × WalkSoFar old keys given None now
  WalkResult limit was keys given (Err why) now =
      (old : State) → FixIsDone old was → WalkStopped old limit keys given why now

-- the steps of the others run in order, none of them of this process: all, or those before one that is its own or ran
-- out of memory
abbrev pub steps_of : Given → List Step
steps_of given = map (λ g. g.1) given

pub record OthersRan (p : ℕ) (old : State) (given : Given) (new : State) : Type 0 where
  pub replies : List Reply
  pub ran : run_on_buckets old (steps_of given) replies new
  pub others : AllByRecursion (λ s. is_step_of p s ≡ false) (steps_of given)

abbrev pub StoppedAtStep : ℕ → WalkFault → Given → Type 0
StoppedAtStep p fault.OwnStep left =
    (g : ℕ × Step) × (slice_get left 0 ≡ Some g) × (is_step_of p g.1 ≡ true)
StoppedAtStep p fault.Memory left = Unit {0}
StoppedAtStep p _ left = ⊥

abbrev pub RunsOthers : ℕ → State → Given → Result (Unit {0}) WalkFault → State → Type 0
RunsOthers p old given (Ok done) new = OthersRan p old given new
RunsOthers p old given (Err why) new =
    (n : ℕ) × OthersRan p old (take n given) new × StoppedAtStep p why (drop n given)
