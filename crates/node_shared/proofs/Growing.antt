-- A journal that grows by an entry.
use Rattle.std.proofs.Common.{◌≡◌, ℕ, ◌+◌, ◌<◌, ◌≤◌, List, [], ◌∷◌, ◌++◌, map, length, Bool, true, false, cond, refl, ap, ◌∙◌, arith, length-append}
use Rattle.std.specs.Prelude.{filter, Some, is_some, min, ◌^◌, ◌-◌}
use Rattle.std.proofs.lemmas.Grind.{common_steps}
use Rattle.std.proofs.lemmas.List.{map-append}
use Rattle.std.proofs.lemmas.List.Elements.{filter-append}
use Rattle.node_core.specs.declared.limits.Limits.{Limits}
use Rattle.node_core.specs.declared.step.Step.{Step}
use Rattle.node_core.specs.declared.step.Step.TheVariants.{Enrol, End, Ask, Grow, Ready}
use Rattle.node_core.specs.declared.step.Reply.{Reply}
use Rattle.node_core.specs.declared.step.Reply.TheVariants.{NoProcess}
use Rattle.node_core.specs.State.{State, empty}
use Rattle.node_core.specs.Observable.{observable}
use Rattle.node_core.specs.Woven.{is_step_of}
use Rattle.node_core.specs.Pending.{due}
use Rattle.node_core.specs.Values.{is_value}
use Rattle.node_core.proofs.buckets.Runs.{run-on-buckets-push}
use Rattle.node_core.proofs.calls.EachCall.{step-remembers}
use Rattle.node_core.proofs.calls.Enrolling.{enrolled}
use Rattle.node_core.proofs.pending.Tending.{due-tends}
use Rattle.node_shared.specs.declared.entry.Entry.{Entry}
use Rattle.node_shared.specs.Journal.{entry, TakesStep, IsRun, process_of, process_entries}
use Rattle.node_shared.specs.BookInvariant.{BookInvariant}
use Rattle.node_shared.specs.Running.{EndsRun}
use Rattle.node_shared.specs.inside.Steps.{entry_count}

abbrev step_of : Entry → Step
step_of e = e.step

abbrev reply_of : Entry → Reply
reply_of e = e.reply

abbrev is_of_process : Entry → Bool
is_of_process e = is_some (process_of e.step)

pub run-on : (limits : Limits) (old new : State) (es : List Entry) (s : Step) (r : Reply) → IsRun limits es old → TakesStep old s r new → IsRun limits (es ++ entry s r ∷ []) new
run-on limits old new es s r run does =
    let pushed = run-on-buckets-push (empty limits) old new (map step_of es) (map reply_of es) s r run does.0 does.1 in
    rw (map-append step_of es (entry s r ∷ []), map-append reply_of es (entry s r ∷ [])) pushed

-- the number of entries with one more
pub counts-on : (es : List Entry) (e : Entry) (n : ℕ) → n ≡ entry_count es → min (n + 1) (2 ^ 64 - 1) ≡ entry_count (es ++ e ∷ [])
counts-on es e n is = rw (length-append es (e ∷ [])) (grind (arith, common_steps))

-- a step that is done after a run ends one
pub ends-run : (limits : Limits) (parts : ℕ) (old new : State) (es : List Entry) (s : Step) (r : Reply) → limits.processes + 1 ≡ parts → IsRun limits es old
    → TakesStep old s r new → EndsRun parts s r
ends-run limits parts old new es s r most run does = (limits, es, new, most, run-on limits old new es s r run does)

-- how many entries of processes an entry of this step is
abbrev pub weight : Step → ℕ
weight s = process_entries (entry s NoProcess ∷ [])

weighs : (s : Step) (r : Reply) → process_entries (entry s r ∷ []) ≡ weight s
weighs s r = by (is_some (process_of s))
  where
    by : (b : Bool) → length (cond b (entry s r ∷ []) []) ≡ length (cond b (entry s NoProcess ∷ []) [])
    by true = refl
    by false = refl

entries-on : (es : List Entry) (s : Step) (r : Reply) → process_entries (es ++ entry s r ∷ []) ≡ process_entries es + weight s
entries-on es s r =
    ap length (filter-append is_of_process es (entry s r ∷ []))
    ∙ length-append (filter is_of_process es) (filter is_of_process (entry s r ∷ []))
    ∙ ap (λ (n : ℕ). process_entries es + n) (weighs s r)

pub own-weighs : (p : ℕ) (s : Step) → is_step_of p s ≡ true → weight s ≡ 1
own-weighs p (Enrol q) own = refl
own-weighs p (End q) own = refl
own-weighs p (Ask q call) own = refl
own-weighs p (Grow t) own = cc
own-weighs p (Ready t bucket) own = cc

pub due-weighs : (old : State) (s : Step) → due old ≡ Some s → weight s ≡ 0
due-weighs old s is = due-tends (λ s. weight s ≡ 0) (λ t. refl) (λ t bucket. refl) old s is

module _ (limits : Limits) (all : ℕ) (es : List Entry) (old new : State) (total parts : ℕ) where
  -- the invariant holds after one more step
  pub invariant-step : (s : Step) (r : Reply) (more : ℕ) → BookInvariant limits all old es total parts → TakesStep old s r new → weight s ≡ more → BookInvariant limits all new (es ++ entry s r ∷ []) (total + more) parts
  invariant-step s r more was does adds =
      let m = step-remembers (observable old) (observable new) s r does.0 in
      let most : new.world.max_processes ≡ old.world.max_processes = m.most in
      let known : length old.world.processes ≤ length new.world.processes = m.known in
      let enough = was.enough in
      let counted = was.counted in
      let grown = entries-on es s r in
      record {
        most = was.most;
        same = m.limits ∙ was.same;
        run = run-on limits old new es s r was.run does;
        counted = omega arith;
        enough = omega arith;
      }

  module _ (p : ℕ) (r : Reply) (granted : is_value r ≡ true) (was : BookInvariant limits all old es total parts) (does : TakesStep old (Enrol p) r new) where
    -- there is a part to give
    pub part-left : 1 < parts
    part-left =
        let room : length old.world.processes < old.world.max_processes = (enrolled (observable old) (observable new) p r granted does.0).1 in
        let enough = was.enough in
        omega arith

    -- after an enrolment with which a part is given out all holds
    pub invariant-join : (left : ℕ) → left + 1 ≡ parts → BookInvariant limits all new (es ++ entry (Enrol p) r ∷ []) (total + 1) left
    invariant-join left gave =
        let s = invariant-step (Enrol p) r 1 was does refl in
        let m = step-remembers (observable old) (observable new) (Enrol p) r does.0 in
        let most : new.world.max_processes ≡ old.world.max_processes = m.most in
        let one_more : length new.world.processes ≡ length old.world.processes + 1 = (enrolled (observable old) (observable new) p r granted does.0).0 in
        let enough = was.enough in
        record { most = s.most; same = s.same; run = s.run; counted = s.counted; enough = omega arith }
