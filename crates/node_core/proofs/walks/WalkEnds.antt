-- The end of a walk, from the contracts of its functions.
use Rattle.std.proofs.Common.{◌≡◌, ◌⊎◌, inl, inr, ℕ, Bool, true, false, List, [], ◌∷◌, ◌++◌, Option, None, Some, Result, Ok, Err, refl, sym, subst, ◌∙◌, filter}
use Rattle.std.specs.Prelude.{MatchOption}
use Rattle.std.specs.Bool.{MatchBool}
use Rattle.ets_term.specs.declared.term.Term.{Term}
use Rattle.ownership.specs.World.{resolve}
use Rattle.node_core.specs.declared.step.Reply.{Reply}
use Rattle.node_core.specs.declared.walk.Walk.{Walk}
use Rattle.node_core.specs.declared.walk.WalkFault.{WalkFault}
use Rattle.node_core.specs.declared.walk.WalkFault.TheVariants as fault
use Rattle.node_core.specs.State.{State}
use Rattle.node_core.specs.Observable.{observable}
use Rattle.node_core.specs.Machine.{run}
use Rattle.node_core.specs.Buckets.{run_on_buckets, observable_states}
use Rattle.node_core.specs.rules.Replies.{true_reply}
use Rattle.node_core.specs.rules.Walking.{key_reply}
use Rattle.node_core.specs.laws.Kept.{StaysFixed}
use Rattle.node_core.specs.laws.Walk.{states, Walks, IsWholeOverStates}
use Rattle.node_core.specs.Woven.{is_step_of, Given, release, walk, fixes_in, WovenRun, IsComplete, StopReason, RefusesFix, EndsWithRelease, IsNotBegun, WalksAmong}
use Rattle.node_core.specs.inside.Walker.{FixesTable, UnfixesTable, FixOnBuckets, UnfixOnBuckets, FixIsDone, HasFix, WalkSoFar, WalkResult}
use Rattle.node_core.proofs.buckets.Runs.{run-observable, states-observable}
use Rattle.node_core.proofs.walks.Answering.{readable-there, walks-replied}
use Rattle.node_core.proofs.walks.Turns.{append-none}
use Rattle.node_core.proofs.walks.Weaving.{own-walk}
use Rattle.node_core.proofs.walks.WholeWalks.{walks-whole}

module _ (p t : ℕ) where
  -- ---- the release
  released : (old now new : State) (b : Bool) → HasFix p t old now → UnfixesTable p t (observable now) b (observable new) → UnfixOnBuckets p t now b new → EndsWithRelease p t old now new
  released old now new true fixes go on =
      subst (λ (b : Bool). MatchBool b (run_on_buckets now (release p t ∷ []) (true_reply ∷ []) new × (fixes_in p t (observable new) ≡ fixes_in p t (observable old))) (new ≡ now)) (sym go.0)
      ((new, go.1, on, refl), go.2 (fixes_in p t (observable old)) (fixes (readable-there p t (observable now) go.0)))
  released old now new false fixes go on =
      subst (λ (b : Bool). MatchBool b (run_on_buckets now (release p t ∷ []) (true_reply ∷ []) new × (fixes_in p t (observable new) ≡ fixes_in p t (observable old))) (new ≡ now)) (sym go.0) on

  -- ---- the end
  module _ (old now : State) (keys : List Term) (given : Given) (st : WalkSoFar p t old keys given None now) where
    abbrev replies : List Reply
    replies = st.before ++ key_reply None ∷ []

    abbrev ran : run_on_buckets st.fixed (walk p t keys given) replies now
    ran = st.walk_done.0

    abbrev ran_observable : run (observable st.fixed) (walk p t keys given) replies (observable now)
    ran_observable = run-observable st.fixed now (walk p t keys given) replies ran

    same-states : states (observable st.fixed) (walk p t keys given) replies (observable now) ran_observable ≡ observable_states st.fixed (walk p t keys given) replies now ran
    same-states = states-observable st.fixed now (walk p t keys given) replies ran

    stays-fixed : StaysFixed t (observable_states st.fixed (walk p t keys given) replies now ran)
    stays-fixed = st.walk_done.1

    stays_fixed_observable : StaysFixed t (states (observable st.fixed) (walk p t keys given) replies (observable now) ran_observable)
    stays_fixed_observable = subst (λ (xs : List State). StaysFixed t xs) (sym same-states) stays-fixed

    answers : Walks p t None keys (observable st.fixed) (walk p t keys given) replies (observable now) ran_observable
    answers = walks-replied p t keys given st.others (observable st.fixed) (observable now) replies ran_observable st.replied stays_fixed_observable

    whole : IsWholeOverStates t (observable_states st.fixed (walk p t keys given) replies now ran) keys
    whole =
        subst (λ (xs : List State). IsWholeOverStates t xs keys) same-states
        (walks-whole (observable st.fixed) (walk p t keys given) replies (observable now) ran_observable p t keys st.sound stays_fixed_observable answers)

    abbrev to_the_end : WovenRun p t old keys given now
    to_the_end = record {
      fixed = st.fixed;
      done = walk p t keys given;
      left = [];
      replies = replies;
      unseen = key_reply None ∷ [];
      fix_done = st.fix_done;
      walk_done = ran;
      order = sym (append-none (walk p t keys given));
      turns = st.turns;
      own = ([], sym (own-walk p t keys given st.others) ∙ sym (append-none (filter (is_step_of p) (walk p t keys given))));
      replied = st.replied;
    }

  module _ (old : State) (term : Term) (limit : ℕ) (e : resolve old.world.tables term ≡ Some t) (keys : List Term) (given : Given) (new : State) where
    abbrev Stops : WalkFault → ℕ → Type 0
    Stops why u =
        (RefusesFix p u why (observable old) × IsNotBegun old keys given new)
        ⊎ ((last : State) × (run : WovenRun p u old keys given last) × StopReason p u old keys given last why limit run × EndsWithRelease p u old last new)

    stops : (why : WalkFault) → Stops why t → WalksAmong old p term limit keys given (Err why) new
    stops why h = subst (λ (o : Option ℕ). MatchOption o ((why ≡ fault.Lost) × IsNotBegun old keys given new) (Stops why)) (sym e) h

    -- the table is not fixed
    refused : (why : WalkFault) → FixesTable p t (observable old) (Err why) (observable new) → RefusesFix p t why (observable old)
    refused fault.Lost h = h.0
    refused fault.SystemLimit h = (h.0, h.1)
    refused fault.Memory h = (h.0, h.1)
    refused fault.OwnStep h = absurd h
    refused fault.LimitReached h = absurd h

    pub not-walked : (why : WalkFault) → keys ≡ [] → given ≡ [] → FixesTable p t (observable old) (Err why) (observable new) → FixOnBuckets p t old (Err why) new → WalksAmong old p term limit keys given (Err why) new
    not-walked why none unasked h same = stops why (inl (refused why h, (same, none, unasked)))

    -- it is fixed, walked over and released
    pub walked-among : (was now : State) → FixIsDone p t old was → (result : Result Walk WalkFault) (b : Bool) → WalkResult p t limit was keys given result now
        → UnfixesTable p t (observable now) b (observable new) → UnfixOnBuckets p t now b new → WalksAmong old p term limit keys given result new
    walked-among was now fixes (Ok w) b ends go on =
        let end = ends old fixes in
        let st = end.2 in (
          end.0,
          subst (λ (o : Option ℕ). MatchOption o ⊥ (λ u. (last : State) × (run : WovenRun p u old keys given last) × IsComplete p u old keys given last limit run × EndsWithRelease p u old last new)) (sym e) (
            now,
            to_the_end old now keys given st,
            record {
              none_left = refl;
              end = refl;
              readable = st.readable;
              stays_fixed = stays-fixed-all st;
              whole = whole old now keys given st;
              others = st.others;
              few = end.1;
            },
            released old now new b st.fixes go on,
          ),
        )
      where
        stays-fixed-all : (st : WalkSoFar p t old keys given None now) → StaysFixed t (observable_states st.fixed (walk p t keys given) (replies old now keys given st) now (ran old now keys given st))
        stays-fixed-all st = stays-fixed old now keys given st
    walked-among was now fixes (Err why) b ends go on =
        let h = ends old fixes in
        stops why (inr (now, h.run, h.reason, released old now new b h.fixes go on))

pub no-table : (p : ℕ) (old : State) (term : Term) (limit : ℕ) (keys : List Term) (given : Given) → resolve old.world.tables term ≡ None → keys ≡ [] → given ≡ [] → WalksAmong old p term limit keys given (Err fault.Lost) old
no-table p old term limit keys given e none unasked =
    subst (λ (o : Option ℕ). MatchOption o ((fault.Lost ≡ fault.Lost) × IsNotBegun old keys given old) (λ u.
    (RefusesFix p u fault.Lost (observable old) × IsNotBegun old keys given old)
    ⊎ ((last : State) × (run : WovenRun p u old keys given last) × StopReason p u old keys given last fault.Lost limit run × EndsWithRelease p u old last old))) (sym e) (refl, (refl, none, unasked))
