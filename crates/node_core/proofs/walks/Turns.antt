-- A walk among others' steps, turn by turn: where it is, and where it stops.
use Rattle.std.proofs.Common.{◌≡◌, ℕ, zero, suc, ◌<◌, inl, inr, true, false, List, [], ◌∷◌, ◌++◌, Option, None, Some, Ok, Err, refl, sym, subst, subst₂, ap, ap₂, ◌∙◌, length, map, take, drop, arith, append_assoc, true≢false}
use Rattle.std.specs.Prelude.{is_some}
use Rattle.std.specs.List.{AllByRecursion, Contains}
use Rattle.std.specs.Option.{option_map_or}
use Rattle.std.proofs.lemmas.List.{map-append}
use Rattle.std.proofs.lemmas.List.Elements.{Contains-append_right}
use Rattle.ets_term.specs.declared.term.Term.{Term}
use Rattle.fixed_walk.specs.Fixes.{fix_count}
use Rattle.ownership.specs.World.{Table, Tables, table_at}
use Rattle.node_core.specs.declared.step.Reply.{Reply}
use Rattle.node_core.specs.declared.step.Reply.TheVariants.{Value}
use Rattle.node_core.specs.declared.step.Step.{Step}
use Rattle.node_core.specs.declared.walk.WalkFault.{WalkFault}
use Rattle.node_core.specs.declared.walk.WalkFault.TheVariants as fault
use Rattle.node_core.specs.State.{State}
use Rattle.node_core.specs.Observable.{observable, KeepsBuckets}
use Rattle.node_core.specs.Machine.{run}
use Rattle.node_core.specs.Buckets.{run_on_buckets, observable_states}
use Rattle.node_core.specs.rules.Growth.{HasFirstBuckets}
use Rattle.node_core.specs.rules.Walking.{key_reply}
use Rattle.node_core.specs.laws.Kept.{is_fixed_in, StaysFixed}
use Rattle.node_core.specs.Woven.{is_step_of, replies_to, Given, first, next, walk, can_read, fixes_in, WovenRun, StopReason}
use Rattle.node_core.specs.inside.Walker.{AreTurns, call_of, FindsKey, FixIsDone, RunsFixed, HasFix, WalkSoFar, WalkStopped, steps_of, StoppedAtStep}
use Rattle.node_core.proofs.moves.Moves.{follows-same}
use Rattle.node_core.proofs.buckets.Runs.{run-on-buckets-append, run-observable, states-observable}
use Rattle.node_core.proofs.buckets.Observable.{buckets-follow}
use Rattle.node_core.proofs.walks.OthersRuns.{fixed-in, Ran, others-ran}
use Rattle.node_core.proofs.walks.Replying.{own-replied, none-replied, replied-append}
use Rattle.node_core.proofs.walks.Weaving.{number-same, paired, walk-more, own-further, more-others, more-turns}
use Rattle.node_core.proofs.walks.Answering.{readable-there}

abbrev pub value : Term → Reply
value key = Value key

-- ---- lists
pub append-none : {X : Type 0} (xs : List X) → xs ++ [] ≡ xs
append-none [] = refl
append-none (x ∷ xs) = ap (λ ys. x ∷ ys) (append-none xs)

length-more : {X : Type 0} (xs : List X) (x : X) → length (xs ++ x ∷ []) ≡ suc (length xs)
length-more [] x = refl
length-more (y ∷ xs) x = ap suc (length-more xs x)

pub steps-paired : (n : ℕ) (steps : List Step) → steps_of (paired n steps) ≡ steps
steps-paired n [] = refl
steps-paired n (s ∷ steps) = ap (λ xs. s ∷ xs) (steps-paired n steps)

pub steps-cut : (n : ℕ) (given : Given) → steps_of (take n given) ++ steps_of (drop n given) ≡ steps_of given
steps-cut zero given = refl
steps-cut (suc n) [] = refl
steps-cut (suc n) (g ∷ given) = ap (λ xs. g.1 ∷ xs) (steps-cut n given)

there-within : (ts : Tables) (u : ℕ) → is_some (table_at ts u) ≡ true → u < length ts
there-within [] u e = absurd (true≢false (sym e))
there-within (x ∷ xs) zero e = omega arith
there-within (x ∷ xs) (suc u) e = let before = there-within xs u e in omega (arith, before)

-- what only reads leaves the buckets
reads : (s : State) → KeepsBuckets s s × HasFirstBuckets s s
reads s = buckets-follow s s (follows-same (λ w. false) s.world.tables)

module _ (p t : ℕ) where
  counted-at : (o : Option Table) (n : ℕ) → option_map_or (λ table. fix_count table.state.fixes p) o 0 ≡ suc n → is_some o ≡ true
  counted-at None n e = absurd (omega (arith, e))
  counted-at (Some table) n e = refl

  within : (s : State) (n : ℕ) → fixes_in p t s ≡ suc n → t < length s.world.tables
  within s n e = there-within s.world.tables t (counted-at (table_at s.world.tables t) n e)

  -- ---- runs during which the table stays fixed
  fixed-append : (a b c : State) (xs ys : List Step) (rs qs : List Reply) → RunsFixed p t a xs rs b → RunsFixed p t b ys qs c → RunsFixed p t a (xs ++ ys) (rs ++ qs) c
  fixed-append a b c [] ys [] qs h k = subst (λ (s : State). RunsFixed p t s ys qs c) h.0 k
  fixed-append a b c (x ∷ xs) ys (r ∷ rs) qs h k =
      let ran = h.0 in
      let stays = h.1 in
      let rest = fixed-append ran.0 b c xs ys rs qs (ran.3, stays.1) k in
      ((ran.0, ran.1, ran.2, rest.0), (stays.0, rest.1))
  fixed-append a b c [] ys (r ∷ rs) qs h k = absurd h.0
  fixed-append a b c (x ∷ xs) ys [] qs h k = absurd h.0

  module _ (old : State) where
    abbrev count : ℕ
    count = fixes_in p t (observable old)

    fixed-now : (now : State) → HasFix p t old now → can_read p t (observable now) ≡ true → is_fixed_in t (observable now) ≡ true
    fixed-now now fixes can = fixed-in p t count (observable now) (fixes (readable-there p t (observable now) can))

    -- a call of the walk
    called : (call : Option Term) (found : Option Term) (now : State) → HasFix p t old now → FindsKey p t call (observable now) (Ok found) → RunsFixed p t now (call_of p t call ∷ []) (key_reply found ∷ []) now
    called None found now fixes finds = ((now, finds.1, reads now, refl), (fixed-now now fixes finds.0, (fixed-now now fixes finds.0, tt)))
    called (Some key) found now fixes finds = ((now, finds.1, reads now, refl), (fixed-now now fixes finds.0, (fixed-now now fixes finds.0, tt)))

    find-reason : (call : Option Term) (why : WalkFault) (limit : ℕ) (keys : List Term) (given : Given) (now : State) (run : WovenRun p t old keys given now) → run.unseen ≡ [] → FindsKey p t call (observable now) (Err why)
        → StopReason p t old keys given now why limit run
    find-reason call fault.Lost limit keys given now run none h = (none, h)
    find-reason call fault.Memory limit keys given now run none h = inl none
    find-reason call fault.OwnStep limit keys given now run none h = absurd h
    find-reason call fault.LimitReached limit keys given now run none h = absurd h
    find-reason call fault.SystemLimit limit keys given now run none h = absurd h

    -- ---- the walk begins
    module _ (now : State) (fixed : FixIsDone p t old now) where
      has-fix : HasFix p t old now
      has-fix here = let done = fixed.0 in done.1

      pub begun : (found : Option Term) → FindsKey p t None (observable now) (Ok found) → WalkSoFar p t old [] [] found now
      begun found finds = let done = fixed.0 in record {
        fixed = now;
        before = [];
        fix_done = (now, done.0, fixed.1, refl);
        sound = done.2;
        walk_done = called None found now has-fix finds;
        replied = own-replied p (first p t) (key_reply found) [] [] (number-same p);
        others = tt;
        turns = tt;
        fixes = has-fix;
        long = within (observable now) count done.1;
        readable = finds.0;
        goes_on = finds.2;
      }

      abbrev only_fix : WovenRun p t old [] [] now
      only_fix = record {
        fixed = now;
        done = [];
        left = first p t ∷ [];
        replies = [];
        unseen = [];
        fix_done = (now, fixed.0.0, fixed.1, refl);
        walk_done = refl;
        order = refl;
        turns = tt;
        own = (first p t ∷ [], refl);
        replied = refl;
      }

      pub not-begun : (why : WalkFault) (limit : ℕ) → FindsKey p t None (observable now) (Err why) → WalkStopped p t old limit [] [] why now
      not-begun why limit finds = record { run = only_fix; reason = find-reason None why limit [] [] now only_fix refl finds; fixes = has-fix }

    -- ---- the walk stops when some steps of others have been done
    module _ (keys : List Term) (given : Given) (found : Option Term) (now : State) (st : WalkSoFar p t old keys given found now) where
      abbrev all_replies : List Reply
      all_replies = st.before ++ key_reply found ∷ []

      abbrev so_far : List Step
      so_far = walk p t keys given

      module _ (xs : List Step) (replies : List Reply) (mid : State) (ran : run_on_buckets now xs replies mid) (others : AllByRecursion (λ s. is_step_of p s ≡ false) xs) where
        pub after : Ran p t count (observable now) xs replies (observable mid) (run-observable now mid xs replies ran)
        after = others-ran p t count (observable now) xs replies (observable mid) (run-observable now mid xs replies ran) others st.long st.fixes

        abbrev stopped-run : (keys' : List Term) (given' : Given) (left own_left : List Step) (unseen : List Reply)
            → walk p t keys' given' ≡ (so_far ++ xs) ++ left → walk p t keys' [] ≡ walk p t keys [] ++ own_left → AreTurns keys' given'
            → map value keys ++ key_reply found ∷ [] ≡ map value keys' ++ unseen → WovenRun p t old keys' given' mid
        stopped-run keys' given' left own_left unseen order own turns is = record {
          fixed = st.fixed;
          done = so_far ++ xs;
          left = left;
          replies = all_replies ++ replies;
          unseen = unseen;
          fix_done = st.fix_done;
          walk_done = run-on-buckets-append st.fixed now mid so_far xs all_replies replies st.walk_done.0 ran;
          order = order;
          turns = turns;
          own = (own_left, own ∙ ap (λ ys. ys ++ own_left) (sym (own-further p t keys given xs st.others others)));
          replied =
              replied-append p (observable st.fixed) (observable now) so_far xs all_replies replies (run-observable st.fixed now so_far all_replies st.walk_done.0)
              ∙ (ap₂ (λ (rs qs : List Reply). rs ++ qs) st.replied (none-replied p (observable now) (observable mid) xs replies (run-observable now mid xs replies ran) others)
              ∙ (append-none (map value keys ++ key_reply found ∷ []) ∙ is));
        }

    -- ---- the walk stops before the others get a key that was found
    module _ (keys : List Term) (given : Given) (key : Term) (now : State) (limit : ℕ) (st : WalkSoFar p t old keys given (Some key) now) where
      abbrev here : WovenRun p t old keys given now
      here =
          stopped-run keys given (Some key) now st [] [] now refl tt keys given [] [] (Value key ∷ [])
          (sym (append-none (walk p t keys given)) ∙ sym (append-none (walk p t keys given ++ []))) (sym (append-none (walk p t keys []))) st.turns refl

      -- no memory
      pub stopped-here : WalkStopped p t old limit keys given fault.Memory now
      stopped-here = record { run = here; reason = inr (key, refl, st.goes_on.no_end); fixes = st.fixes }

      -- a key past the limit
      pub past-limit : length keys ≡ limit → WalkStopped p t old limit keys given fault.LimitReached now
      past-limit many = record { run = here; reason = ((key, refl, st.goes_on.no_end), refl, many); fixes = st.fixes }

    -- ---- the turn of a key
    module _ (keys : List Term) (given : Given) (key : Term) (now : State) (st : WalkSoFar p t old keys given (Some key) now) (steps : List Step) where
      abbrev keys' : List Term
      keys' = keys ++ key ∷ []

      abbrev given' : Given
      given' = given ++ paired (length keys) steps

      abbrev R : List Reply
      R = st.before ++ Value key ∷ []

      turns-more : AreTurns keys' given'
      turns-more = subst (λ (m : ℕ). AllByRecursion (λ g. g.0 < m) given') (sym (length-more keys key)) (more-turns given (length keys) steps st.turns)

      all-replied : map value keys ++ Value key ∷ [] ≡ map value keys' ++ []
      all-replied = sym (map-append value keys (key ∷ [])) ∙ sym (append-none (map value keys'))

      own-more : walk p t keys' [] ≡ walk p t keys [] ++ next p t key ∷ []
      own-more = walk-more p t keys key [] [] tt

      stopped-reason : (why : WalkFault) (n limit : ℕ) (mid : State) (left : Given) (run : WovenRun p t old keys' given' mid) → run.unseen ≡ [] → run.left ≡ steps_of left ++ next p t key ∷ []
          → drop n (paired (length keys) steps) ≡ left → StoppedAtStep p why left → StopReason p t old keys' given' mid why limit run
      stopped-reason fault.Memory n limit mid left run none is e h = inl none
      stopped-reason fault.OwnStep n limit mid [] run none is e h = let no_step = h.1 in absurd (cc)
      stopped-reason fault.OwnStep n limit mid (g ∷ left) run none is e h =
          let same : g ≡ h.0 = cc in
          (g.0, g.1, steps_of left ++ next p t key ∷ [], none, is, handed-in n (paired (length keys) steps) g left e, ap (λ (x : ℕ × Step). is_step_of p x.1) same ∙ h.2)
        where
          cut : (n : ℕ) (xs : Given) (g : ℕ × Step) (left : Given) → drop n xs ≡ g ∷ left → Contains xs g
          cut zero xs g left e = subst (λ (ys : Given). Contains ys g) (sym e) (0, omega arith, refl)
          cut (suc n) [] g left e = cc
          cut (suc n) (x ∷ xs) g left e = let c = cut n xs g left e in let below = c.1 in (suc c.0, omega (arith, below), c.2)

          handed-in : (n : ℕ) (xs : Given) (g : ℕ × Step) (left : Given) → drop n xs ≡ g ∷ left → Contains (given ++ xs) g
          handed-in n xs g left e = Contains-append_right given xs g (cut n xs g left e)
      stopped-reason fault.Lost n limit mid left run none is e h = absurd h
      stopped-reason fault.LimitReached n limit mid left run none is e h = absurd h
      stopped-reason fault.SystemLimit n limit mid left run none is e h = absurd h

      -- one of the others' steps is not done
      module _ (n : ℕ) where
        abbrev pairs : Given
        pairs = paired (length keys) steps

        abbrev xs : List Step
        xs = steps_of (take n pairs)

        abbrev left : List Step
        left = steps_of (drop n pairs)

        cut : steps ≡ xs ++ left
        cut = sym (steps-paired (length keys) steps) ∙ sym (steps-cut n pairs)

        order : walk p t keys' given' ≡ (walk p t keys given ++ xs) ++ (left ++ next p t key ∷ [])
        order =
            walk-more p t keys key given steps st.turns
            ∙ (ap (λ ys. walk p t keys given ++ (ys ++ next p t key ∷ [])) cut
            ∙ (ap (λ ys. walk p t keys given ++ ys) (append_assoc xs left (next p t key ∷ [])) ∙ sym (append_assoc (walk p t keys given) xs (left ++ next p t key ∷ []))))

        module _ (mid : State) (replies : List Reply) (ran : run_on_buckets now xs replies mid) (others : AllByRecursion (λ s. is_step_of p s ≡ false) xs) where
          abbrev to_step : WovenRun p t old keys' given' mid
          to_step = stopped-run keys given (Some key) now st xs replies mid ran others keys' given' (left ++ next p t key ∷ []) (next p t key ∷ []) [] order own-more turns-more all-replied

          pub stopped : (why : WalkFault) (limit : ℕ) → StoppedAtStep p why (drop n pairs) → WalkStopped p t old limit keys' given' why mid
          stopped why limit at =
              let made = after keys given (Some key) now st xs replies mid ran others in
              record { run = to_step; reason = stopped-reason why n limit mid (drop n pairs) to_step refl refl refl at; fixes = made.fixes }

      module _ (replies : List Reply) (mid : State) (ran : run_on_buckets now steps replies mid) (others : AllByRecursion (λ s. is_step_of p s ≡ false) steps) where
        made : Ran p t count (observable now) steps replies (observable mid) (run-observable now mid steps replies ran)
        made = after keys given (Some key) now st steps replies mid ran others

        abbrev to_next : WovenRun p t old keys' given' mid
        to_next =
            stopped-run keys given (Some key) now st steps replies mid ran others keys' given' (next p t key ∷ []) (next p t key ∷ []) []
            (walk-more p t keys key given steps st.turns ∙ sym (append_assoc (walk p t keys given) steps (next p t key ∷ []))) own-more turns-more all-replied

        -- the next key is not found
        pub not-found : (why : WalkFault) (limit : ℕ) → FindsKey p t (Some key) (observable mid) (Err why) → WalkStopped p t old limit keys' given' why mid
        not-found why limit finds = record { run = to_next; reason = find-reason (Some key) why limit keys' given' mid to_next refl finds; fixes = made.fixes }

        pub turned : (found : Option Term) → FindsKey p t (Some key) (observable mid) (Ok found) → WalkSoFar p t old keys' given' found mid
        turned found finds = record {
          fixed = st.fixed;
          before = R ++ replies;
          fix_done = st.fix_done;
          sound = st.sound;
          walk_done = subst₂ (λ (xs : List Step) (rs : List Reply). RunsFixed p t st.fixed xs rs mid) (sym (walk-more p t keys key given steps st.turns)) (sym (append_assoc R replies (key_reply found ∷ [])))
              (fixed-append st.fixed now mid (walk p t keys given) (steps ++ next p t key ∷ []) R (replies ++ key_reply found ∷ []) st.walk_done
              (fixed-append now mid mid steps (next p t key ∷ []) replies (key_reply found ∷ []) (ran, steps-stay-fixed) (called (Some key) found mid made.fixes finds)));
          replied =
              ap₂ (λ (xs : List Step) (rs : List Reply). replies_to p xs rs) (walk-more p t keys key given steps st.turns) (append_assoc R replies (key_reply found ∷ []))
              ∙ (replied-append p (observable st.fixed) (observable now) (walk p t keys given) (steps ++ next p t key ∷ []) R (replies ++ key_reply found ∷ []) so_far_observable
              ∙ (ap₂ (λ (rs qs : List Reply). rs ++ qs) (st.replied ∙ sym (map-append value keys (key ∷ [])))
              (replied-append p (observable now) (observable mid) steps (next p t key ∷ []) replies (key_reply found ∷ []) ran_observable
              ∙ ap₂ (λ (rs qs : List Reply). rs ++ qs) (none-replied p (observable now) (observable mid) steps replies ran_observable others) (own-replied p (next p t key) (key_reply found) [] [] (number-same p)))));
          others = more-others p t given (length keys) steps st.others others;
          turns = turns-more;
          fixes = made.fixes;
          long = made.long;
          readable = finds.0;
          goes_on = finds.2;
        }
          where
            ran_observable : run (observable now) steps replies (observable mid)
            ran_observable = run-observable now mid steps replies ran

            so_far_observable : run (observable st.fixed) (walk p t keys given) R (observable now)
            so_far_observable = let done = st.walk_done in run-observable st.fixed now (walk p t keys given) R done.0

            steps-stay-fixed : StaysFixed t (observable_states now steps replies mid ran)
            steps-stay-fixed =
                subst (λ (xs : List State). StaysFixed t xs) (states-observable now mid steps replies ran)
                (made.stays_fixed (readable-there p t (observable mid) finds.0))
