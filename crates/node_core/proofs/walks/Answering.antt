-- A run whose replies to the walker's calls are these keys, and then the end, is a walk with these keys.
use Rattle.std.proofs.Common.{◌≡◌, ℕ, suc, ◌==◌, ◌&&◌, Bool, true, false, cond, List, [], ◌∷◌, ◌++◌, Option, None, Some, option_and_then, refl, sym, subst, ◌∙◌, map, arith, true≢false}
use Rattle.std.specs.Prelude.{MatchOption, is_some, option_map}
use Rattle.std.specs.List.{AllByRecursion}
use Rattle.std.specs.Option.{option_map_or}
use Rattle.std.proofs.lemmas.Bool.Decides.{nat_tests}
use Rattle.ets_term.specs.declared.term.Term.{Term, out-Term}
use Rattle.ets_term.specs.declared.term.Term.TheVariants.{Tid}
use Rattle.ownership.specs.Access.{may_read}
use Rattle.ownership.specs.Lookups.{has_access}
use Rattle.ownership.specs.World.{Table, table_at, lives}
use Rattle.node_core.specs.declared.step.Reply.{Reply}
use Rattle.node_core.specs.declared.step.Reply.TheVariants.{Value}
use Rattle.node_core.specs.declared.step.Step.{Step}
use Rattle.node_core.specs.declared.step.Step.TheVariants.{Enrol, End, Ask, Grow, Ready}
use Rattle.node_core.specs.CallName.{call_name}
use Rattle.node_core.specs.State.{State}
use Rattle.node_core.specs.Machine.{run}
use Rattle.node_core.specs.rules.Walking.{key_reply}
use Rattle.node_core.specs.laws.Kept.{StaysFixed}
use Rattle.node_core.specs.laws.Walk.{states, is_table, walk_call, walk_step, Answers, Walks}
use Rattle.node_core.specs.Woven.{is_step_of, replies_to, Given, steps_at, next, turns, walk, can_read}
use Rattle.node_core.specs.inside.Walker.{exists_in, call_of}
use Rattle.node_core.proofs.walks.OthersRuns.{there-fixed}
use Rattle.node_core.proofs.walks.Replying.{own-replied, other-replied}
use Rattle.node_core.proofs.walks.Weaving.{others-of}

-- ---- reading
both-true : (a b : Bool) → (a && b) ≡ true → (a ≡ true) × (b ≡ true)
both-true true true e = (refl, refl)
both-true true false e = absurd (true≢false (sym e))
both-true false b e = absurd (true≢false (sym e))

number-same : (n : ℕ) → (n == n) ≡ true
number-same n = grind (arith, nat_tests)

module _ (p t : ℕ) where
  readable-at : (o : Option Table) → option_map_or (λ table. may_read table.metadata p) o false ≡ true → is_some o ≡ true
  readable-at None e = absurd (true≢false (sym e))
  readable-at (Some table) e = refl

  pub readable-there : (s : State) → can_read p t s ≡ true → exists_in t s ≡ true
  readable-there s h = let parts = both-true (lives s.world.processes p) (has_access may_read s.world.tables p t) h in readable-at (table_at s.world.tables t) parts.1

  -- ---- calls of the walk
  table-at : (o : Option Table) → is_some o ≡ true → option_map_or (λ u. u == t) (option_map (λ _. t) o) false ≡ true
  table-at None e = absurd (true≢false (sym e))
  table-at (Some table) e = number-same t

  names-table : (s : State) → exists_in t s ≡ true → is_table s t (Tid t) ≡ true
  unfolding out-Term denote.Hole.Carrier.out
  names-table s h = table-at (table_at s.world.tables t) h

  walk_step-cond : (b c : Bool) (o : Option (Option Term × Bool)) → b ≡ true → c ≡ true → cond b (cond c o None) None ≡ o
  walk_step-cond true true o e f = refl
  walk_step-cond true false o e f = absurd (true≢false (sym f))
  walk_step-cond false c o e f = absurd (true≢false (sym e))

  asked : (s : State) (call : Option Term) → exists_in t s ≡ true → walk_step s p t (call_of p t call) ≡ Some (call, false)
  asked s None h = walk_step-cond (p == p) (is_table s t (Tid t)) (Some (None, false)) (number-same p) (names-table s h)
  asked s (Some key) h = walk_step-cond (p == p) (is_table s t (Tid t)) (Some (Some key, false)) (number-same p) (names-table s h)

  -- a step of others is not a call of the walk
  walk_step-none : (b : Bool) (o : Option (Option Term × Bool)) → b ≡ false → cond b o None ≡ None
  walk_step-none true o h = absurd (true≢false h)
  walk_step-none false o h = refl

  passed : (old : State) (s : Step) → is_step_of p s ≡ false → walk_step old p t s ≡ None
  passed old (Enrol q) h = refl
  passed old (End q) h = refl
  passed old (Ask q call) h = walk_step-none (q == p) (option_and_then (λ name. walk_call old t name call.args) (call_name call.name)) h
  passed old (Grow u) h = refl
  passed old (Ready u bucket) h = refl

  first-there : (old : State) (steps : List Step) (replies : List Reply) (new : State) (done : run old steps replies new) → StaysFixed t (states old steps replies new done) → exists_in t old ≡ true
  first-there old [] [] new done stays = there-fixed t old stays.0
  first-there old (s ∷ steps) (r ∷ replies) new done stays = there-fixed t old stays.0
  first-there old [] (r ∷ replies) new done stays = absurd done
  first-there old (s ∷ steps) [] new done stays = absurd done

  -- ---- the walk
  abbrev walk_replies : List Term → List Reply
  walk_replies keys = map (λ key. Value key) keys ++ key_reply None ∷ []

  -- from these steps on the run is a walk, if the replies and the states are so
  abbrev WalksFrom : Option Term → List Term → List Step → Type 0
  WalksFrom call keys steps =
      (old new : State) (replies : List Reply) (done : run old steps replies new) → replies_to p steps replies ≡ walk_replies keys
      → StaysFixed t (states old steps replies new done) → Walks p t call keys old steps replies new done

  walks-others : (call : Option Term) (keys : List Term) (xs more : List Step) → AllByRecursion (λ s. is_step_of p s ≡ false) xs → WalksFrom call keys more → WalksFrom call keys (xs ++ more)
  walks-others call keys [] more others walks old new replies done is stays = walks old new replies done is stays
  walks-others call keys (x ∷ xs) more others walks old new [] done is stays = absurd done
  walks-others call keys (x ∷ xs) more others walks old new (r ∷ replies) done is stays =
      subst (λ (o : Option (Option Term × Bool)). MatchOption o (Walks p t call keys done.0 (xs ++ more) replies new done.2)
      (λ asked. (asked.0 ≡ call) × Answers asked.1 r (xs ++ more) keys (λ key keys. Walks p t (Some key) keys done.0 (xs ++ more) replies new done.2)))
      (sym (passed old x others.0))
      (walks-others call keys xs more others.1 walks done.0 new replies done.2 (sym (other-replied p x r (xs ++ more) replies others.0) ∙ is) stays.1)

  own-call : (call : Option Term) → is_step_of p (call_of p t call) ≡ true
  own-call None = number-same p
  own-call (Some key) = number-same p

  walks-turns : (turn : ℕ) (call : Option Term) (keys : List Term) (given : Given) → AllByRecursion (λ g. is_step_of p g.1 ≡ false) given → WalksFrom call keys (call_of p t call ∷ turns p t given turn keys)
  walks-turns turn call keys given others old new [] done is stays = absurd done
  walks-turns turn call [] given others old new (r ∷ replies) done is stays =
      let all : r ∷ replies_to p [] replies ≡ walk_replies [] = sym (own-replied p (call_of p t call) r [] replies (own-call call)) ∙ is in
      let here : r ≡ key_reply None = cc in
      subst (λ (o : Option (Option Term × Bool)). MatchOption o (Walks p t call [] done.0 [] replies new done.2)
      (λ asked. (asked.0 ≡ call) × Answers asked.1 r [] [] (λ key keys. Walks p t (Some key) keys done.0 [] replies new done.2)))
      (sym (asked old call (there-fixed t old stays.0))) (refl, (here, refl))
  walks-turns turn call (key ∷ keys) given others old new (r ∷ replies) done is stays =
      let rest = steps_at turn given ++ next p t key ∷ turns p t given (suc turn) keys in
      let all : r ∷ replies_to p rest replies ≡ walk_replies (key ∷ keys) = sym (own-replied p (call_of p t call) r rest replies (own-call call)) ∙ is in
      let here : r ≡ Value key = cc in
      let later : replies_to p rest replies ≡ walk_replies keys = cc in
      subst (λ (o : Option (Option Term × Bool)). MatchOption o (Walks p t call (key ∷ keys) done.0 rest replies new done.2)
      (λ asked. (asked.0 ≡ call) × Answers asked.1 r rest (key ∷ keys) (λ key keys. Walks p t (Some key) keys done.0 rest replies new done.2)))
      (sym (asked old call (there-fixed t old stays.0))) (
        refl,
        (
          here,
          walks-others (Some key) keys (steps_at turn given) (next p t key ∷ turns p t given (suc turn) keys) (others-of p t turn given others)
              (walks-turns (suc turn) (Some key) keys given others) done.0 new replies done.2 later stays.1,
        ),
      )

  pub walks-replied : (keys : List Term) (given : Given) → AllByRecursion (λ g. is_step_of p g.1 ≡ false) given → WalksFrom None keys (walk p t keys given)
  walks-replied keys given others old new replies done is stays = walks-turns 0 None keys given others old new replies done is stays
