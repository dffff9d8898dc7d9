-- While others do their steps the walker's fixes of a table stay, and with them the places of its keys.
use Rattle.std.proofs.Common.{◌≡◌, ℕ, zero, suc, ◌<◌, ◌⊎◌, inl, inr, Bool, true, false, ◌||◌, List, [], ◌∷◌, Option, None, Some, refl, sym, subst, ap, ◌∙◌, length, arith, true≢false, unwrap_or}
use Rattle.std.specs.Prelude.{is_some, nat_lt}
use Rattle.std.specs.List.{AllByRecursion, list_any}
use Rattle.std.specs.Map.{keys_of}
use Rattle.std.specs.Option.{option_map_or}
use Rattle.std.specs.Ordering.{nat_cmp}
use Rattle.std.specs.FinMap.{get-empty, len, empty_of_len}
use Rattle.std.proofs.lemmas.Bool.Decides.{nat_tests}
use Rattle.ets_term.specs.declared.term.Term.{Term}
use Rattle.ets_term.specs.Order.{same}
use Rattle.fixed_walk.specs.Fixes.{FixCounts, fix_count, is_fixed}
use Rattle.fixed_walk.specs.laws.Kept.{IsSubsequence}
use Rattle.ownership.specs.World.{Table, Tables, table_at}
use Rattle.node_core.specs.declared.step.Reply.{Reply}
use Rattle.node_core.specs.declared.step.Step.{Step}
use Rattle.node_core.specs.State.{State}
use Rattle.node_core.specs.Machine.{step, run}
use Rattle.node_core.specs.laws.Kept.{slots_in, is_fixed_in, StaysFixed}
use Rattle.node_core.specs.laws.Walk.{states}
use Rattle.node_core.specs.Woven.{is_step_of, fixes_in}
use Rattle.node_core.specs.inside.Walker.{exists_in}
use Rattle.node_core.proofs.moves.Moves.{Came}
use Rattle.node_core.proofs.calls.EachCall.{step-follows}
use Rattle.node_core.proofs.walks.WholeWalks.{ground}

-- ---- where the walker has a fix the table is fixed
fixed-of : (m : FixCounts) (p n : ℕ) → fix_count m p ≡ suc n → is_fixed m ≡ true
fixed-of m p n h = by (len m) refl
  where
    positive : (l : ℕ) → nat_lt 0 (suc l) ≡ true
    positive l = grind (arith, nat_tests)

    by : (l : ℕ) → len m ≡ l → is_fixed m ≡ true
    by zero l =
        let none : fix_count m p ≡ 0 = ap (λ (m' : FixCounts). fix_count m' p) (empty_of_len m l) ∙ ap (λ o. unwrap_or o 0) (get-empty nat_cmp p) in
        absurd (omega (arith, h, none))
    by (suc l) e = ap (nat_lt 0) e ∙ positive l

fixed-at : (p n : ℕ) (o : Option Table) → option_map_or (λ table. fix_count table.state.fixes p) o 0 ≡ suc n → option_map_or (λ table. is_fixed table.state.fixes) o false ≡ true
fixed-at p n None h = absurd (omega (arith, h))
fixed-at p n (Some table) h = fixed-of table.state.fixes p n h

pub fixed-in : (p t n : ℕ) (s : State) → fixes_in p t s ≡ suc n → is_fixed_in t s ≡ true
fixed-in p t n s h = fixed-at p n (table_at s.world.tables t) h

there-at : (o : Option Table) → option_map_or (λ table. is_fixed table.state.fixes) o false ≡ true → is_some o ≡ true
there-at None h = absurd (true≢false (sym h))
there-at (Some table) h = refl

pub there-fixed : (t : ℕ) (s : State) → is_fixed_in t s ≡ true → exists_in t s ≡ true
there-fixed t s h = there-at (table_at s.world.tables t) h

-- ---- a key that has a place keeps it
or-left : (a b : Bool) → a ≡ true → (a || b) ≡ true
or-left true b h = refl
or-left false b h = absurd (true≢false (sym h))

or-right : (a b : Bool) → b ≡ true → (a || b) ≡ true
or-right true b h = refl
or-right false b h = h

or-either : (a b : Bool) → (a || b) ≡ true → (a ≡ true) ⊎ (b ≡ true)
or-either true b h = inl refl
or-either false b h = inr h

any-at : (k x y : Term) (xs ys : List Term) → x ≡ y → (list_any (same k) xs ≡ true → list_any (same k) ys ≡ true) → (same k x ≡ true) ⊎ (list_any (same k) xs ≡ true) → list_any (same k) (y ∷ ys) ≡ true
any-at k x y xs ys e rest (inl here) = or-left (same k y) (list_any (same k) ys) (ap (same k) (sym e) ∙ here)
any-at k x y xs ys e rest (inr later) = or-right (same k y) (list_any (same k) ys) (rest later)

pub sub-any : (k : Term) (xs ys : List Term) → IsSubsequence xs ys → list_any (same k) xs ≡ true → list_any (same k) ys ≡ true
sub-any k [] ys sub h = absurd (true≢false (sym h))
sub-any k (x ∷ xs) [] sub h = absurd sub
sub-any k (x ∷ xs) (y ∷ ys) (inl first) h = any-at k x y xs ys first.0 (sub-any k xs ys first.1) (or-either (same k x) (list_any (same k) xs) h)
sub-any k (x ∷ xs) (y ∷ ys) (inr later) h = or-right (same k y) (list_any (same k) ys) (sub-any k (x ∷ xs) ys later h)

module _ (p t : ℕ) where
  -- ---- one step of another
  record Kept (old new : State) : Type 0 where
    long : t < length old.world.tables → t < length new.world.tables
    there : t < length old.world.tables → exists_in t new ≡ true → (exists_in t old ≡ true) × (fixes_in p t new ≡ fixes_in p t old)

  -- what is there was there, with as many fixes
  there-kept : (s : Step) → is_step_of p s ≡ false → (o o' : Option Table) (ts : Tables) → t < length ts → ((table : Table) → o' ≡ Some table → Came (λ w. is_step_of w s) ts t o table) → is_some o' ≡ true
      → (is_some o ≡ true) × (option_map_or (λ table. fix_count table.state.fixes p) o' 0 ≡ option_map_or (λ table. fix_count table.state.fixes p) o 0)
  there-kept s other o None ts within came here = absurd (true≢false (sym here))
  there-kept s other None (Some table) ts within came here = let new = came table refl in let place = new.place in absurd (omega (arith, within, place))
  there-kept s other (Some was) (Some table) ts within came here = let stays = came table refl in (refl, stays.fixed.fixes p other)

  other-kept : (old new : State) (s : Step) (r : Reply) → is_step_of p s ≡ false → step old s r new → Kept old new
  other-kept old new s r other h =
      let follows = step-follows old new s r h in
      let long = follows.long in
      record {
        long = λ within. omega (arith, within, long);
        there = λ within here. there-kept s other (table_at old.world.tables t) (table_at new.world.tables t) old.world.tables within (λ table at. follows.came t table at) here;
      }

  module _ (n : ℕ) where
    -- the walker has one fix more than before the walk, where the table is there
    abbrev pub Has : State → Type 0
    Has s = exists_in t s ≡ true → fixes_in p t s ≡ suc n

    abbrev pub HasPlace : Term → State → Type 0
    HasPlace key s = exists_in t s ≡ true → list_any (same key) (keys_of (slots_in t s)) ≡ true

    -- what is shown of steps of others
    pub record Ran (old : State) (steps : List Step) (replies : List Reply) (new : State) (done : run old steps replies new) : Type 0 where
      pub long : t < length new.world.tables
      pub fixes : Has new
      pub place : (key : Term) → HasPlace key old → HasPlace key new
      pub there : exists_in t new ≡ true → exists_in t old ≡ true
      pub stays_fixed : exists_in t new ≡ true → StaysFixed t (states old steps replies new done)

    has-then : (old mid : State) → t < length old.world.tables → Has old → Kept old mid → Has mid
    has-then old mid within has kept here = let was = kept.there within here in was.1 ∙ has was.0

    fixed-before : (old mid : State) → t < length old.world.tables → Has old → Kept old mid → exists_in t mid ≡ true → is_fixed_in t old ≡ true
    fixed-before old mid within has kept here = let was = kept.there within here in fixed-in p t n old (has was.0)

    place-then : (old mid : State) (s : Step) (r : Reply) → step old s r mid → t < length old.world.tables → Has old → Kept old mid → (key : Term) → HasPlace key old → HasPlace key mid
    place-then old mid s r h within has kept key had here =
        let was = kept.there within here in
        sub-any key (keys_of (slots_in t old)) (keys_of (slots_in t mid))
        (ground old mid s r t h (fixed-before old mid within has kept here) (fixed-in p t n mid (has-then old mid within has kept here))) (had was.0)

    pub others-ran : (old : State) (steps : List Step) (replies : List Reply) (new : State) (h : run old steps replies new) → AllByRecursion (λ s. is_step_of p s ≡ false) steps → t < length old.world.tables → Has old → Ran old steps replies new h
    others-ran old [] [] new h all within has = record {
      long = subst (λ (s : State). t < length s.world.tables) (sym h) within;
      fixes = subst Has (sym h) has;
      place = λ key had. subst (HasPlace key) (sym h) had;
      there = λ here. was here;
      stays_fixed = λ here. (fixed-in p t n old (has (was here)), tt);
    }
      where
        was : exists_in t new ≡ true → exists_in t old ≡ true
        was here = subst (λ (s : State). exists_in t s ≡ true) h here
    others-ran old (s ∷ steps) (r ∷ replies) new h all within has =
        let mid = h.0 in
        let kept = other-kept old mid s r all.0 h.1 in
        let rest = others-ran mid steps replies new h.2 all.1 (kept.long within) (has-then old mid within has kept) in
        record {
          long = rest.long;
          fixes = rest.fixes;
          place = λ key had. rest.place key (place-then old mid s r h.1 within has kept key had);
          there = λ here. let before = kept.there within (rest.there here) in before.0;
          stays_fixed = λ here. (fixed-before old mid within has kept (rest.there here), rest.stays_fixed here);
        }
    others-ran old [] (r ∷ replies) new h all within has = absurd h
    others-ran old (s ∷ steps) [] new h all within has = absurd h
