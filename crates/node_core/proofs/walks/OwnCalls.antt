-- The walker's own calls are steps of the machine, and what they find can be walked on from.
use Rattle.std.proofs.Common.{◌≡◌, ℕ, zero, suc, ◌+◌, ◌-◌, ◌<◌, ◌==◌, ◌&&◌, ◌||◌, not, Bool, true, false, cond, List, [], ◌∷◌, Option, None, Some, option_map, option_and_then, Ok, Err, refl, sym, subst, ap, ◌∙◌, codes, arith, rules, true≢false}
use Rattle.std.specs.Prelude.{MatchOption, is_some, slice_get, slice_set, nat_lt, nat_le, unwrap_or}
use Rattle.std.specs.Bool.{MatchBool}
use Rattle.std.specs.List.{list_any}
use Rattle.std.specs.Map.{keys_of}
use Rattle.std.specs.Option.{option_map_or}
use Rattle.std.proofs.lemmas.Bool.Decides.{nat_tests}
use Rattle.ets_term.specs.declared.term.Term.{Term, out-Term, the_lemmas}
use Rattle.ets_term.specs.declared.term.Term.TheOpen.{Term-F}
use Rattle.ets_term.specs.declared.term.Term.TheVariants.{Atom, Tid}
use Rattle.ets_term.specs.declared.term.TheConstants.{MAX_DEPTH}
use Rattle.ets_term.specs.Atoms.{is_atom}
use Rattle.ets_term.specs.Depth.{depth, is_too_deep, element_at}
use Rattle.ets_term.specs.Views.{tuple_form}
use Rattle.ets_term.specs.Order.{same}
use Rattle.ets_term.specs.laws.Same.{same-refl}
use Rattle.bucket_table.specs.Slots.{Slot, has_objects, slots_behind}
use Rattle.bucket_table.specs.Rows.{HasDistinctKeys}
use Rattle.table_ops.specs.declared.kind.Kind.{Kind}
use Rattle.table_ops.specs.Invariants.{IsContent, IsSlot, AreSlots}
use Rattle.table_ops.proofs.TupleLaws.{fit-of}
use Rattle.table_ops.specs.Outcomes.{gives}
use Rattle.fixed_walk.specs.Fixes.{max_fixes, fix_count, with_count}
use Rattle.fixed_walk.specs.TableState.{TableState, IncrementsFix, after_release}
use Rattle.fixed_walk.specs.declared.fault.FixFault.{FixFault}
use Rattle.fixed_walk.specs.declared.fault.FixFault.TheVariants as fixing
use Rattle.fixed_walk.specs.Walk.{first_key, next_key}
use Rattle.fixed_walk.specs.laws.Walks.{walk_answer}
use Rattle.ownership.specs.Access.{may_read}
use Rattle.ownership.specs.Lookups.{has_access}
use Rattle.ownership.specs.World.{Table, Tables, table_at, lives}
use Rattle.ownership.specs.inside.States.{table_with_state}
use Rattle.ownership.proofs.MetadataLaws.{fixed-same}
use Rattle.node_core.specs.declared.node.access.Access.TheVariants.{Read}
use Rattle.node_core.specs.declared.step.Reply.{Reply}
use Rattle.node_core.specs.declared.step.Reply.TheVariants.{Badarg, SystemLimit, NoProcess}
use Rattle.node_core.specs.declared.step.Step.TheVariants.{Ask}
use Rattle.node_core.specs.declared.walk.WalkFault.TheVariants as fault
use Rattle.node_core.specs.State.{State}
use Rattle.node_core.specs.Observable.{observable_table, observable}
use Rattle.node_core.specs.Access.{table_if_allowed, usable, with_table, CallRule, changes}
use Rattle.node_core.specs.Calls.{call_by_text}
use Rattle.node_core.specs.Machine.{step}
use Rattle.node_core.specs.rules.Growth.{step_on_buckets}
use Rattle.node_core.specs.rules.Replies.{true_reply}
use Rattle.node_core.specs.rules.Walking.{Fixes, Releases, key_reply, first_reply, next_reply}
use Rattle.node_core.specs.laws.Kept.{slots_in}
use Rattle.node_core.specs.laws.Reached.{HasNoEnd}
use Rattle.node_core.specs.Woven.{fix, release, first, next, can_read, fixes_in}
use Rattle.node_core.specs.inside.Refusals.{walk_fault_of}
use Rattle.node_core.specs.inside.Walker.{exists_in, CanContinue, call_of, FindsKey, FixesTable, UnfixesTable}
use Rattle.node_core.proofs.buckets.ObservableTables.{at-observable}
use Rattle.node_core.proofs.buckets.Steps.{done-observable, done-buckets}
use Rattle.node_core.proofs.moves.Preserves.{own-count, without_tombstones-fixes}

-- ---- what a walk finds in the slots
or-left : (a b : Bool) → a ≡ true → (a || b) ≡ true
or-left true b h = refl
or-left false b h = absurd (true≢false (sym h))

or-right : (a b : Bool) → b ≡ true → (a || b) ≡ true
or-right true b h = refl
or-right false b h = h

or-false : (a b : Bool) → a ≡ false → b ≡ false → (a || b) ≡ false
or-false true b h k = absurd (true≢false h)
or-false false b h k = k

-- a key from which a traversal of any table may continue
abbrev IsGood : Term → Type 0
IsGood key = (is_too_deep key ≡ false) × (is_atom (codes "$end_of_table") key ≡ false)

abbrev HasSlot : List Slot → Term → Type 0
HasSlot slots key = list_any (same key) (keys_of slots) ≡ true

element-in : (y : Term-F Term) (object : Term) (i : ℕ) (key : Term) → out-Term object ≡ y → is_too_deep object ≡ false → slice_get (unwrap_or (tuple_form y) []) i ≡ Some key → is_too_deep key ≡ false
element-in (Term-F.Tuple es) object i key e shallow at = fits (depth key) (fit-of object es e shallow i key at)
  where
    fits : (n : ℕ) → nat_le MAX_DEPTH n ≡ false → nat_lt MAX_DEPTH n ≡ false
    fits n h = grind (arith, nat_tests)
element-in (Term-F.Int n) object i key e shallow at = cc
element-in (Term-F.Atom n) object i key e shallow at = cc
element-in (Term-F.Pid n) object i key e shallow at = cc
element-in (Term-F.Tid n) object i key e shallow at = cc
element-in (Term-F.List n) object i key e shallow at = cc
element-in (Term-F.Binary n) object i key e shallow at = cc

element-by : (b : Bool) (object : Term) (i : ℕ) (key : Term) → is_too_deep object ≡ false → cond b None (slice_get (unwrap_or (tuple_form (out-Term object)) []) i) ≡ Some key → is_too_deep key ≡ false
element-by true object i key shallow e = cc
element-by false object i key shallow e = element-in (out-Term object) object i key refl shallow e

key-by : (b : Bool) (own key : Term) → cond b None (Some own) ≡ Some key → own ≡ key
key-by true own key e = cc
key-by false own key e = cc

key-in : (keypos : ℕ) (object key : Term) (o : Option Term) → element_at keypos object ≡ o → is_too_deep object ≡ false → option_and_then (λ key. cond (is_atom (codes "$end_of_table") key) None (Some key)) o ≡ Some key → is_too_deep key ≡ false
key-in keypos object key None at shallow e = cc
key-in keypos object key (Some own) at shallow e =
    let is = key-by (is_atom (codes "$end_of_table") own) own key e in
    element-by (keypos == 0) object (keypos - 1) key shallow (at ∙ ap Some is)

stored-good : (kind : Kind) (keypos : ℕ) (key : Term) (objects : List Term) → has_objects objects ≡ true → IsSlot kind keypos (key, objects) → IsGood key
stored-good kind keypos key [] h is = absurd (true≢false (sym h))
stored-good kind keypos key (o ∷ objects) h is =
    let stored = is.stored in
    (key-in keypos o key (element_at keypos o) refl stored.0.shallow stored.0.its_key, is.key)

module _ (kind : Kind) (keypos : ℕ) where
  first-by : (b : Bool) (s : Slot) (ss : List Slot) (k : Term) → has_objects s.1 ≡ b → IsSlot kind keypos s → (first_key ss ≡ Some k → IsGood k × HasSlot ss k) → cond b (Some s.0) (first_key ss) ≡ Some k → IsGood k × HasSlot (s ∷ ss) k
  first-by true s ss k h is rest e =
      let own : s.0 ≡ k = cc in
      (subst IsGood own (stored-good kind keypos s.0 s.1 h is), or-left (same k s.0) (list_any (same k) (keys_of ss)) (ap (same k) own ∙ same-refl k))
  first-by false s ss k h is rest e = let later = rest e in (later.0, or-right (same k s.0) (list_any (same k) (keys_of ss)) later.1)

  first-found : (ss : List Slot) (k : Term) → AreSlots kind keypos ss → first_key ss ≡ Some k → IsGood k × HasSlot ss k
  first-found [] k are e = cc
  first-found (s ∷ ss) k are e = first-by (has_objects s.1) s ss k refl are.0 (first-found ss k are.1) e

  behind-by : (b : Bool) (s : Slot) (ss : List Slot) (c k : Term) → AreSlots kind keypos ss → (option_map first_key (slots_behind ss c) ≡ Some (Some k) → IsGood k × HasSlot ss k)
      → option_map first_key (cond b (Some ss) (slots_behind ss c)) ≡ Some (Some k) → IsGood k × HasSlot (s ∷ ss) k
  behind-by true s ss c k are rest e = let is : first_key ss ≡ Some k = cc in let later = first-found ss k are is in (later.0, or-right (same k s.0) (list_any (same k) (keys_of ss)) later.1)
  behind-by false s ss c k are rest e = let later = rest e in (later.0, or-right (same k s.0) (list_any (same k) (keys_of ss)) later.1)

  next-found : (ss : List Slot) (c k : Term) → AreSlots kind keypos ss → next_key ss c ≡ Some (Some k) → IsGood k × HasSlot ss k
  next-found [] c k are e = cc
  next-found (s ∷ ss) c k are e = behind-by (same c s.0) s ss c k are.1 (next-found ss c k are.1) e

  answer-found : (asked : Option Term) (ss : List Slot) (k : Term) → AreSlots kind keypos ss → walk_answer asked ss ≡ Some (Some k) → IsGood k × HasSlot ss k
  answer-found None ss k are e = let is : first_key ss ≡ Some k = cc in first-found ss k are is
  answer-found (Some c) ss k are e = next-found ss c k are e

-- a key that has a slot has slots after it
slot-by : (b : Bool) (s : Slot) (ss : List Slot) (c : Term) → same c s.0 ≡ b → (list_any (same c) (keys_of ss) ≡ true → slots_behind ss c ≡ None → ⊥) → (b || list_any (same c) (keys_of ss)) ≡ true → cond b (Some ss) (slots_behind ss c) ≡ None → ⊥
slot-by true s ss c hit rest h e = absurd (cc)
slot-by false s ss c hit rest h e = rest h e

has-behind : (ss : List Slot) (c : Term) → HasSlot ss c → slots_behind ss c ≡ None → ⊥
has-behind [] c h e = true≢false (sym h)
has-behind (s ∷ ss) c h e = slot-by (same c s.0) s ss c refl (has-behind ss c) h e

behind-none : (o : Option (List Slot)) → option_map first_key o ≡ None → o ≡ None
behind-none None e = refl
behind-none (Some ss) e = absurd (cc)

-- ---- the parts of may-read
both-true : (a b : Bool) → (a && b) ≡ true → (a ≡ true) × (b ≡ true)
both-true true true e = (refl, refl)
both-true true false e = absurd (true≢false (sym e))
both-true false b e = absurd (true≢false (sym e))

module _ (p t : ℕ) where
  has_access-observable : (o : Option Table) → option_map_or (λ table. may_read table.metadata p) (option_map observable_table o) false ≡ option_map_or (λ table. may_read table.metadata p) o false
  has_access-observable None = refl
  has_access-observable (Some table) = refl

  pub can_read-observable : (s : State) → can_read p t (observable s) ≡ can_read p t s
  can_read-observable s = ap (λ b. lives s.world.processes p && b) (ap (λ o. option_map_or (λ table. may_read table.metadata p) o false) (at-observable s.world.tables t) ∙ has_access-observable (table_at s.world.tables t))

  count-observable : (o : Option Table) → option_map_or (λ table. fix_count table.state.fixes p) (option_map observable_table o) 0 ≡ option_map_or (λ table. fix_count table.state.fixes p) o 0
  count-observable None = refl
  count-observable (Some table) = refl

  fixes-observable : (s : State) → fixes_in p t (observable s) ≡ fixes_in p t s
  fixes-observable s = ap (λ o. option_map_or (λ table. fix_count table.state.fixes p) o 0) (at-observable s.world.tables t) ∙ count-observable (table_at s.world.tables t)

  slots-at : (o : Option Table) → option_map_or (λ table. table.state.content.slots) (option_map observable_table o) [] ≡ option_map_or (λ table. table.state.content.slots) o []
  slots-at None = refl
  slots-at (Some table) = refl

  slots-observable : (s : State) → slots_in t (observable s) ≡ slots_in t s
  slots-observable s = ap (λ o. option_map_or (λ table. table.state.content.slots) o []) (at-observable s.world.tables t) ∙ slots-at (table_at s.world.tables t)

  -- ---- steps
  shallow-tid : is_too_deep (Tid t) ≡ false
  shallow-tid = ap (nat_lt MAX_DEPTH) flat
    where
      flat : depth (Tid t) ≡ 1
      flat = search (rules, the_lemmas)

  shallow-atom : (text : List ℕ) → is_too_deep (Atom text) ≡ false
  shallow-atom text = ap (nat_lt MAX_DEPTH) (flat text)
    where
      flat : (text : List ℕ) → depth (Atom text) ≡ 1
      flat text = search (rules, the_lemmas)

  shallow-one : list_any is_too_deep (Tid t ∷ []) ≡ false
  shallow-one = or-false (is_too_deep (Tid t)) false shallow-tid refl

  shallow-two : (x : Term) → is_too_deep x ≡ false → list_any is_too_deep (Tid t ∷ x ∷ []) ≡ false
  shallow-two x h = or-false (is_too_deep (Tid t)) (is_too_deep x || false) shallow-tid (or-false (is_too_deep x) false h refl)

  module _ (s : State) (table : Table) (at : table_at s.world.tables t ≡ Some table) (living : lives s.world.processes p ≡ true) (readable : may_read table.metadata p ≡ true) where
    usable-own : usable Read s.world.tables p (Tid t) ≡ Some (t, table)
    unfolding out-Term denote.Hole.Carrier.out
    usable-own =
        ap (λ o. option_and_then (λ u. option_and_then (table_if_allowed Read p u) (table_at s.world.tables u)) (option_map (λ _. t) o)) at
        ∙ (ap (λ o. option_and_then (table_if_allowed Read p t) o) at ∙ ap (λ (b : Bool). cond b (Some (t, table)) None) readable)

    ask-done : (name : List ℕ) (args : List Term) (r : Reply) (new : State) → list_any is_too_deep args ≡ false → call_by_text s p name args r new → step s (Ask p (record { name = name; args = args })) r new
    ask-done name args r new shallow h =
        subst (λ (b : Bool). MatchBool (not b) (gives NoProcess s r new) (MatchBool (list_any is_too_deep args) (gives SystemLimit s r new) (call_by_text s p name args r new))) (sym living)
        (subst (λ (b : Bool). MatchBool b (gives SystemLimit s r new) (call_by_text s p name args r new)) (sym shallow) h)

    abbrev slots : List Slot
    slots = table.state.content.slots

    first-done : (found : Option Term) → walk_answer None slots ≡ Some found → step s (first p t) (key_reply found) s
    first-done found e =
        let is : first_key slots ≡ found = cc in
        ask-done (codes "first") (Tid t ∷ []) (key_reply found) s shallow-one
        (subst (λ o. MatchOption o (gives Badarg s (key_reply found) s) (λ found2. gives (first_reply found2.1.state) s (key_reply found) s)) (sym usable-own) (ap key_reply (sym is), refl))

    next-done : (key : Term) (found : Option Term) → is_too_deep key ≡ false → walk_answer (Some key) slots ≡ Some found → step s (next p t key) (key_reply found) s
    next-done key found shallow e =
        ask-done (codes "next") (Tid t ∷ key ∷ []) (key_reply found) s (shallow-two key shallow)
        (subst (λ o. MatchOption o (gives Badarg s (key_reply found) s) (λ found2. gives (next_reply key found2.1.state) s (key_reply found) s)) (sym usable-own) (sym (ap (λ o. option_map_or key_reply o Badarg) e), refl))

    call-done : (asked found : Option Term) → MatchOption asked (Unit {0}) (λ key. is_too_deep key ≡ false) → walk_answer asked slots ≡ Some found → step s (call_of p t asked) (key_reply found) s
    call-done None found shallow e = first-done found e
    call-done (Some key) found shallow e = next-done key found shallow e

    true-atom : is_atom (codes "true") (Atom (codes "true")) ≡ true
    unfolding out-Term denote.Hole.Carrier.out
    true-atom = refl

    false-true : is_atom (codes "true") (Atom (codes "false")) ≡ false
    unfolding out-Term denote.Hole.Carrier.out
    false-true = refl

    false-atom : is_atom (codes "false") (Atom (codes "false")) ≡ true
    unfolding out-Term denote.Hole.Carrier.out
    false-atom = refl

    changed : (rule : CallRule) (f : TableState) → rule table.state true_reply f → changes s p Read (Tid t) rule true_reply (with_table s t f)
    changed rule f h = subst (λ o. MatchOption o (gives Badarg s true_reply (with_table s t f)) (λ found. (fixed : TableState) × rule found.1.state true_reply fixed × (with_table s t f ≡ with_table s found.0 fixed))) (sym usable-own) (f, h, refl)

    fix-done : (f : TableState) → IncrementsFix p table.state (Ok tt) f → step s (fix p t) true_reply (with_table s t f)
    fix-done f h =
        ask-done (codes "safe_fixtable") (Tid t ∷ Atom (codes "true") ∷ []) true_reply (with_table s t f) (shallow-two (Atom (codes "true")) (shallow-atom (codes "true")))
        (subst (λ (b : Bool). MatchBool b (changes s p Read (Tid t) (Fixes p) true_reply (with_table s t f)) (
        MatchBool (is_atom (codes "false") (Atom (codes "true"))) (changes s p Read (Tid t) (Releases p) true_reply (with_table s t f)) (gives Badarg s true_reply (with_table s t f)))) (sym true-atom)
        (changed (Fixes p) f (Ok tt, h, refl)))

    release-done : (f : TableState) → f ≡ after_release p table.state → step s (release p t) true_reply (with_table s t f)
    release-done f h =
        ask-done (codes "safe_fixtable") (Tid t ∷ Atom (codes "false") ∷ []) true_reply (with_table s t f) (shallow-two (Atom (codes "false")) (shallow-atom (codes "false")))
        (subst (λ (b : Bool). MatchBool b (changes s p Read (Tid t) (Fixes p) true_reply (with_table s t f)) (
        MatchBool (is_atom (codes "false") (Atom (codes "false"))) (changes s p Read (Tid t) (Releases p) true_reply (with_table s t f)) (gives Badarg s true_reply (with_table s t f)))) (sym false-true)
        (subst (λ (b : Bool). MatchBool b (changes s p Read (Tid t) (Releases p) true_reply (with_table s t f)) (gives Badarg s true_reply (with_table s t f))) (sym false-atom)
        (changed (Releases p) f (refl, h))))

  -- ---- the table after a change
  set-here : (ts : Tables) (u : ℕ) (o : Option Table) (table : Table) → table_at ts u ≡ Some table → table_at (slice_set ts u o) u ≡ o
  set-here [] u o table e = cc
  set-here (x ∷ xs) zero o table e = refl
  set-here (x ∷ xs) (suc u) o table e = set-here xs u o table e

  count-after : (s : State) (f : TableState) (table : Table) → table_at s.world.tables t ≡ Some table → fixes_in p t (observable (with_table s t f)) ≡ fix_count f.fixes p
  count-after s f table at =
      fixes-observable (with_table s t f)
      ∙ (ap (λ o. option_map_or (λ table. fix_count table.state.fixes p) o 0) (set-here s.world.tables t (table_with_state (table_at s.world.tables t) f) table at)
      ∙ ap (λ o. option_map_or (λ table. fix_count table.state.fixes p) (table_with_state o f) 0) at)

  count-before : (s : State) (table : Table) → table_at s.world.tables t ≡ Some table → fixes_in p t (observable s) ≡ fix_count table.state.fixes p
  count-before s table at = fixes-observable s ∙ ap (λ o. option_map_or (λ table. fix_count table.state.fixes p) o 0) at

  slots-after : (s : State) (f : TableState) (table : Table) → table_at s.world.tables t ≡ Some table → slots_in t (observable (with_table s t f)) ≡ f.content.slots
  slots-after s f table at =
      slots-observable (with_table s t f)
      ∙ (ap (λ o. option_map_or (λ table. table.state.content.slots) o []) (set-here s.world.tables t (table_with_state (table_at s.world.tables t) f) table at)
      ∙ ap (λ o. option_map_or (λ table. table.state.content.slots) (table_with_state o f) []) at)

  slots-free : (kind : Kind) (keypos : ℕ) (ss : List Slot) → AreSlots kind keypos ss → HasNoEnd ss
  slots-free kind keypos [] are = tt
  slots-free kind keypos (s ∷ ss) are = (are.0.key, slots-free kind keypos ss are.1)

  -- the borrowed table: its identifier, its owner's access and its content
  record Borrowed (s : State) (was : TableState) : Type 0 where
    table : Table
    at : table_at s.world.tables t ≡ Some table
    is : was ≡ table.state
    living : lives s.world.processes p ≡ true
    readable : may_read table.metadata p ≡ true

  borrowed-at : (s : State) (was : TableState) (o : Option Table) → table_at s.world.tables t ≡ o → Some was ≡ option_map (λ table. table.state) o → lives s.world.processes p ≡ true → option_map_or (λ table. may_read table.metadata p) o false ≡ true → Borrowed s was
  borrowed-at s was None at e living readable = absurd (cc)
  borrowed-at s was (Some table) at e living readable = record { table = table; at = at; is = cc; living = living; readable = readable }

  borrowed : (s : State) (was : TableState) → Some was ≡ option_map (λ table. table.state) (table_at s.world.tables t) → can_read p t s ≡ true → Borrowed s was
  borrowed s was e h =
      let parts = both-true (lives s.world.processes p) (has_access may_read s.world.tables p t) h in
      borrowed-at s was (table_at s.world.tables t) refl e parts.0 parts.1

  not-borrowed-at : (o : Option Table) → option_map (λ table. table.state) o ≡ None → option_map_or (λ table. may_read table.metadata p) o false ≡ false
  not-borrowed-at None e = refl
  not-borrowed-at (Some table) e = absurd (cc)

  and-false : (a b : Bool) → b ≡ false → (a && b) ≡ false
  and-false true b h = h
  and-false false b h = refl

  -- there is no table
  pub not-borrowed : (s : State) → None ≡ option_map (λ table. table.state) (table_at s.world.tables t) → can_read p t s ≡ false
  not-borrowed s e = and-false (lives s.world.processes p) (has_access may_read s.world.tables p t) (not-borrowed-at (table_at s.world.tables t) (sym e))

  same-after : (s : State) (f : TableState) (table : Table) → table_at s.world.tables t ≡ Some table → f ≡ table.state → with_table s t f ≡ s
  same-after s f table at e =
      ap (λ g. with_table s t g) e ∙ ap (λ ts. record s { world = record s.world { tables = ts } }) (fixed-same s.world.tables t table at)

  module _ (s : State) (was f : TableState) (there : Some was ≡ option_map (λ table. table.state) (table_at s.world.tables t)) (can : can_read p t s ≡ true) where
    pub fix-refines : IncrementsFix p was (Ok tt) f → IsContent was.content → FixesTable p t (observable s) (Ok tt) (observable (with_table s t f))
    fix-refines h is =
        let l = borrowed s was there can in
        let once : IncrementsFix p l.table.state (Ok tt) f = subst (λ g. IncrementsFix p g (Ok tt) f) l.is h in (
          done-observable s (with_table s t f) (fix p t) true_reply (fix-done s l.table l.at l.living l.readable f once),
          count-after s f l.table l.at ∙ (ap (λ (g : TableState). fix_count g.fixes p) once.1 ∙ (own-count l.table.state.fixes p (fix_count l.table.state.fixes p + 1) ∙ (more (fix_count l.table.state.fixes p) ∙ ap suc (sym (count-before s l.table l.at))))),
          subst (λ ss. HasDistinctKeys ss × HasNoEnd ss) (sym (slots-after s f l.table l.at ∙ ap (λ (g : TableState). g.content.slots) h.1)) (is.distinct, slots-free was.content.kind was.content.keypos was.content.slots is.slots),
        )
      where
        more : (n : ℕ) → n + 1 ≡ suc n
        more n = omega arith

    fix-limit : IncrementsFix p was (Err fixing.SystemLimit) f → FixesTable p t (observable s) (Err fault.SystemLimit) (observable (with_table s t f))
    fix-limit h =
        let l = borrowed s was there can in
        (can_read-observable s ∙ can, count-before s l.table l.at ∙ (ap (λ (g : TableState). fix_count g.fixes p) (sym l.is) ∙ h.0), ap observable (same-after s f l.table l.at (h.1 ∙ l.is)))

    fix-memory : IncrementsFix p was (Err fixing.Memory) f → FixesTable p t (observable s) (Err fault.Memory) (observable (with_table s t f))
    fix-memory h =
        let l = borrowed s was there can in
        let few : fixes_in p t (observable s) < max_fixes = subst (λ n. n < max_fixes) (sym (count-before s l.table l.at ∙ ap (λ (g : TableState). fix_count g.fixes p) (sym l.is))) h.0 in
        (can_read-observable s ∙ can, few, ap observable (same-after s f l.table l.at (h.1 ∙ l.is)))

    pub fix-refused : (why : FixFault) → IncrementsFix p was (Err why) f → FixesTable p t (observable s) (Err (walk_fault_of why)) (observable (with_table s t f))
    fix-refused fixing.SystemLimit h = fix-limit h
    fix-refused fixing.Memory h = fix-memory h

    pub fix-buckets : IncrementsFix p was (Ok tt) f → step_on_buckets s (fix p t) true_reply (with_table s t f)
    fix-buckets h =
        let l = borrowed s was there can in
        let once : IncrementsFix p l.table.state (Ok tt) f = subst (λ g. IncrementsFix p g (Ok tt) f) l.is h in
        done-buckets s (with_table s t f) (fix p t) true_reply (fix-done s l.table l.at l.living l.readable f once)

    fix-unchanged : f ≡ was → with_table s t f ≡ s
    fix-unchanged same = let l = borrowed s was there can in same-after s f l.table l.at (same ∙ l.is)

    pub fix-refused-unchanged : (why : FixFault) → IncrementsFix p was (Err why) f → with_table s t f ≡ s
    fix-refused-unchanged fixing.SystemLimit h = fix-unchanged h.1
    fix-refused-unchanged fixing.Memory h = fix-unchanged h.1

    pub let-go-buckets : f ≡ after_release p was → step_on_buckets s (release p t) true_reply (with_table s t f)
    let-go-buckets h =
        let l = borrowed s was there can in
        let once : f ≡ after_release p l.table.state = h ∙ ap (after_release p) l.is in
        done-buckets s (with_table s t f) (release p t) true_reply (release-done s l.table l.at l.living l.readable f once)

    pub let-go : f ≡ after_release p was → UnfixesTable p t (observable s) true (observable (with_table s t f))
    let-go h =
        let l = borrowed s was there can in
        let once : f ≡ after_release p l.table.state = h ∙ ap (after_release p) l.is in (
          can_read-observable s ∙ can,
          done-observable s (with_table s t f) (release p t) true_reply (release-done s l.table l.at l.living l.readable f once),
          λ n e.
              count-after s f l.table l.at ∙ (ap (λ (g : TableState). fix_count g.fixes p) once
              ∙ (ap (λ m. fix_count m p) (without_tombstones-fixes (record l.table.state { fixes = with_count l.table.state.fixes p (fix_count l.table.state.fixes p - 1) }))
              ∙ (own-count l.table.state.fixes p (fix_count l.table.state.fixes p - 1) ∙ less n (fix_count l.table.state.fixes p) (sym (count-before s l.table l.at) ∙ e)))),
        )
      where
        less : (n m : ℕ) → m ≡ suc n → m - 1 ≡ n
        less n m e = omega (arith, e)

  -- ---- what the walk's calls find
  can-shallow : (s : State) (asked : Option Term) → CanContinue t s asked → MatchOption asked (Unit {0}) (λ key. is_too_deep key ≡ false)
  can-shallow s None h = tt
  can-shallow s (Some key) h = h.shallow

  module _ (s : State) (was : TableState) (there : Some was ≡ option_map (λ table. table.state) (table_at s.world.tables t)) (can : can_read p t s ≡ true) (is : IsContent was.content) where
    borrowed-slots : was.content.slots ≡ slots_in t (observable s)
    borrowed-slots = let l = borrowed s was there can in ap (λ (g : TableState). g.content.slots) l.is ∙ (sym (ap (λ o. option_map_or (λ table. table.state.content.slots) o []) l.at) ∙ sym (slots-observable s))

    goes-on : (asked found : Option Term) → walk_answer asked was.content.slots ≡ Some found → CanContinue t (observable s) found
    goes-on asked None e = tt
    goes-on asked (Some key) e =
        let good = answer-found was.content.kind was.content.keypos asked was.content.slots key is.slots e in
        record { slot = λ here. subst (λ (ss : List Slot). HasSlot ss key) borrowed-slots good.1; shallow = good.0.0; no_end = good.0.1 }

    pub finds : (asked found : Option Term) → CanContinue t (observable s) asked → walk_answer asked was.content.slots ≡ Some found → FindsKey p t asked (observable s) (Ok found)
    finds asked found can_go e =
        let l = borrowed s was there can in
        let answer : walk_answer asked l.table.state.content.slots ≡ Some found = subst (λ (g : TableState). walk_answer asked g.content.slots ≡ Some found) l.is e in
        (can_read-observable s ∙ can, call-observable asked found (call-done s l.table l.at l.living l.readable asked found (can-shallow (observable s) asked can_go) answer), goes-on asked found e)
      where
        call-observable : (asked found : Option Term) → step s (call_of p t asked) (key_reply found) s → step (observable s) (call_of p t asked) (key_reply found) (observable s)
        call-observable None found h = done-observable s s (first p t) (key_reply found) h
        call-observable (Some key) found h = done-observable s s (next p t key) (key_reply found) h

    there-observable : exists_in t (observable s) ≡ true
    there-observable = let l = borrowed s was there can in ap is_some (at-observable s.world.tables t ∙ ap (option_map observable_table) l.at)

    -- the key that was found has a slot
    pub not-missing : (key : Term) → CanContinue t (observable s) (Some key) → next_key was.content.slots key ≡ None → ⊥
    not-missing key h e =
        let has : HasSlot was.content.slots key = subst (λ (ss : List Slot). HasSlot ss key) (sym borrowed-slots) (h.slot there-observable) in
        has-behind was.content.slots key has (behind-none (slots_behind was.content.slots key) e)
