-- How far the growth of a table lags, after a step and after the pending step of the table.
use Rattle.std.proofs.Common.{◌≡◌, ◌⊎◌, ℕ, zero, suc, ◌+◌, ◌*◌, ◌<◌, ◌≤◌, ◌&&◌, not, inl, inr, Bool, true, false, List, [], ◌∷◌, Option, None, Some, option_map, refl, sym, subst, ap, ◌∙◌, length, get_or, set, arith}
use Rattle.std.specs.Prelude.{if◌then◌else◌, position, nat_lt, MatchOption}
use Rattle.std.specs.Option.{option_map_or, option_and_then}
use Rattle.std.proofs.lemmas.Bool.Decides.{nat_tests}
use Rattle.std.proofs.lemmas.List.{length-set}
use Rattle.std.proofs.lemmas.List.Quantifiers.{position-Some}
use Rattle.bucket_table.specs.Slots.{Slot}
use Rattle.bucket_table.specs.Buckets.{IsGrown}
use Rattle.bucket_table.specs.declared.growth.Growth.{Growth}
use Rattle.bucket_table.specs.declared.growth.Growth.TheVariants.{Grown, AtMost}
use Rattle.table_ops.specs.Outcomes.{gives}
use Rattle.fixed_walk.specs.TableState.{TableState}
use Rattle.ownership.specs.World.{Table, Tables, table_at, with_state}
use Rattle.ownership.proofs.Places.{position-None}
use Rattle.node_core.specs.declared.step.Step.TheVariants.{Enrol, End, Ask, Grow, Ready}
use Rattle.node_core.specs.declared.step.Reply.{Reply}
use Rattle.node_core.specs.declared.step.Reply.TheVariants.{Badarg}
use Rattle.node_core.specs.State.{State}
use Rattle.node_core.specs.Observable.{KeepsBuckets}
use Rattle.node_core.specs.Access.{CallRule, with_table}
use Rattle.node_core.specs.Pending.{is_crowded, pending_step_of}
use Rattle.node_core.specs.rules.Growth.{max_buckets, Grows, Readies, HasFirstBuckets, step_on_buckets}
use Rattle.node_core.specs.rules.Tables.{first_buckets}
use Rattle.node_core.specs.laws.Growth.{LagsAtMost, StepsAddLag, PendingStepsLowerLag}
use Rattle.node_core.specs.laws.Kept.{slots_in}
use Rattle.node_core.proofs.pending.Unready.{unready, length-grown, unready-grown, unready-readied, unready-none, Widens, widens-same, widens-grown, widens-set}

-- the growth of a table in this state lags at most n steps
abbrev Lags : ℕ → TableState → Type 0
Lags n table = (1 ≤ length table.buckets) × ((length table.content.slots + 3 * unready table.buckets ≤ 4 * length table.buckets + n) ⊎ (max_buckets ≤ length table.buckets))

-- ---- a table after a change of one
written : (ts : Tables) (t : ℕ) (f : TableState) (table : Table) → table_at (with_state ts t f) t ≡ Some table → table.state ≡ f
written [] t f table at = absurd (cc)
written (None ∷ ts) zero f table at = absurd (cc)
written (Some own ∷ ts) zero f table at = let same : record own { state = f } ≡ table = cc in ap (λ (u : Table). u.state) (sym same)
written (x ∷ ts) (suc t) f table at = written ts t f table at

-- a table after a change of any
record IsAfter (ts : Tables) (u : ℕ) (f : TableState) (t : ℕ) (table : Table) : Type 0 where
  pub was : Table
  pub here : t ≡ u
  pub before : table_at ts u ≡ Some was
  pub now : table.state ≡ f

after : (ts : Tables) (u : ℕ) (f : TableState) (t : ℕ) (table : Table) → table_at (with_state ts u f) t ≡ Some table → IsAfter ts u f t table ⊎ (table_at ts t ≡ Some table)
after [] u f t table at = absurd (cc)
after (None ∷ ts) zero f zero table at = absurd (cc)
after (Some own ∷ ts) zero f zero table at = let same : record own { state = f } ≡ table = cc in inl (record { was = own; here = refl; before = refl; now = ap (λ (u : Table). u.state) (sym same) })
after (x ∷ ts) zero f (suc t) table at = inr at
after (x ∷ ts) (suc u) f zero table at = inr at
after (x ∷ ts) (suc u) f (suc t) table at = elim (after ts u f t table at) [
  | inl h ↦ inl (record { was = h.was; here = ap suc h.here; before = h.before; now = h.now })
  | inr same ↦ inr same
]

-- ---- any step
module _ (old new : State) (t n m : ℕ) (table : Table) (more : length (slots_in t new) ≤ length (slots_in t old) + m) (lags : LagsAtMost n t old) (at : table_at new.world.tables t ≡ Some table) where
  abbrev slots : Option Table → List Slot
  slots found = option_map_or (λ own. own.state.content.slots) found []

  -- the buckets of a table that was there widen
  widened : (was : Table) → table_at old.world.tables t ≡ Some was → Widens was.state.buckets table.state.buckets → Lags (n + m) table.state
  widened was before widens =
      let b = lags was before in
      let added : length table.state.content.slots ≤ length was.state.content.slots + m = omega (arith, more, ap (λ o. length (slots o)) at, ap (λ o. length (slots o)) before) in (
        omega (arith, b.0, widens.wide),
        elim b.1 [
          | inl few ↦ inl (omega (arith, few, widens.room, added))
          | inr most ↦ inr (omega (arith, most, widens.wide))
        ],
      )

  -- a new table has two
  fresh : table_at old.world.tables t ≡ None → table.state.buckets ≡ first_buckets → Lags (n + m) table.state
  fresh before first =
      let added : length table.state.content.slots ≤ m = omega (arith, more, ap (λ o. length (slots o)) at, ap (λ o. length (slots o)) before) in
      subst (λ bs. Lags (n + m) (record table.state { buckets = bs })) (sym first) (omega arith, inl (omega (arith, added)))

  kept : KeepsBuckets old new × HasFirstBuckets old new → Lags (n + m) table.state
  kept h = by (table_at old.world.tables t) refl
    where
      by : (o : Option Table) → table_at old.world.tables t ≡ o → Lags (n + m) table.state
      by None before = fresh before (h.1 t table before at)
      by (Some was) before = widened was before (widens-same was.state.buckets table.state.buckets (h.0 t was table before at))

  changed : (r : Reply) (u : ℕ) (rule : CallRule) → ((f g : TableState) → rule f r g → Widens f.buckets g.buckets)
      → (found : Option Table) → table_at old.world.tables u ≡ found
      → MatchOption found (gives Badarg old r new) (λ own. (f : TableState) × rule own.state r f × (new ≡ with_table old u f)) → Lags (n + m) table.state
  changed r u rule widens None there h =
      widened table (ap (λ (s : State). table_at s.world.tables t) (sym h.1) ∙ at) (widens-same table.state.buckets table.state.buckets refl)
  changed r u rule widens (Some own) there h =
      let now : table_at (with_state old.world.tables u h.0) t ≡ Some table = ap (λ (s : State). table_at s.world.tables t) (sym h.2) ∙ at in
      elim (after old.world.tables u h.0 t table now) [
        | inl is ↦
            let same : own ≡ is.was = cc in
            widened is.was (ap (table_at old.world.tables) is.here ∙ is.before)
            (subst (λ (f : TableState). Widens is.was.state.buckets f.buckets) (sym is.now) (subst (λ (o : Table). Widens o.state.buckets h.0.buckets) same (widens own.state h.0 h.1)))
        | inr same ↦ widened table same (widens-same table.state.buckets table.state.buckets refl)
      ]

pub steps-add-lag : StepsAddLag
steps-add-lag old new (Enrol p) r t n m h more lags table at = kept old new t n m table more lags at h
steps-add-lag old new (End p) r t n m h more lags table at = kept old new t n m table more lags at h
steps-add-lag old new (Ask p asked) r t n m h more lags table at = kept old new t n m table more lags at h
steps-add-lag old new (Grow u) r t n m h more lags table at =
    changed old new t n m table more lags at r u Grows (λ f g rule. widens-grown max_buckets f.buckets g.buckets rule.1 rule.2) (table_at old.world.tables u) refl h
steps-add-lag old new (Ready u bucket) r t n m h more lags table at =
    changed old new t n m table more lags at r u (Readies bucket) (λ f g rule. widens-set f.buckets g.buckets bucket (ap (λ (x : TableState). x.buckets) rule.1)) (table_at old.world.tables u) refl h

-- ---- the pending step
crowded : (slots buckets most : ℕ) → (nat_lt (4 * buckets) slots && nat_lt buckets most) ≡ true → (4 * buckets < slots) × (buckets < most)
crowded slots buckets most e = (grind (arith, nat_tests, e), grind (arith, nat_tests, e))

roomy : (slots buckets most : ℕ) → (nat_lt (4 * buckets) slots && nat_lt buckets most) ≡ false → (slots ≤ 4 * buckets) ⊎ (most ≤ buckets)
roomy slots buckets most e = grind (arith, nat_tests, e)

module _ (n : ℕ) (f : TableState) (lags : Lags (n + 1) f) where
  grown : is_crowded f ≡ true → (g : TableState) (growth : Growth) → IsGrown max_buckets f.buckets growth g.buckets → g.content.slots ≡ f.content.slots → Lags n g
  grown e g Grown is same =
      let c = crowded (length f.content.slots) (length f.buckets) max_buckets e in
      let long : length g.buckets ≡ length f.buckets + length f.buckets = ap (λ bs. length bs) is ∙ length-grown f.buckets in
      let idle : unready g.buckets ≡ unready f.buckets + length f.buckets = ap unready is ∙ unready-grown f.buckets in (
        omega (arith, lags.0, long),
        elim lags.1 [
          | inl few ↦ inl (omega (arith, lags.0, few, long, idle, ap (λ (xs : List Slot). length xs) same))
          | inr most ↦ absurd (omega (arith, c.1, most))
        ],
      )
  grown e g AtMost is same = let c = crowded (length f.content.slots) (length f.buckets) max_buckets e in absurd (omega (arith, c.1, is.1))

  readied : is_crowded f ≡ false → (bucket : ℕ) → position not f.buckets ≡ Some bucket → (g : TableState) → g.buckets ≡ set f.buckets bucket true → g.content.slots ≡ f.content.slots → Lags n g
  readied e bucket first g is same =
      let p = position-Some not f.buckets bucket false first in
      let long : length g.buckets ≡ length f.buckets = ap (λ bs. length bs) is ∙ length-set f.buckets bucket true in
      let unset : get_or f.buckets bucket false ≡ false = not-true (get_or f.buckets bucket false) p.1 in
      let idle : unready g.buckets + 1 ≡ unready f.buckets = ap (λ bs. unready bs + 1) is ∙ unready-readied f.buckets bucket p.0 unset in (
        omega (arith, lags.0, long),
        elim lags.1 [
          | inl few ↦ inl (omega (arith, few, long, idle, ap (λ (xs : List Slot). length xs) same))
          | inr most ↦ inr (omega (arith, most, long))
        ],
      )
    where
      not-true : (b : Bool) → not b ≡ true → b ≡ false
      not-true true e = absurd (cc)
      not-true false e = refl

  idle : is_crowded f ≡ false → position not f.buckets ≡ None → Lags n f
  idle e none =
      let all : unready f.buckets ≡ 0 = unready-none f.buckets (λ i. position-None not f.buckets i false none) in (
        lags.0,
        elim (roomy (length f.content.slots) (length f.buckets) max_buckets e) [
          | inl few ↦ inl (omega (arith, few, all))
          | inr most ↦ inr most
        ],
      )

module _ (old new : State) (r : Reply) (t n : ℕ) (lags : LagsAtMost (n + 1) t old) (table : Table) (at : table_at new.world.tables t ≡ Some table) where
  module _ (was : Table) (before : table_at old.world.tables t ≡ Some was) where
    -- the change of the table by a rule
    abbrev Changed : CallRule → Option Table → Type 0
    Changed rule found = MatchOption found (gives Badarg old r new) (λ own. (f : TableState) × rule own.state r f × (new ≡ with_table old t f))

    by-rule : (rule : CallRule) → Changed rule (table_at old.world.tables t) → rule was.state r table.state
    by-rule rule h =
        let done = subst (Changed rule) before h in
        let is = written old.world.tables t done.0 table (ap (λ (s : State). table_at s.world.tables t) (sym done.2) ∙ at) in
        subst (λ (f : TableState). rule was.state r f) (sym is) done.1

    same-slots : (bs : List Bool) → table.state ≡ record was.state { buckets = bs } → table.state.content.slots ≡ was.state.content.slots
    same-slots bs e = ap (λ (f : TableState). f.content.slots) e

    by-step : (full : Bool) (bucket : Option ℕ) → is_crowded was.state ≡ full → position not was.state.buckets ≡ bucket
        → MatchOption (if full then Some (Grow t) else option_map (λ b. Ready t b) bucket) (new ≡ old) (λ s. step_on_buckets old s r new) → Lags n table.state
    by-step true bucket e first h =
        let rule = by-rule Grows h in
        grown n was.state (lags was before) e table.state rule.1 rule.2 (same-slots table.state.buckets rule.3)
    by-step false (Some bucket) e first h =
        let rule = by-rule (Readies bucket) h in
        readied n was.state (lags was before) e bucket first table.state (ap (λ (f : TableState). f.buckets) rule.1) (same-slots (set was.state.buckets bucket true) rule.1)
    by-step false None e first h =
        let same : Some was ≡ Some table = sym before ∙ ap (λ (s : State). table_at s.world.tables t) (sym h) ∙ at in
        let one : was ≡ table = cc in
        subst (λ (u : Table). Lags n u.state) one (idle n was.state (lags was before) e first)

  caught-up : (found : Option Table) → table_at old.world.tables t ≡ found
      → MatchOption (option_and_then (λ own. pending_step_of t own.state) found) (new ≡ old) (λ s. step_on_buckets old s r new) → Lags n table.state
  caught-up None before h =
      let both : None ≡ Some table = sym before ∙ ap (λ (s : State). table_at s.world.tables t) (sym h) ∙ at in absurd (cc)
  caught-up (Some was) before h = by-step was before (is_crowded was.state) (position not was.state.buckets) refl refl h

pub pending-steps-lower-lag : PendingStepsLowerLag
pending-steps-lower-lag old new r t n h lags table at = caught-up old new r t n lags table at (table_at old.world.tables t) refl h
