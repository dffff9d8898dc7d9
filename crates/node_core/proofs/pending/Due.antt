-- The pending steps of tables, searched in the queue: of those in order, and of the dirty one.
use Rattle.std.proofs.Common.{◌≡◌, ℕ, ◌+◌, ◌<◌, ◌≤◌, zero, suc, Bool, true, false, nat_lt, true≢false, Option, None, Some, List, [], ◌∷◌, length, drop, get_or, refl, ap, sym, ◌∙◌, arith, inl, inr}
use Rattle.std.specs.Prelude.{◌⊎◌, IsSome, is_some, if◌then◌else◌}
use Rattle.std.specs.Option.{option_and_then, option_map_or, option_or}
use Rattle.std.proofs.Math.Seq.{drop-cons}
use Rattle.std.proofs.lemmas.List.{drop_all}
use Rattle.std.proofs.lemmas.Bool.{cases_lt, ltb-true, ltb-false}
use Rattle.ownership.specs.World.{Tables}
use Rattle.node_core.specs.declared.step.Step.{Step}
use Rattle.node_core.specs.Pending.{pending_step_of, pending_step_at, pending_from}
use Rattle.node_core.specs.inside.PendingTables.{PendingTablesState, Ascends, IsAmong, IsIn}
use Rattle.node_core.specs.inside.Due.{dirty_pending_before}

-- an identifier is in order at this place or after it
pub record IsFrom (ids : List ℕ) (from id : ℕ) : Type 0 where
  pub among : IsAmong ids id
  pub behind : from ≤ among.place

-- it does, or it is the dirty one
abbrev pub IsLeft : PendingTablesState → ℕ → ℕ → Type 0
IsLeft s from t = IsFrom s.queue from t ⊎ (s.dirty ≡ Some t)

due-step : (tables : Tables) (t : ℕ) → t < length tables → pending_from t (drop t tables) ≡ option_map_or (λ step. Some step) (pending_step_at tables t) (pending_from (suc t) (drop (suc t) tables))
due-step tables t h = ap (pending_from t) (drop-cons tables t None h)

-- the tables before a place have no pending step
due-up-to : (tables : Tables) (k : ℕ) → k ≤ length tables → ((t : ℕ) → t < k → pending_step_at tables t ≡ None) → pending_from 0 tables ≡ pending_from k (drop k tables)
due-up-to tables zero h none = refl
due-up-to tables (suc k) h none =
    due-up-to tables k (omega (arith, h)) (λ t less. none t (omega (arith, less)))
    ∙ due-step tables k (omega (arith, h))
    ∙ ap (λ o. option_map_or (λ step. Some step) o (pending_from (suc k) (drop (suc k) tables))) (none k (omega arith))

due-none : {X : Type 0} (o : Option X) → (IsSome o → ⊥) → o ≡ None
due-none None h = refl
due-none (Some x) h = absurd (h refl)

-- a table with a pending step exists
pub there : (n : ℕ) (tables : Tables) (t : ℕ) → IsSome (option_and_then (λ table. pending_step_of n table.state) (get_or tables t None)) → t < length tables
there n [] t some = cc
there n (x ∷ xs) zero some = omega arith
there n (x ∷ xs) (suc t) some = let h = there n xs t some in omega (arith, h)

-- a table has no pending step
not-due : (tables : Tables) (t : ℕ) → pending_step_at tables t ≡ None → IsSome (pending_step_at tables t) → ⊥
not-due tables t none some = true≢false (sym some ∙ ap (λ o. is_some o) none)

-- no step is pending
none-due : (tables : Tables) → ((t : ℕ) → IsSome (pending_step_at tables t) → ⊥) → pending_from 0 tables ≡ None
none-due tables none = due-up-to tables (length tables) (omega arith) (λ t less. due-none (pending_step_at tables t) (none t)) ∙ ap (pending_from (length tables)) (drop_all (length tables) tables (omega arith))

-- where no table is queued and none is dirty, no step is pending
pub due-empty : (tables : Tables) (s : PendingTablesState) → ((t : ℕ) → IsSome (pending_step_at tables t) → IsIn s t) → s.queue ≡ [] → s.dirty ≡ None → pending_from 0 tables ≡ None
due-empty tables s due none clean = none-due tables (λ t some. elim (due t some) [
  | inl among ↦ absurd (omega (arith, among.inside, ap (λ (ids : List ℕ). length ids) none))
  | inr here ↦ let both : None ≡ Some t = sym clean ∙ here in absurd (cc)
])

-- the first with a pending step
first-due : (tables : Tables) (k : ℕ) (step : Step) → ((t : ℕ) → IsSome (pending_step_at tables t) → k ≤ t) → pending_step_at tables k ≡ Some step → pending_from 0 tables ≡ Some step
first-due tables k step least some =
    let within = there k tables k (ap (λ o. is_some o) some) in
    due-up-to tables k (omega (arith, within)) (λ t less. due-none (pending_step_at tables t) (λ h. let past = least t h in omega (arith, less, past)))
    ∙ due-step tables k within
    ∙ ap (λ o. option_map_or (λ step. Some step) o (pending_from (suc k) (drop (suc k) tables))) some

pub same-some : (a b : ℕ) (o : Option ℕ) → o ≡ Some a → o ≡ Some b → a ≡ b
same-some a b o e f = let both : Some a ≡ Some b = sym e ∙ f in cc

module _ (tables : Tables) (s : PendingTablesState) (place : ℕ) (due : (t : ℕ) → IsSome (pending_step_at tables t) → IsLeft s place t) where
  -- where no place is left, it is the pending step of the dirty one
  pub due-dirty : length s.queue ≤ place → pending_from 0 tables ≡ option_and_then (pending_step_at tables) s.dirty
  due-dirty end = by s.dirty refl
    where
      dirty : (t : ℕ) → IsSome (pending_step_at tables t) → s.dirty ≡ Some t
      dirty t some = elim (due t some) [ inl from ↦ absurd (omega (arith, end, from.behind, from.among.inside)) | inr here ↦ here ]

      by : (last : Option ℕ) → s.dirty ≡ last → pending_from 0 tables ≡ option_and_then (pending_step_at tables) last
      by None e = none-due tables (λ t some. let both : None ≡ Some t = sym e ∙ dirty t some in cc)
      by (Some u) e = on (pending_step_at tables u) refl
        where
          is : (t : ℕ) → IsSome (pending_step_at tables t) → t ≡ u
          is t some = same-some t u s.dirty (dirty t some) e

          on : (o : Option Step) → pending_step_at tables u ≡ o → pending_from 0 tables ≡ o
          on None none = none-due tables (λ t some. not-due tables t (ap (pending_step_at tables) (is t some) ∙ none) some)
          on (Some step) own = first-due tables u step (λ t some. omega (arith, is t some)) own

  module _ (ascends : Ascends s.queue) (id : ℕ) (here : get_or s.queue place 0 ≡ id) where
    at-place : (t : ℕ) (from : IsFrom s.queue place t) → from.among.place ≤ place → t ≡ id
    at-place t from past =
        let same : from.among.place ≡ place = omega (arith, past, from.behind) in
        sym from.among.here ∙ ap (λ q. get_or s.queue q 0) same ∙ here

    at-least : (t : ℕ) → IsFrom s.queue place t → id ≤ t
    at-least t from = elim (cases_lt place from.among.place) [
      | inl above ↦ omega (arith, here, from.among.here, ascends place from.among.place above from.among.inside)
      | inr past ↦ omega (arith, at-place t from past)
    ]

    -- the pending step of the table at an index is the first, unless the dirty table has one and comes before it
    pub due-here : (step : Step) → pending_step_at tables id ≡ Some step → pending_from 0 tables ≡ option_or (dirty_pending_before tables s.dirty id) (Some step)
    due-here step own = by s.dirty refl
      where
        first : ((t : ℕ) → s.dirty ≡ Some t → IsSome (pending_step_at tables t) → id ≤ t) → pending_from 0 tables ≡ Some step
        first past = first-due tables id step (λ t some. elim (due t some) [ inl from ↦ at-least t from | inr dirty ↦ past t dirty some ]) own

        by : (last : Option ℕ) → s.dirty ≡ last → pending_from 0 tables ≡ option_or (dirty_pending_before tables last id) (Some step)
        by None e = first (λ t dirty some. let both : None ≡ Some t = sym e ∙ dirty in cc)
        by (Some u) e = at (nat_lt u id) refl
          where
            is : (t : ℕ) → s.dirty ≡ Some t → t ≡ u
            is t dirty = same-some t u s.dirty dirty e

            on : (o : Option Step) → pending_step_at tables u ≡ o → u < id → pending_from 0 tables ≡ option_or o (Some step)
            on None none below = first (λ t dirty some. absurd (not-due tables t (ap (pending_step_at tables) (is t dirty) ∙ none) some))
            on (Some earlier) some below = first-due tables u earlier (λ t h. elim (due t h) [
              | inl from ↦ omega (arith, below, at-least t from)
              | inr dirty ↦ omega (arith, is t dirty)
            ]) some

            at : (b : Bool) → nat_lt u id ≡ b → pending_from 0 tables ≡ option_or (if b then pending_step_at tables u else None) (Some step)
            at true below = on (pending_step_at tables u) refl (ltb-true u id below)
            at false above = first (λ t dirty some. omega (arith, is t dirty, ltb-false u id above))

    -- or else it is not among those after it
    pub due-behind : pending_step_at tables id ≡ None → (t : ℕ) → IsSome (pending_step_at tables t) → IsLeft s (place + 1) t
    due-behind none t some = elim (due t some) [
      | inl from ↦ elim (cases_lt place from.among.place) [
        | inl above ↦ inl (record { among = from.among; behind = omega (arith, above) })
        | inr past ↦ absurd (not-due tables t (ap (pending_step_at tables) (at-place t from past) ∙ none) some)
      ]
      | inr dirty ↦ inr dirty
    ]
