-- Pending steps that are run one after another, each pending in the state before it.
use Rattle.std.proofs.Common.{◌≡◌, ◌⊎◌, ℕ, ◌+◌, ◌≤◌, zero, suc, Bool, true, false, Option, None, Some, [], ◌∷◌, get_or, refl, ap, sym, subst, ◌∙◌, arith, inl, inr, Result, Ok, Err}
use Rattle.std.specs.Prelude.{IfOk, OnErr}
use Rattle.std.specs.Option.{option_and_then, option_map_or, IsSomeAnd}
use Rattle.ownership.specs.World.{Tables}
use Rattle.node_core.specs.declared.step.Step.{Step}
use Rattle.node_core.specs.declared.step.Reply.{Reply}
use Rattle.node_core.specs.rules.Growth.{step_on_buckets}
use Rattle.node_core.specs.State.{State}
use Rattle.node_core.specs.Pending.{pending_step_of, pending_from, due, IsPending, RunsOne, RunsPending, RunsPendingOfTable, RunsAtMost}

-- it is the pending step of a table, whose identifier is counted from k
record IsPlaced (k : ℕ) (tables : Tables) (event : Step) : Type 0 where
  t : ℕ
  place : ℕ
  sum : t ≡ k + place
  own : option_and_then (λ table. pending_step_of t table.state) (get_or tables place None) ≡ Some event

placed : (k : ℕ) (tables : Tables) (event : Step) → pending_from k tables ≡ Some event → IsPlaced k tables event
placed k [] event e = absurd (cc)
placed k (table ∷ tables) event e = by (option_and_then (λ own. pending_step_of k own.state) table) refl (placed (suc k) tables event)
  where
    first : Option Step → Option Step
    first o = option_map_or (λ step. Some step) o (pending_from (suc k) tables)

    by : (o : Option Step) → option_and_then (λ own. pending_step_of k own.state) table ≡ o → (pending_from (suc k) tables ≡ Some event → IsPlaced (suc k) tables event) → IsPlaced k (table ∷ tables) event
    by None none rest =
        let later = rest (sym (ap first none) ∙ e) in
        record { t = later.t; place = suc later.place; sum = omega (arith, later.sum); own = later.own }
    by (Some step) some rest = record { t = k; place = 0; sum = omega arith; own = some ∙ sym (ap first some) ∙ e }

-- the first pending step is that of some table
due-is-pending : (s : State) (event : Step) → due s ≡ Some event → IsPending s event
due-is-pending s event e =
    let it = placed 0 s.world.tables event e in
    let same : it.place ≡ it.t = omega (arith, it.sum) in
    (it.t, subst (λ place. option_and_then (λ table. pending_step_of it.t table.state) (get_or s.world.tables place None) ≡ Some event) same it.own)

-- the pending step was run, or nothing changed
ran-one : (old new : State) (ran : Bool) → RunsPending old new ran → RunsOne old new ⊎ (new ≡ old)
ran-one old new false h = inr h.1
ran-one old new true h = inl (by (due old) refl h)
  where
    by : (o : Option Step) → due old ≡ o → IsSomeAnd o (λ event. (r : Reply) × step_on_buckets old event r new) → RunsOne old new
    by None e h = absurd h
    by (Some event) e h = (event, due-is-pending old event e, h)

-- at most i steps are also at most n, if n is no less
pub at-most : (i n : ℕ) (old new : State) → i ≤ n → RunsAtMost i old new → RunsAtMost n old new
at-most zero zero old new le h = h
at-most zero (suc n) old new le h = inl h
at-most (suc i) zero old new le h = absurd (omega (arith, le))
at-most (suc i) (suc n) old new le (inl same) = inl same
at-most (suc i) (suc n) old new le (inr more) = inr (more.0, (at-most i n old more.0 (omega (arith, le)) more.1.0, more.1.1))

-- the first pending step was run, or memory ran out for it
pub one-at-most : {E : Type 0} {old : State} (new : State) (done : Result Bool E) → IfOk done (RunsPending old new) → OnErr done (new ≡ old) → RunsAtMost 1 old new
one-at-most new (Err e) ok err = inl err
one-at-most {old = old} new (Ok ran) ok err = elim (ran-one old new ran ok) [
  | inl step ↦ inr (old, (refl, step))
  | inr same ↦ inl same
]

-- after at most i steps, at most one more is run
pub and-one : (i n : ℕ) (old mid new : State) → suc i ≤ n → RunsAtMost i old mid → RunsAtMost 1 mid new → RunsAtMost n old new
and-one i n old mid new le before (inl same) = subst (RunsAtMost n old) (sym same) (at-most i n old mid (omega (arith, le)) before)
and-one i n old mid new le before (inr last) = at-most (suc i) n old new le (inr (mid, (before, subst (λ s. RunsOne s new) last.1.0 last.1.1)))

-- the step of the last table was run
pub one-was-run : (old new : State) (ran : Bool) → ran ≡ true → RunsPendingOfTable old new ran → RunsOne old new
one-was-run old new true e h = h
one-was-run old new false e h = absurd (cc)

-- it was not, and nothing changed
pub none-was-run : (old new : State) (ran : Bool) → ran ≡ false → RunsPendingOfTable old new ran → new ≡ old
none-was-run old new true e h = absurd (cc)
none-was-run old new false e h = h

-- one step more
pub one-more : (i : ℕ) (old mid new : State) → RunsAtMost i old mid → RunsOne mid new → RunsAtMost (i + 1) old new
one-more i old mid new before step = subst (λ n. RunsAtMost n old new) {x = suc i} (omega arith) (inr (mid, (before, step)))
