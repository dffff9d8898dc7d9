-- A pending step doubles a table, or readies one of its buckets.
use Rattle.std.proofs.Common.{◌≡◌, ℕ, suc, Bool, true, false, not, Option, None, Some, [], ◌∷◌, option_map, subst, ap, Result, Ok, Err}
use Rattle.std.specs.Prelude.{if◌then◌else◌, position, IfOk, OnErr}
use Rattle.std.specs.Option.{option_map_or, option_and_then}
use Rattle.fixed_walk.specs.TableState.{TableState}
use Rattle.ownership.specs.World.{Table, Tables, table_at}
use Rattle.node_core.specs.declared.step.Step.{Step}
use Rattle.node_core.specs.declared.step.Step.TheVariants.{Grow, Ready}
use Rattle.node_core.specs.declared.step.Reply.{Reply}
use Rattle.node_core.specs.State.{State}
use Rattle.node_core.specs.Observable.{observable}
use Rattle.node_core.specs.Machine.{step}
use Rattle.node_core.specs.Pending.{is_crowded, pending_step_of, pending_from, due, IsPending}

module _ (Q : Step → Type 0) (grows : (t : ℕ) → Q (Grow t)) (readies : (t bucket : ℕ) → Q (Ready t bucket)) where
  abbrev Where : Option Step → Type 0
  Where None = Unit {0}
  Where (Some s) = Q s

  of-table : (t : ℕ) (f : TableState) → Where (pending_step_of t f)
  of-table t f = by (is_crowded f) (position not f.buckets)
    where
      by : (crowded : Bool) (bucket : Option ℕ) → Where (if crowded then Some (Grow t) else option_map (λ place. Ready t place) bucket)
      by true bucket = grows t
      by false None = tt
      by false (Some bucket) = readies t bucket

  first : (here behind : Option Step) → Where here → Where behind → Where (option_map_or (λ step. Some step) here behind)
  first None behind h b = b
  first (Some s) behind h b = h

  of-tables : (t : ℕ) (tables : Tables) → Where (pending_from t tables)
  of-tables t [] = tt
  of-tables t (None ∷ tables) = of-tables (suc t) tables
  of-tables t (Some own ∷ tables) = first (pending_step_of t own.state) (pending_from (suc t) tables) (of-table t own.state) (of-tables (suc t) tables)

  -- so what holds of these steps holds of the pending step
  pub due-tends : (s : State) (event : Step) → due s ≡ Some event → Q event
  due-tends s event e = subst Where e (of-tables 0 s.world.tables)

  -- and what holds of these steps holds of the pending step of a table
  pub own-tends : (s : State) (event : Step) → IsPending s event → Q event
  own-tends s event is = subst Where is.1 (by (table_at s.world.tables is.0))
    where
      by : (table : Option Table) → Where (option_and_then (λ table. pending_step_of is.0 table.state) table)
      by None = tt
      by (Some own) = of-table is.0 own.state

module _ (old new : State) (event : Step) (pending : IsPending old event) where
  own-unobserved : (r : Reply) → step (observable old) event r (observable new) → observable new ≡ observable old
  own-unobserved r =
      own-tends (λ event. step (observable old) event r (observable new) → observable new ≡ observable old) (λ t h. h.1) (λ t bucket h. h.1) old event pending

  -- the pending step of a table changes nothing that a call observes, whether it is made or memory is refused
  pub own-pending-unobserved : {E : Type 0} (done : Result Reply E) → IfOk done (λ r. step (observable old) event r (observable new)) → OnErr done (new ≡ old) → observable new ≡ observable old
  own-pending-unobserved (Ok r) made failed = own-unobserved r made
  own-pending-unobserved (Err e) made failed = ap observable failed

module _ (old new : State) (event : Step) (pending : due old ≡ Some event) where
  made-unobserved : (r : Reply) → step (observable old) event r (observable new) → observable new ≡ observable old
  made-unobserved r =
      due-tends (λ event. step (observable old) event r (observable new) → observable new ≡ observable old) (λ t h. h.1) (λ t bucket h. h.1) old event pending

  -- a pending step changes nothing that a call observes, whether it is made or memory is refused
  pub pending-unobserved : {E : Type 0} (done : Result Reply E) → IfOk done (λ r. step (observable old) event r (observable new)) → OnErr done (new ≡ old) → observable new ≡ observable old
  pending-unobserved (Ok r) made failed = made-unobserved r made
  pending-unobserved (Err e) made failed = ap observable failed
