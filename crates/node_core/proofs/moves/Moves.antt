-- What a step of a process does to the world: each table stays, with its name and its buckets, and keeps its keys and the fixes of others, or
-- is new; no table and no process is forgotten. What holds of a step here is proved once for each way in which tables change.
use Rattle.std.proofs.Common.{◌≡◌, ℕ, zero, suc, ◌≤◌, ◌⊎◌, inl, inr, Bool, true, [], ◌∷◌, ◌++◌, Option, None, Some, option_map, refl, sym, subst, ap, ◌∙◌, length, map, arith, length-append}
use Rattle.std.specs.Prelude.{MatchOption, slice_set, is_some}
use Rattle.std.proofs.Math.ListN.{length-set}
use Rattle.std.proofs.lemmas.List.{length-map}
use Rattle.fixed_walk.specs.TableState.{TableState}
use Rattle.ownership.specs.World.{Table, Tables, Processes, World, process_at, table_at, whereis, with_state, with_changed}
use Rattle.ownership.specs.inside.States.{table_with_state}
use Rattle.node_core.specs.rules.Tables.{first_buckets}
use Rattle.node_core.proofs.moves.Preserves.{AreBounded, Preserves, preserves-same}

-- a table that is new is last, has no slot and a new table's buckets, no more fixes than it may have, and no name that another has
pub record Enters (old : Tables) (t : ℕ) (table : Table) : Type 0 where
  pub place : t ≡ length old
  pub bare : table.state.content.slots ≡ []
  pub fresh : table.state.buckets ≡ first_buckets
  pub bounded : AreBounded table.state.fixes
  pub free : table.metadata.named ≡ true → whereis old table.metadata.name ≡ None

-- ---- where tables are found after one place is written, one is added, or all are mapped
pub set-at : (ts : Tables) (place t : ℕ) (o : Option Table) (table : Table)
    → table_at (slice_set ts place o) t ≡ Some table → (table_at ts t ≡ Some table) ⊎ ((t ≡ place) × (o ≡ Some table))
set-at [] place t o table at = inl at
set-at (x ∷ xs) zero zero o table at = inr (refl, at)
set-at (x ∷ xs) zero (suc t) o table at = inl at
set-at (x ∷ xs) (suc place) zero o table at = inl at
set-at (x ∷ xs) (suc place) (suc t) o table at = up (set-at xs place t o table at)
  where
    up : (table_at xs t ≡ Some table) ⊎ ((t ≡ place) × (o ≡ Some table))
        → (table_at xs t ≡ Some table) ⊎ ((suc t ≡ suc place) × (o ≡ Some table))
    up (inl h) = inl h
    up (inr h) = inr (ap suc h.0, h.1)

pub push-at : (ts : Tables) (t : ℕ) (new table : Table) → table_at (ts ++ Some new ∷ []) t ≡ Some table
    → (table_at ts t ≡ Some table) ⊎ ((t ≡ length ts) × (table_at ts t ≡ None) × (new ≡ table))
push-at [] zero new table at = inr (refl, refl, (cc))
push-at [] (suc t) new table at = cc
push-at (x ∷ xs) zero new table at = inl at
push-at (x ∷ xs) (suc t) new table at = up (push-at xs t new table at)
  where
    up : (table_at xs t ≡ Some table) ⊎ ((t ≡ length xs) × (table_at xs t ≡ None) × (new ≡ table))
        → (table_at xs t ≡ Some table) ⊎ ((suc t ≡ suc (length xs)) × (table_at xs t ≡ None) × (new ≡ table))
    up (inl h) = inl h
    up (inr h) = inr (ap suc h.0, h.1, h.2)

pub map-at : (change : Option Table → Option Table) → change None ≡ None → (ts : Tables) (t : ℕ) (table : Table)
    → table_at (map change ts) t ≡ Some table
    → (was : Table) × (table_at ts t ≡ Some was) × (change (Some was) ≡ Some table)
map-at change none [] t table at = cc
map-at change none (None ∷ xs) zero table at = let e : None ≡ Some table = sym none ∙ at in cc
map-at change none (Some was ∷ xs) zero table at = (was, refl, at)
map-at change none (x ∷ xs) (suc t) table at = map-at change none xs t table at

-- each process that was enrolled still is
abbrev pub StayKnown : Processes → Processes → Type 0
StayKnown old new = (q : ℕ) → is_some (process_at old q) ≡ true → is_some (process_at new q) ≡ true

-- ---- these are the processes that do the step
module _ (own : ℕ → Bool) where
  pub record Stays (was table : Table) : Type 0 where
    pub name : table.metadata.name ≡ was.metadata.name
    pub named : table.metadata.named ≡ was.metadata.named
    pub fixed : Preserves own was.state table.state

  abbrev pub Came : Tables → ℕ → Option Table → Table → Type 0
  Came old t before table = MatchOption before (Enters old t table) (λ was. Stays was table)

  -- no table is forgotten, and each stays or is new
  pub record Follows (old new : Tables) : Type 0 where
    pub long : length old ≤ length new
    pub came : (t : ℕ) (table : Table) → table_at new t ≡ Some table → Came old t (table_at old t) table

  -- no process is forgotten either
  pub record Moves (old new : World) : Type 0 where
    pub most : new.max_processes ≡ old.max_processes
    pub known : length old.processes ≤ length new.processes
    pub stay : StayKnown old.processes new.processes
    pub tables : Follows old.tables new.tables

  pub stays-same : (table : Table) → Stays table table
  stays-same table = record { name = refl; named = refl; fixed = preserves-same own table.state table.state refl }

  stayed : (old : Tables) (t : ℕ) (was table : Table) → table_at old t ≡ Some was → Stays was table
      → Came old t (table_at old t) table
  stayed old t was table at stays = subst (λ (o : Option Table). Came old t o table) (sym at) stays

  module _ (ts : Tables) where
    pub follows-same : Follows ts ts
    follows-same = record { long = omega arith; came = λ t table at. stayed ts t table table at (stays-same table) }

    -- what is written at a place is the old table there, or a change of it that `Stays` allows
    abbrev Written : Option Table → Option Table → Type 0
    Written before o = (table : Table) → o ≡ Some table → (was : Table) × (before ≡ Some was) × Stays was table

    follows-set : (place : ℕ) (o : Option Table) → Written (table_at ts place) o → Follows ts (slice_set ts place o)
    follows-set place o written =
        record { long = let e = length-set ts place o in omega (arith, e); came = λ t table at. by t table (set-at ts place t o table at) }
      where
        by : (t : ℕ) (table : Table) → (table_at ts t ≡ Some table) ⊎ ((t ≡ place) × (o ≡ Some table))
            → Came ts t (table_at ts t) table
        by t table (inl same) = stayed ts t table table same (stays-same table)
        by t table (inr here) =
            let w = written table here.1 in stayed ts t w.0 table (ap (table_at ts) here.0 ∙ w.1) w.2

    pub follows-gone : (place : ℕ) → Follows ts (slice_set ts place None)
    follows-gone place = follows-set place None (λ table e. cc)

    fixed-written : (before : Option Table) (f : TableState) → ((was : Table) → before ≡ Some was → Preserves own was.state f)
        → Written before (table_with_state before f)
    fixed-written None f preserves table e = cc
    fixed-written (Some was) f preserves table e =
        let is : record was { state = f } ≡ table = cc in
        (was, refl, subst (Stays was) is (record { name = refl; named = refl; fixed = preserves was refl }))

    pub follows-fixed : (place : ℕ) (f : TableState)
        → ((was : Table) → table_at ts place ≡ Some was → Preserves own was.state f) → Follows ts (with_state ts place f)
    follows-fixed place f preserves =
        follows-set place (table_with_state (table_at ts place) f) (fixed-written (table_at ts place) f preserves)

    change-written : (change : Table → Table) → ((table : Table) → Stays table (change table)) → (before : Option Table)
        → Written before (option_map change before)
    change-written change stays None table e = cc
    change-written change stays (Some was) table e =
        let is : change was ≡ table = cc in (was, refl, subst (Stays was) is (stays was))

    pub follows-changed : (change : Table → Table) → ((table : Table) → Stays table (change table)) → (place : ℕ)
        → Follows ts (with_changed change ts place)
    follows-changed change stays place =
        follows-set place (option_map change (table_at ts place)) (change-written change stays (table_at ts place))

    pub follows-push : (new : Table) → new.state.content.slots ≡ [] → new.state.buckets ≡ first_buckets → AreBounded new.state.fixes
        → (new.metadata.named ≡ true → whereis ts new.metadata.name ≡ None) → Follows ts (ts ++ Some new ∷ [])
    follows-push new bare fresh bounded free =
        record { long = let e = length-append ts (Some new ∷ []) in omega (arith, e); came = λ t table at. by t table (push-at ts t new table at) }
      where
        by : (t : ℕ) (table : Table)
            → (table_at ts t ≡ Some table) ⊎ ((t ≡ length ts) × (table_at ts t ≡ None) × (new ≡ table))
            → Came ts t (table_at ts t) table
        by t table (inl same) = stayed ts t table table same (stays-same table)
        by t table (inr more) =
            subst (λ (o : Option Table). Came ts t o table) (sym more.1) (
            subst (Enters ts t) more.2 (record { place = more.0; bare = bare; fresh = fresh; bounded = bounded; free = free }))

    pub follows-map : (change : Option Table → Option Table) → change None ≡ None
        → ((was table : Table) → change (Some was) ≡ Some table → Stays was table) → Follows ts (map change ts)
    follows-map change none stays = record {
      long = let e = length-map ts change in omega (arith, e);
      came =
          λ t table at. let was = map-at change none ts t table at in stayed ts t was.0 table was.1 (stays was.0 table was.2);
    }

  -- ---- the world
  pub moves-same : (w : World) → Moves w w
  moves-same w = record { most = refl; known = omega arith; stay = λ q h. h; tables = follows-same w.tables }
