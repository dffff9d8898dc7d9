-- Finding a table and writing it, where the buckets of tables are left out.
use Rattle.std.proofs.Common.{◌≡◌, ℕ, zero, suc, Bool, true, false, cond, List, [], ◌∷◌, ◌++◌, Option, None, Some, option_map, option_and_then, refl, sym, ap, ◌∙◌, length, position}
use Rattle.std.specs.Prelude.{slice_set}
use Rattle.ets_term.specs.declared.term.Term.{Term, out-Term}
use Rattle.ets_term.specs.declared.term.Term.TheOpen.{Term-F}
use Rattle.fixed_walk.specs.TableState.{TableState}
use Rattle.ownership.specs.World.{Table, Tables, World, table_at, all_metadata, is_named, whereis, resolve, resolve_form, with_state, with_changed}
use Rattle.ownership.specs.inside.States.{table_with_state}
use Rattle.ownership.proofs.MetadataLaws.{fixed-same}
use Rattle.node_core.specs.declared.node.access.Access.{Access}
use Rattle.node_core.specs.State.{State}
use Rattle.node_core.specs.Observable.{observable_table_state, observable_table, observable_tables, observable}
use Rattle.node_core.specs.Access.{may_access, table_if_allowed, usable, with_table}

-- the world without the buckets of its tables
abbrev pub observable_world : World → World
observable_world w = record w { tables = observable_tables w.tables }

-- ---- finding
pub at-observable : (ts : Tables) (t : ℕ) → table_at (observable_tables ts) t ≡ option_map observable_table (table_at ts t)
at-observable [] t = refl
at-observable (x ∷ xs) zero = refl
at-observable (x ∷ xs) (suc t) = at-observable xs t

pub heads-observable : (ts : Tables) → all_metadata (observable_tables ts) ≡ all_metadata ts
heads-observable [] = refl
heads-observable (None ∷ xs) = ap (λ hs. None ∷ hs) (heads-observable xs)
heads-observable (Some table ∷ xs) = ap (λ hs. Some table.metadata ∷ hs) (heads-observable xs)

pub length-observable : (ts : Tables) → length (observable_tables ts) ≡ length ts
length-observable [] = refl
length-observable (x ∷ xs) = ap suc (length-observable xs)

pub whereis-observable : (ts : Tables) (name : List ℕ) → whereis (observable_tables ts) name ≡ whereis ts name
whereis-observable ts name = ap (position (is_named name)) (heads-observable ts)

named-observable : (t : ℕ) (o : Option Table) → option_map (λ _. t) (option_map observable_table o) ≡ option_map (λ _. t) o
named-observable t None = refl
named-observable t (Some table) = refl

form-observable : (ts : Tables) (form : Term-F Term) → resolve_form (observable_tables ts) form ≡ resolve_form ts form
form-observable ts (Term-F.Tid t) = ap (option_map (λ _. t)) (at-observable ts t) ∙ named-observable t (table_at ts t)
form-observable ts (Term-F.Atom name) = whereis-observable ts name
form-observable ts _ = refl

pub resolve-observable : (ts : Tables) (term : Term) → resolve (observable_tables ts) term ≡ resolve ts term
resolve-observable ts term = form-observable ts (out-Term term)

-- a table that was found, without its buckets
abbrev pub observable_found : ℕ × Table → ℕ × Table
observable_found found = (found.0, observable_table found.1)

either-observable : (b : Bool) (t : ℕ) (table : Table) → cond b (Some (t, observable_table table)) None ≡ option_map observable_found (cond b (Some (t, table)) None)
either-observable true t table = refl
either-observable false t table = refl

table_if_allowed-observable : (access : Access) (p t : ℕ) (o : Option Table) → option_and_then (table_if_allowed access p t) (option_map observable_table o) ≡ option_map observable_found (option_and_then (table_if_allowed access p t) o)
table_if_allowed-observable access p t None = refl
table_if_allowed-observable access p t (Some table) = either-observable (may_access access table.metadata p) t table

found-observable : (access : Access) (ts : Tables) (p : ℕ) (o : Option ℕ)
    → option_and_then (λ t. option_and_then (table_if_allowed access p t) (table_at (observable_tables ts) t)) o ≡ option_map observable_found (option_and_then (λ t. option_and_then (table_if_allowed access p t) (table_at ts t)) o)
found-observable access ts p None = refl
found-observable access ts p (Some t) = ap (option_and_then (table_if_allowed access p t)) (at-observable ts t) ∙ table_if_allowed-observable access p t (table_at ts t)

pub usable-observable : (access : Access) (ts : Tables) (p : ℕ) (term : Term) → usable access (observable_tables ts) p term ≡ option_map observable_found (usable access ts p term)
usable-observable access ts p term = ap (option_and_then (λ t. option_and_then (table_if_allowed access p t) (table_at (observable_tables ts) t))) (resolve-observable ts term) ∙ found-observable access ts p (resolve ts term)

-- ---- writing
pub set-observable : (ts : Tables) (t : ℕ) (o : Option Table) → slice_set (observable_tables ts) t (option_map observable_table o) ≡ observable_tables (slice_set ts t o)
set-observable [] t o = refl
set-observable (x ∷ xs) zero o = refl
set-observable (x ∷ xs) (suc t) o = ap (λ ts. option_map observable_table x ∷ ts) (set-observable xs t o)

pub push-observable : (ts : Tables) (table : Table) → observable_tables ts ++ Some (observable_table table) ∷ [] ≡ observable_tables (ts ++ Some table ∷ [])
push-observable [] table = refl
push-observable (x ∷ xs) table = ap (λ ts. option_map observable_table x ∷ ts) (push-observable xs table)

table_with_state-observable : (o : Option Table) (f : TableState) → table_with_state (option_map observable_table o) (observable_table_state f) ≡ option_map observable_table (table_with_state o f)
table_with_state-observable None f = refl
table_with_state-observable (Some table) f = refl

pub with_state-observable : (ts : Tables) (t : ℕ) (f : TableState) → with_state (observable_tables ts) t (observable_table_state f) ≡ observable_tables (with_state ts t f)
with_state-observable ts t f =
    ap (λ o. slice_set (observable_tables ts) t (table_with_state o (observable_table_state f))) (at-observable ts t)
    ∙ (ap (slice_set (observable_tables ts) t) (table_with_state-observable (table_at ts t) f) ∙ set-observable ts t (table_with_state (table_at ts t) f))

pub with_table-observable : (s : State) (t : ℕ) (f : TableState) → with_table (observable s) t (observable_table_state f) ≡ observable (with_table s t f)
with_table-observable s t f = ap (λ ts. record s { world = record s.world { tables = ts } }) (with_state-observable s.world.tables t f)

change-observable : (change : Table → Table) → ((table : Table) → change (observable_table table) ≡ observable_table (change table)) → (o : Option Table) → option_map change (option_map observable_table o) ≡ option_map observable_table (option_map change o)
change-observable change same None = refl
change-observable change same (Some table) = ap Some (same table)

pub changed-observable : (change : Table → Table) → ((table : Table) → change (observable_table table) ≡ observable_table (change table)) → (ts : Tables) (t : ℕ) → with_changed change (observable_tables ts) t ≡ observable_tables (with_changed change ts t)
changed-observable change same ts t =
    ap (λ o. slice_set (observable_tables ts) t (option_map change o)) (at-observable ts t)
    ∙ (ap (slice_set (observable_tables ts) t) (change-observable change same (table_at ts t)) ∙ set-observable ts t (option_map change (table_at ts t)))

-- a table whose buckets alone have changed
pub same-observable : (s : State) (t : ℕ) (table : Table) (f : TableState) → table_at s.world.tables t ≡ Some table → observable_table_state f ≡ observable_table_state table.state → observable (with_table s t f) ≡ observable s
same-observable s t table f at same =
    let there : table_at (observable_tables s.world.tables) t ≡ Some (observable_table table) = at-observable s.world.tables t ∙ ap (option_map observable_table) at in
    sym (with_table-observable s t f)
    ∙ (ap (with_table (observable s) t) same ∙ ap (λ ts. record s { world = record s.world { tables = ts } }) (fixed-same (observable_tables s.world.tables) t (observable_table table) there))
