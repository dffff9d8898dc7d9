-- What each part has of its tables, after changes that each part makes.
use Rattle.std.proofs.Common.{◌≡◌, ℕ, zero, suc, ◌==◌, Bool, true, false, cond, List, [], ◌∷◌, ◌++◌, Option, None, Some, option_map, refl, sym, ap, subst, ◌∙◌, length, position, arith}
use Rattle.std.specs.Prelude.{slice_set}
use Rattle.std.specs.Option.{option_map_or}
use Rattle.std.proofs.lemmas.Bool.Decides.{nat_tests}
use Rattle.table_ops.specs.Invariants.{IsContent}
use Rattle.fixed_walk.specs.TableState.{TableState}
use Rattle.ownership.specs.World.{Table, Tables, table_at, all_metadata, is_named, whereis, with_changed}
use Rattle.node_core.specs.State.{State}
use Rattle.node_core.specs.Access.{with_table}
use Rattle.node_core.specs.laws.Kept.{slots_in}
use Rattle.node_parts.specs.Parts.{replicated_table, replicated_tables, replicated, limit_in, limit_of_new, HasContents}
use Rattle.node_parts.proofs.Found.{at-replicated, heads-replicated}
use Rattle.node_parts.proofs.ForAll.{Fate, stay, stay-slots, stay-limit, Moves}

-- ---- writing
pub set-replicated : (ts : Tables) (t : ℕ) (o : Option Table) → slice_set (replicated_tables ts) t (option_map replicated_table o) ≡ replicated_tables (slice_set ts t o)
set-replicated [] t o = refl
set-replicated (x ∷ xs) zero o = refl
set-replicated (x ∷ xs) (suc t) o = ap (λ ts. option_map replicated_table x ∷ ts) (set-replicated xs t o)

pub push-replicated : (ts : Tables) (table : Table) → replicated_tables ts ++ Some (replicated_table table) ∷ [] ≡ replicated_tables (ts ++ Some table ∷ [])
push-replicated [] table = refl
push-replicated (x ∷ xs) table = ap (λ ts. option_map replicated_table x ∷ ts) (push-replicated xs table)

length-replicated : (ts : Tables) → length (replicated_tables ts) ≡ length ts
length-replicated [] = refl
length-replicated (x ∷ xs) = ap suc (length-replicated xs)

change-replicated : (change : Table → Table) → ((table : Table) → change (replicated_table table) ≡ replicated_table (change table)) → (o : Option Table)
    → option_map change (option_map replicated_table o) ≡ option_map replicated_table (option_map change o)
change-replicated change same None = refl
change-replicated change same (Some table) = ap Some (same table)

pub changed-replicated : (change : Table → Table) → ((table : Table) → change (replicated_table table) ≡ replicated_table (change table)) → (ts : Tables) (t : ℕ)
    → with_changed change (replicated_tables ts) t ≡ replicated_tables (with_changed change ts t)
changed-replicated change same ts t =
    ap (λ o. slice_set (replicated_tables ts) t (option_map change o)) (at-replicated ts t)
    ∙ (ap (slice_set (replicated_tables ts) t) (change-replicated change same (table_at ts t)) ∙ set-replicated ts t (option_map change (table_at ts t)))

-- a table's state without objects and limit
abbrev pub replicated_state : TableState → TableState
replicated_state f = record f { content = record f.content { limit = 0; slots = [] } }

state-replicated : (o : Option Table) (f : TableState)
    → option_map (λ (table : Table). record table { state = replicated_state f }) (option_map replicated_table o) ≡ option_map replicated_table (option_map (λ (table : Table). record table { state = f }) o)
state-replicated None f = refl
state-replicated (Some table) f = refl

pub with_table-replicated : (s : State) (t : ℕ) (f : TableState) → with_table (replicated s) t (replicated_state f) ≡ replicated (with_table s t f)
with_table-replicated s t f =
    ap (λ (ts : Tables). record { limits = record s.limits { objects = 0 }; world = record s.world { tables = ts } })
    (ap (λ o. slice_set (replicated_tables s.world.tables) t (option_map (λ (table : Table). record table { state = replicated_state f }) o)) (at-replicated s.world.tables t)
    ∙ (ap (slice_set (replicated_tables s.world.tables) t) (state-replicated (table_at s.world.tables t) f)
    ∙ set-replicated s.world.tables t (option_map (λ (table : Table). record table { state = f }) (table_at s.world.tables t))))

-- ---- two states that have the same in each part
module _ (one other : State) (same : replicated one ≡ replicated other) where
  pub world-same : (record one.world { tables = replicated_tables one.world.tables }) ≡ (record other.world { tables = replicated_tables other.world.tables })
  world-same = ap (λ (s : State). s.world) same

  pub processes-same : one.world.processes ≡ other.world.processes
  processes-same = ap (λ (s : State). s.world.processes) same

  tables-same : replicated_tables one.world.tables ≡ replicated_tables other.world.tables
  tables-same = ap (λ (s : State). s.world.tables) same

  pub lengths-same : length one.world.tables ≡ length other.world.tables
  lengths-same = sym (length-replicated one.world.tables) ∙ (ap length tables-same ∙ length-replicated other.world.tables)

  pub whereis-same : (name : List ℕ) → whereis one.world.tables name ≡ whereis other.world.tables name
  whereis-same name =
      ap (position (is_named name)) (sym (heads-replicated one.world.tables) ∙ (ap all_metadata tables-same ∙ heads-replicated other.world.tables))

  metadata-at : (o : Option Table) → option_map (λ (table : Table). table.metadata) (option_map replicated_table o) ≡ option_map (λ (table : Table). table.metadata) o
  metadata-at None = refl
  metadata-at (Some table) = refl

  pub metadata-same : (t : ℕ) → option_map (λ (table : Table). table.metadata) (table_at one.world.tables t) ≡ option_map (λ (table : Table). table.metadata) (table_at other.world.tables t)
  metadata-same t =
      sym (metadata-at (table_at one.world.tables t))
      ∙ (ap (option_map (λ (table : Table). table.metadata)) (sym (at-replicated one.world.tables t) ∙ (ap (λ ts. table_at ts t) tables-same ∙ at-replicated other.world.tables t))
      ∙ metadata-at (table_at other.world.tables t))

-- ---- the states of tables
abbrev pub state_at : Tables → ℕ → Option TableState
state_at ts t = option_map (λ (table : Table). table.state) (table_at ts t)

slots-of : (o : Option Table) → option_map_or (λ (table : Table). table.state.content.slots) o [] ≡ option_map_or (λ (f : TableState). f.content.slots) (option_map (λ (table : Table). table.state) o) []
slots-of None = refl
slots-of (Some table) = refl

limit-of : (o : Option Table) → option_map_or (λ (table : Table). table.state.content.limit) o 0 ≡ option_map_or (λ (f : TableState). f.content.limit) (option_map (λ (table : Table). table.state) o) 0
limit-of None = refl
limit-of (Some table) = refl

pub slots-by : (s : State) (t : ℕ) → slots_in t s ≡ option_map_or (λ (f : TableState). f.content.slots) (state_at s.world.tables t) []
slots-by s t = slots-of (table_at s.world.tables t)

pub limit-by : (s : State) (t : ℕ) → limit_in t s ≡ option_map_or (λ (f : TableState). f.content.limit) (state_at s.world.tables t) 0
limit-by s t = limit-of (table_at s.world.tables t)

contents-at : (s : State) (t : ℕ) → HasContents s → (f : TableState) (o : Option Table) → table_at s.world.tables t ≡ o → option_map (λ (table : Table). table.state) o ≡ Some f → IsContent f.content
contents-at s t contents f None at e = cc
contents-at s t contents f (Some table) at e = let is : table.state ≡ f = cc in subst (λ (g : TableState). IsContent g.content) is (contents t table at)

-- the content of a table's state
pub contents-of : (s : State) (t : ℕ) → HasContents s → (f : TableState) → state_at s.world.tables t ≡ Some f → IsContent f.content
contents-of s t contents f e = contents-at s t contents f (table_at s.world.tables t) refl e

-- a change of metadata alone
changed-at : (change : Table → Table) → ((table : Table) → (change table).state ≡ table.state) → (o : Option Table) → option_map (λ (table : Table). table.state) (option_map change o) ≡ option_map (λ (table : Table). table.state) o
changed-at change same None = refl
changed-at change same (Some table) = ap Some (same table)

pub states-changed : (change : Table → Table) → ((table : Table) → (change table).state ≡ table.state) → (ts : Tables) (t u : ℕ) → state_at (with_changed change ts t) u ≡ state_at ts u
states-changed change same [] t u = refl
states-changed change same (x ∷ xs) zero zero = changed-at change same x
states-changed change same (x ∷ xs) zero (suc u) = refl
states-changed change same (x ∷ xs) (suc t) zero = refl
states-changed change same (x ∷ xs) (suc t) (suc u) = states-changed change same xs t u

-- the states of tables stay
pub moves-states : (part new next : State) → replicated new ≡ replicated next → limit_of_new new ≡ limit_of_new part
    → ((u : ℕ) → state_at new.world.tables u ≡ state_at part.world.tables u) → Moves (λ t. stay) next part new
moves-states part new next same new_limit states = record {
  same = same;
  slots = λ t.
      slots-by new t
      ∙ (ap (λ o. option_map_or (λ (f : TableState). f.content.slots) o []) (states t)
      ∙ (sym (slots-by part t) ∙ stay-slots (slots_in t part)));
  limits = λ t.
      limit-by new t
      ∙ (ap (λ o. option_map_or (λ (f : TableState). f.content.limit) o 0) (states t)
      ∙ (sym (limit-by part t) ∙ stay-limit (limit_in t part) (limit_of_new part)));
  new_limit = new_limit;
  contents = λ contents t table at. contents-of part t contents table.state (sym (states t) ∙ ap (option_map (λ (own : Table). own.state)) at);
}

-- ---- one table has another fate than all others
abbrev pub only : ℕ → Fate → ℕ → Fate
only t fate u = cond (u == t) fate stay

pub only-this : (t : ℕ) (fate : Fate) → only t fate t ≡ fate
only-this t fate = by (t == t) refl
  where
    by : (b : Bool) → (t == t) ≡ b → cond b fate stay ≡ fate
    by true e = refl
    by false e = absurd (grind (arith, nat_tests, e))

pub only-other : (t u : ℕ) (fate : Fate) → (u ≡ t → ⊥) → only t fate u ≡ stay
only-other t u fate apart = by (u == t) refl
  where
    by : (b : Bool) → (u == t) ≡ b → cond b fate stay ≡ stay
    by true e = absurd (apart (grind (arith, nat_tests, e)))
    by false e = refl
