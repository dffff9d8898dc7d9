-- Tables that differ at most in the order of their slots: what is found in them, and what changes of them leave.
use Rattle.std.proofs.Common.{◌≡◌, ℕ, zero, suc, Bool, true, false, cond, List, [], ◌∷◌, ◌++◌, Option, None, Some, option_map, option_and_then, map, position, refl, sym, ap, subst, length}
use Rattle.std.specs.Prelude.{slice_set}
use Rattle.std.specs.List.{AllZip}
use Rattle.ets_term.specs.declared.term.Term.{Term, out-Term}
use Rattle.ets_term.specs.declared.term.Term.TheOpen.{Term-F}
use Rattle.bucket_table.specs.Slots.{Slot}
use Rattle.table_ops.specs.Content.{Content}
use Rattle.fixed_walk.specs.TableState.{TableState}
use Rattle.ownership.specs.declared.metadata.Metadata.{Metadata}
use Rattle.ownership.specs.World.{Table, Tables, World, table_at, metadata_of, all_metadata, is_named, whereis, resolve, resolve_form}
use Rattle.node_core.specs.declared.node.access.Access.{Access}
use Rattle.node_core.specs.State.{State}
use Rattle.node_core.specs.Access.{may_access, table_if_allowed, usable}
use Rattle.node_core.proofs.determined.Shuffles.{same as same-list}
use Rattle.node_core.proofs.determined.Slots.{SameSlots}

-- the same content, and the same table, with other slots
abbrev pub content_with : Content → List Slot → Content
content_with c ss = record c { slots = ss }

abbrev pub state_with : TableState → List Slot → TableState
state_with f ss = record f { content = content_with f.content ss }

pub record AlikeContents (c d : Content) : Type 0 where
  pub slots : SameSlots c.slots d.slots
  pub rest : d ≡ content_with c d.slots

pub record Alike (f g : TableState) : Type 0 where
  pub slots : SameSlots f.content.slots g.content.slots
  pub rest : g ≡ state_with f g.content.slots

pub record AlikeTable (t u : Table) : Type 0 where
  pub metadata : u.metadata ≡ t.metadata
  pub state : Alike t.state u.state

abbrev pub AlikePlace : Option Table → Option Table → Type 0
AlikePlace None None = Unit {0}
AlikePlace None (Some u) = ⊥
AlikePlace (Some t) None = ⊥
AlikePlace (Some t) (Some u) = AlikeTable t u

abbrev pub AlikeTables : Tables → Tables → Type 0
AlikeTables ts us = AllZip AlikePlace ts us

-- worlds and states that differ at most in that
abbrev pub world_with : World → Tables → World
world_with w ts = record w { tables = ts }

abbrev pub with_tables : State → Tables → State
with_tables s ts = record s { world = world_with s.world ts }

pub record AlikeWorlds (w v : World) : Type 0 where
  pub tables : AlikeTables w.tables v.tables
  pub rest : v ≡ world_with w v.tables

pub record AlikeStates (s s' : State) : Type 0 where
  pub tables : AlikeTables s.world.tables s'.world.tables
  pub rest : s' ≡ with_tables s s'.world.tables

-- ---- each is like itself
pub alike-itself : (f : TableState) → Alike f f
alike-itself f = record { slots = same-list f.content.slots; rest = refl }

pub place-itself : (o : Option Table) → AlikePlace o o
place-itself None = tt
place-itself (Some t) = record { metadata = refl; state = alike-itself t.state }

pub tables-itself : (ts : Tables) → AlikeTables ts ts
tables-itself [] = tt
tables-itself (o ∷ ts) = (place-itself o, tables-itself ts)

-- ---- what is found
pub at-alike : (ts us : Tables) → AlikeTables ts us → (t : ℕ) → AlikePlace (table_at ts t) (table_at us t)
at-alike [] [] a t = tt
at-alike [] (u ∷ us) a t = absurd a
at-alike (o ∷ ts) [] a t = absurd a
at-alike (o ∷ ts) (u ∷ us) a zero = a.0
at-alike (o ∷ ts) (u ∷ us) a (suc t) = at-alike ts us a.1 t

pub length-alike : (ts us : Tables) → AlikeTables ts us → length us ≡ length ts
length-alike [] [] a = refl
length-alike [] (u ∷ us) a = absurd a
length-alike (o ∷ ts) [] a = absurd a
length-alike (o ∷ ts) (u ∷ us) a = ap suc (length-alike ts us a.1)

metadata-place : (o u : Option Table) → AlikePlace o u → metadata_of u ≡ metadata_of o
metadata-place None None a = refl
metadata-place None (Some u) a = absurd a
metadata-place (Some t) None a = absurd a
metadata-place (Some t) (Some u) a = ap Some a.metadata

pub metadata-alike : (ts us : Tables) → AlikeTables ts us → all_metadata us ≡ all_metadata ts
metadata-alike [] [] a = refl
metadata-alike [] (u ∷ us) a = absurd a
metadata-alike (o ∷ ts) [] a = absurd a
metadata-alike (o ∷ ts) (u ∷ us) a = λ i. metadata-place o u a.0 i ∷ metadata-alike ts us a.1 i

pub whereis-alike : (ts us : Tables) → AlikeTables ts us → (name : List ℕ) → whereis us name ≡ whereis ts name
whereis-alike ts us a name = ap (position (is_named name)) (metadata-alike ts us a)

named-place : (t : ℕ) (o u : Option Table) → AlikePlace o u → option_map (λ _. t) u ≡ option_map (λ _. t) o
named-place t None None a = refl
named-place t None (Some u) a = absurd a
named-place t (Some o) None a = absurd a
named-place t (Some o) (Some u) a = refl

module _ (ts us : Tables) (a : AlikeTables ts us) where
  form-alike : (form : Term-F Term) → resolve_form us form ≡ resolve_form ts form
  form-alike (Term-F.Tid t) = named-place t (table_at ts t) (table_at us t) (at-alike ts us a t)
  form-alike (Term-F.Atom name) = whereis-alike ts us a name
  form-alike _ = refl

  pub resolve-alike : (term : Term) → resolve us term ≡ resolve ts term
  resolve-alike term = form-alike (out-Term term)

-- a table that may be used, in both
abbrev pub AlikeFound : Option (ℕ × Table) → Option (ℕ × Table) → Type 0
AlikeFound None None = Unit {0}
AlikeFound None (Some u) = ⊥
AlikeFound (Some t) None = ⊥
AlikeFound (Some t) (Some u) = (u.0 ≡ t.0) × AlikeTable t.1 u.1

allowed-at : (b c : Bool) (n : ℕ) (t u : Table) → c ≡ b → AlikeTable t u → AlikeFound (cond b (Some (n, t)) None) (cond c (Some (n, u)) None)
allowed-at true true n t u e a = (refl, a)
allowed-at false false n t u e a = tt
allowed-at true false n t u e a = cc
allowed-at false true n t u e a = cc

module _ (access : Access) (p : ℕ) where
  allowed : (n : ℕ) (o u : Option Table) → AlikePlace o u → AlikeFound (option_and_then (table_if_allowed access p n) o) (option_and_then (table_if_allowed access p n) u)
  allowed n None None a = tt
  allowed n None (Some u) a = absurd a
  allowed n (Some t) None a = absurd a
  allowed n (Some t) (Some u) a =
      allowed-at (may_access access t.metadata p) (may_access access u.metadata p) n t u (ap (λ (m : Metadata). may_access access m p) a.metadata) a

  module _ (ts us : Tables) (a : AlikeTables ts us) where
    found : (o : Option ℕ) → AlikeFound (option_and_then (λ t. option_and_then (table_if_allowed access p t) (table_at ts t)) o) (option_and_then (λ t. option_and_then (table_if_allowed access p t) (table_at us t)) o)
    found None = tt
    found (Some t) = allowed t (table_at ts t) (table_at us t) (at-alike ts us a t)

    pub usable-alike : (term : Term) → AlikeFound (usable access ts p term) (usable access us p term)
    usable-alike term =
        subst (λ (o : Option ℕ). AlikeFound (usable access ts p term) (option_and_then (λ t. option_and_then (table_if_allowed access p t) (table_at us t)) o))
        (sym (resolve-alike ts us a term)) (found (resolve ts term))

-- ---- what is written
pub set-alike : (ts us : Tables) → AlikeTables ts us → (t : ℕ) (o u : Option Table) → AlikePlace o u → AlikeTables (slice_set ts t o) (slice_set us t u)
set-alike [] [] a t o u p = tt
set-alike [] (y ∷ us) a t o u p = absurd a
set-alike (x ∷ ts) [] a t o u p = absurd a
set-alike (x ∷ ts) (y ∷ us) a zero o u p = (p, a.1)
set-alike (x ∷ ts) (y ∷ us) a (suc t) o u p = (a.0, set-alike ts us a.1 t o u p)

pub push-alike : (ts us : Tables) → AlikeTables ts us → (o u : Option Table) → AlikePlace o u → AlikeTables (ts ++ o ∷ []) (us ++ u ∷ [])
push-alike [] [] a o u p = (p, tt)
push-alike [] (y ∷ us) a o u p = absurd a
push-alike (x ∷ ts) [] a o u p = absurd a
push-alike (x ∷ ts) (y ∷ us) a o u p = (a.0, push-alike ts us a.1 o u p)

pub map-alike : (change : Option Table → Option Table) → ((o u : Option Table) → AlikePlace o u → AlikePlace (change o) (change u)) → (ts us : Tables) → AlikeTables ts us → AlikeTables (map change ts) (map change us)
map-alike change each [] [] a = tt
map-alike change each [] (y ∷ us) a = absurd a
map-alike change each (x ∷ ts) [] a = absurd a
map-alike change each (x ∷ ts) (y ∷ us) a = (each x y a.0, map-alike change each ts us a.1)

pub change-alike : (one other : Table → Table) → ((t u : Table) → AlikeTable t u → AlikeTable (one t) (other u)) → (o u : Option Table) → AlikePlace o u → AlikePlace (option_map one o) (option_map other u)
change-alike one other each None None a = tt
change-alike one other each None (Some u) a = absurd a
change-alike one other each (Some t) None a = absurd a
change-alike one other each (Some t) (Some u) a = each t u a
