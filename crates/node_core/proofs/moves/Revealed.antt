-- A state whose tables have the invariant of content, and whose names each find their table, is sound.
use Rattle.std.proofs.Common.{◌≡◌, ℕ, true, List, [], ◌∷◌, Option, None, Some, option_map, refl, sym, ap, ◌∙◌}
use Rattle.std.proofs.lemmas.Option.{same_Some}
use Rattle.bucket_table.specs.Slots.{Slot}
use Rattle.table_ops.specs.declared.kind.Kind.{Kind}
use Rattle.table_ops.specs.Invariants.{IsContent, AreSlots}
use Rattle.ownership.specs.World.{Table, Tables, table_at, whereis}
use Rattle.node_core.specs.State.{State}
use Rattle.node_core.specs.Observable.{observable, observable_table}
use Rattle.node_core.specs.laws.Reached.{HasNoEnd, IsSound}
use Rattle.node_core.proofs.buckets.ObservableTables.{at-observable}

no-end : (kind : Kind) (keypos : ℕ) (slots : List Slot) → AreSlots kind keypos slots → HasNoEnd slots
no-end kind keypos [] all = tt
no-end kind keypos (slot ∷ slots) all = (all.0.key, no-end kind keypos slots all.1)

-- the table of an observable state, with its own buckets
record IsSeen (ts : Tables) (t : ℕ) (table : Table) : Type 0 where
  pub own : Table
  pub here : table_at ts t ≡ Some own
  pub is : table ≡ observable_table own

seen : (s : State) (t : ℕ) (table : Table) → table_at (observable s).world.tables t ≡ Some table → IsSeen s.world.tables t table
seen s t table at = by (table_at s.world.tables t) refl (sym (at-observable s.world.tables t) ∙ at)
  where
    by : (o : Option Table) → table_at s.world.tables t ≡ o → option_map observable_table o ≡ Some table → IsSeen s.world.tables t table
    by None here e = absurd (cc)
    by (Some own) here e = record { own = own; here = here; is = sym (same_Some _ _ e) }

module _ (s : State) (contents : (t : ℕ) (table : Table) → table_at s.world.tables t ≡ Some table → IsContent table.state.content) where
  pub sound-revealed : ((t : ℕ) (table : Table) → table_at s.world.tables t ≡ Some table → table.metadata.named ≡ true → whereis s.world.tables table.metadata.name ≡ Some t) → IsSound (observable s)
  sound-revealed finds = record {
    keys = λ t table at. let h = seen s t table at in rw h.is (contents t h.own h.here).distinct;
    ends = λ t table at.
        let h = seen s t table at in
        let content = contents t h.own h.here in
        rw h.is (no-end h.own.state.content.kind h.own.state.content.keypos h.own.state.content.slots content.slots);
    names = λ t u one other at at' named named' same.
        let h = seen s t one at in
        let k = seen s u other at' in
        let first = finds t h.own h.here (sym (ap (λ (x : Table). x.metadata.named) h.is) ∙ named) in
        let second = finds u k.own k.here (sym (ap (λ (x : Table). x.metadata.named) k.is) ∙ named') in
        let name = sym (ap (λ (x : Table). x.metadata.name) h.is) ∙ same ∙ ap (λ (x : Table). x.metadata.name) k.is in
        same_Some _ _ (sym first ∙ ap (whereis s.world.tables) name ∙ second);
  }
