-- An object that is inserted only if its key has no object.
use Rattle.std.proofs.Common.{◌≡◌, ℕ, ◌+◌, ◌≤◌, true, false, ◌&&◌, ◌||◌, Bool, List, [], ◌∷◌, Option, None, Some, is_some, Ok, Err, ap, subst, ◌∙◌, true≢false, arith}
use Rattle.std.specs.Prelude.{nat_lt, MatchOption}
use Rattle.std.specs.List.{list_any, list_all}
use Rattle.std.specs.Option.{option_map_or}
use Rattle.ets_term.specs.declared.term.Term.{Term}
use Rattle.ets_term.specs.Depth.{is_too_deep}
use Rattle.bucket_table.specs.Slots.{Slot, has_objects}
use Rattle.table_ops.specs.declared.refusal.Refusal.{Refusal}
use Rattle.table_ops.specs.declared.undo.Undo.{Undo}
use Rattle.table_ops.specs.Content.{Content, key_of, is_object, objects_under, is_present}
use Rattle.table_ops.specs.Put.{InsertsNew, is_taken}
use Rattle.table_ops.specs.Refusals.{RefinesChange}
use Rattle.table_ops.specs.inside.Counted.{IsCounted}
use Rattle.table_ops.specs.inside.Undo.{added_objects, PutsOne}
use Rattle.table_ops.proofs.InvariantLaws.{slots-puts}
use Rattle.table_ops.proofs.PutLaws.{to-key}
use Rattle.table_ops.proofs.InsertLaws.{within-limit, one-done, one-refused, stores-done, stores-refused, new-stores}

-- a search that found no objects
pub none-found : (o : Option ℕ) (P : Type 0) (Q : ℕ → Type 0) → is_some o ≡ false → MatchOption o P Q → P
none-found None P Q h p = p
none-found (Some place) P Q h p = absurd (true≢false h)

module _ (object key : Term) (old : Content) (its : key_of old.keypos object ≡ Some key) where
  one-is : list_all (is_object old.keypos) (object ∷ []) ≡ true
  one-is = ap (λ (k : Option Term). is_some k && true) its

  module _ (none : objects_under old.slots key ≡ []) where
    one-free : list_any (is_taken old.keypos old.slots) (object ∷ []) ≡ false
    one-free = ap (λ (k : Option Term). option_map_or (is_present old.slots) k false || false) its ∙ ap (λ (l : List Term). has_objects l || false) none

    module _ (shallow : is_too_deep object ≡ false) (count : ℕ) (i : IsCounted old.kind old.keypos old.limit count old.slots) where
      pub one-new : (u : Undo) (new : List Slot) → PutsOne (nat_lt count old.limit) old.kind key object old.slots (Ok u) new → InsertsNew (object ∷ []) old (Ok true) (record old { slots = new })
      one-new u new p =
          let one = one-done old.limit count old.kind old.keypos object old.slots i.counted u new i.within (to-key (key_of old.keypos object) _ key its p) in
          new-stores (object ∷ []) old one-is one-free (Ok true) (record old { slots = new })
          (stores-done true (object ∷ []) old (ap (λ (b : Bool). b || false) shallow) new one.0 (subst (λ n. n ≤ old.limit) one.1 one.2))

      pub one-kept : (e : Refusal) (new : List Slot) → PutsOne (nat_lt count old.limit) old.kind key object old.slots (Err e) new → RefinesChange (InsertsNew (object ∷ []) old) old (Err e) (record old { slots = new })
      one-kept e new p =
          new-stores (object ∷ []) old one-is one-free (Err e) (record old { slots = new })
          (stores-refused true (object ∷ []) old (ap (λ (b : Bool). b || false) shallow) e new
          (one-refused old.limit count old.kind old.keypos object old.slots i.counted e new (to-key (key_of old.keypos object) _ key its p)))

      pub one-more : (u : Undo) (new : List Slot) → PutsOne (nat_lt count old.limit) old.kind key object old.slots (Ok u) new → IsCounted old.kind old.keypos old.limit (count + added_objects u) new
      one-more u new p = record {
        counted = omega (arith, i.counted, p.2);
        within = within-limit count old.limit u i.within p.3;
        few = i.few;
        slots_are = slots-puts old.kind old.keypos old.slots new key object i.slots_are its shallow p.0;
      }
