-- Slots in the order of their places, after a change at one place.
use Rattle.std.proofs.Common.{◌≡◌, ◌≢◌, ℕ, zero, suc, ◌+◌, ◌<◌, ◌≤◌, inl, inr, List, [], ◌∷◌, Option, Some, None, Bool, true, false, cond, refl, sym, ◌∙◌, ap, subst, arith}
use Rattle.std.specs.Map.{remove_entry, set_value}
use Rattle.std.proofs.lemmas.Bool.{cases_eq}
use Rattle.ets_term.specs.declared.term.Term.{Term}
use Rattle.ets_term.specs.Order.{same}
use Rattle.node_list.specs.declared.node.Item.{Item}
use Rattle.node_list.specs.Search.{holds}
use Rattle.bucket_table.specs.Slots.{Slot, Enters, slots_behind}
use Rattle.bucket_table.specs.inside.Nodes.{with_slot}
use Rattle.bucket_table.specs.inside.Order.{slots_from}
use Rattle.bucket_table.proofs.list.Content.{remove-skips, set-skips, behind-skips}
use Rattle.bucket_table.proofs.slots.Distinct.{added-behind}

pub same-slots : (f g : ℕ → Option Item) (at more : ℕ) → ((p : ℕ) → at ≤ p → f p ≡ g p) → slots_from f at more ≡ slots_from g at more
same-slots f g at zero h = refl
same-slots f g at (suc more) h =
    ap (λ (o : Option Item). with_slot o (slots_from f (suc at) more)) (h at (omega arith))
    ∙ ap (with_slot (g at)) (same-slots f g (suc at) more (λ p l. h p (omega arith)))

pub no-slots : (f : ℕ → Option Item) (at more : ℕ) → ((p : ℕ) → at ≤ p → f p ≡ None) → slots_from f at more ≡ []
no-slots f at zero h = refl
no-slots f at (suc more) h =
    ap (λ (o : Option Item). with_slot o (slots_from f (suc at) more)) (h at (omega arith)) ∙ no-slots f (suc at) more (λ p l. h p (omega arith))

-- Places without items add no slots.
pub longer : (f : ℕ → Option Item) (at few many : ℕ) → few ≤ many → ((p : ℕ) → at + few ≤ p → f p ≡ None) → slots_from f at many ≡ slots_from f at few
longer f at zero many l h = no-slots f at many (λ p k. h p (omega arith))
longer f at (suc few) zero l h = absurd (omega arith)
longer f at (suc few) (suc many) l h = ap (with_slot (f at)) (longer f (suc at) few many (omega arith) (λ p k. h p (omega arith)))

-- ---- an inserted item

pub enters-at : (f g : ℕ → Option Item) (own : ℕ) (item : Item) → f own ≡ None → g own ≡ Some item → ((p : ℕ) → p ≢ own → f p ≡ g p)
    → (at more : ℕ) → at ≤ own → own < at + more → Enters (slots_from f at more) item.term item.chain (slots_from g at more)
enters-at f g own item none has others at zero low high = absurd (omega arith)
enters-at f g own item none has others at (suc more) low high =
    elim (cases_eq at own) [
      | inl here ↦ record {
        front = [];
        back = slots_from f (suc at) more;
        before = ap (λ (o : Option Item). with_slot o (slots_from f (suc at) more)) (ap f here ∙ none);
        after =
            ap (λ (o : Option Item). with_slot o (slots_from g (suc at) more)) (ap g here ∙ has)
            ∙ ap (λ (ss : List Slot). (item.term, item.chain) ∷ ss) (sym (same-slots f g (suc at) more (λ p l. others p (λ e. absurd (omega arith)))));
      }
      | inr other ↦
          let E : Option Item → Type 0 = λ o. Enters (with_slot (f at) (slots_from f (suc at) more)) item.term item.chain (with_slot o (slots_from g (suc at) more)) in
          subst E (others at other)
          (added-behind (f at) (slots_from f (suc at) more) (slots_from g (suc at) more) item.term item.chain (enters-at f g own item none has others (suc at) more (omega arith) (omega arith)))
    ]

-- ---- an item whose key no other item has

module _ (f : ℕ → Option Item) (own : ℕ) (item : Item) (key : Term) (has : f own ≡ Some item) (hit : same key item.term ≡ true) (alone : (p : ℕ) → p ≢ own → holds key (f p) ≡ false) where
  pub removed-at : (g : ℕ → Option Item) → g own ≡ None → ((p : ℕ) → p ≢ own → f p ≡ g p) → (at more : ℕ) → at ≤ own → own < at + more
      → slots_from g at more ≡ remove_entry (same key) (slots_from f at more)
  removed-at g none others at zero low high = absurd (omega arith)
  removed-at g none others at (suc more) low high =
      elim (cases_eq at own) [
        | inl here ↦
            ap (λ (o : Option Item). with_slot o (slots_from g (suc at) more)) (ap g here ∙ none)
            ∙ (sym (same-slots f g (suc at) more (λ p l. others p (λ e. absurd (omega arith))))
            ∙ sym (ap (λ (o : Option Item). remove_entry (same key) (with_slot o (slots_from f (suc at) more))) (ap f here ∙ has)
            ∙ ap (λ (b : Bool). cond b (slots_from f (suc at) more) ((item.term, item.chain) ∷ remove_entry (same key) (slots_from f (suc at) more))) hit))
        | inr other ↦
            ap (λ (o : Option Item). with_slot o (slots_from g (suc at) more)) (sym (others at other))
            ∙ (ap (with_slot (f at)) (removed-at g none others (suc at) more (omega arith) (omega arith))
            ∙ sym (remove-skips key (f at) (slots_from f (suc at) more) (alone at other)))
      ]

  pub replaced-at : (g : ℕ → Option Item) (w : List Term) → g own ≡ Some (record item { chain = w }) → ((p : ℕ) → p ≢ own → f p ≡ g p) → (at more : ℕ) → at ≤ own → own < at + more
      → slots_from g at more ≡ set_value (same key) (slots_from f at more) w
  replaced-at g w now others at zero low high = absurd (omega arith)
  replaced-at g w now others at (suc more) low high =
      elim (cases_eq at own) [
        | inl here ↦
            ap (λ (o : Option Item). with_slot o (slots_from g (suc at) more)) (ap g here ∙ now)
            ∙ (ap (λ (ss : List Slot). (item.term, w) ∷ ss) (sym (same-slots f g (suc at) more (λ p l. others p (λ e. absurd (omega arith)))))
            ∙ sym (ap (λ (o : Option Item). set_value (same key) (with_slot o (slots_from f (suc at) more)) w) (ap f here ∙ has)
            ∙ ap (λ (b : Bool). cond b ((item.term, w) ∷ slots_from f (suc at) more) ((item.term, item.chain) ∷ set_value (same key) (slots_from f (suc at) more) w)) hit))
        | inr other ↦
            ap (λ (o : Option Item). with_slot o (slots_from g (suc at) more)) (sym (others at other))
            ∙ (ap (with_slot (f at)) (replaced-at g w now others (suc at) more (omega arith) (omega arith))
            ∙ sym (set-skips key (f at) (slots_from f (suc at) more) w (alone at other)))
      ]

  pub behind-at : (at more rest : ℕ) → at ≤ own → at + more ≡ suc own + rest → slots_behind (slots_from f at more) key ≡ Some (slots_from f (suc own) rest)
  behind-at at zero rest low e = absurd (omega arith)
  behind-at at (suc more) rest low e =
      elim (cases_eq at own) [
        | inl here ↦
            let l : more ≡ rest = omega arith in
            ap (λ (o : Option Item). slots_behind (with_slot o (slots_from f (suc at) more)) key) (ap f here ∙ has)
            ∙ (ap (λ (b : Bool). cond b (Some (slots_from f (suc at) more)) (slots_behind (slots_from f (suc at) more) key)) hit
            ∙ (ap (λ (n : ℕ). Some (slots_from f (suc at) n)) l ∙ ap (λ (n : ℕ). Some (slots_from f (suc n) rest)) here))
        | inr other ↦
            behind-skips key (f at) (slots_from f (suc at) more) (alone at other)
            ∙ behind-at (suc at) more rest (omega arith) (omega arith)
      ]
