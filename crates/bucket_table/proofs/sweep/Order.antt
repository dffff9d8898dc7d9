-- A sweep of the slots in the order of their places.
use Rattle.std.proofs.Common.{◌≡◌, ℕ, zero, suc, ◌+◌, inl, inr, List, [], ◌∷◌, ◌++◌, Option, Some, None, Bool, true, false, not, cond, refl, sym, ◌∙◌, ap, subst, arith}
use Rattle.std.proofs.lemmas.Bool.{cases_eq}
use Rattle.node_list.specs.declared.node.Item.{Item}
use Rattle.node_list.specs.Cells.{Cell}
use Rattle.node_list.specs.Places.{item_at, HasDistinctPlaces}
use Rattle.node_list.specs.Changes.{without, cells_with, item_with}
use Rattle.bucket_table.specs.declared.split.sweep.SweepMode.{SweepMode}
use Rattle.bucket_table.specs.declared.split.sweep.SweepMode.TheVariants.{RemoveTombstones, RemoveSlotsWithObjects, MakeAllTombstones}
use Rattle.bucket_table.specs.Slots.{Slot, has_objects}
use Rattle.bucket_table.specs.inside.Nodes.{slots_of, with_slot}
use Rattle.bucket_table.specs.inside.Order.{slots_from, above, content_of}
use Rattle.bucket_table.specs.inside.Sweeps.{after_sweep, slot_at, HaveSameSweep, Sweeps}
use Rattle.bucket_table.proofs.sweep.Sweep.{after_sweep-none}
use Rattle.bucket_table.proofs.list.Change.{item-here, item-on, content-is, without-apart, without-own, with-apart, with-own}

-- ---- one node

pub alike-gone : (mode : SweepMode) (gone : ℕ) (cs new : List Cell) → HasDistinctPlaces cs → new ≡ without gone cs → ((ss : List Slot) → after_sweep mode (with_slot (item_at gone cs) ss) ≡ after_sweep mode ss) → HaveSameSweep mode cs new
alike-gone mode gone cs new a e h at =
    let P : List Cell → Type 0 = λ zs. after_sweep mode (slot_at at zs) ≡ after_sweep mode (slot_at at cs) in
    let S : Option Item → List Slot = λ o. after_sweep mode (with_slot o []) in
    subst P (sym e)
    (elim (cases_eq gone at) [
      | inl here ↦
          ap (λ (z : ℕ). after_sweep mode (slot_at z (without gone cs))) (sym here)
          ∙ (ap S (without-own gone cs a) ∙ (sym (h []) ∙ ap (λ (z : ℕ). after_sweep mode (slot_at z cs)) here))
      | inr other ↦ ap S (without-apart gone at cs other)
    ])

emptied-again : (o : Option Item) → after_sweep MakeAllTombstones (with_slot (item_with o []) []) ≡ after_sweep MakeAllTombstones (with_slot o [])
emptied-again None = refl
emptied-again (Some item) = refl

pub alike-emptied : (own : ℕ) (cs : List Cell) → HaveSameSweep MakeAllTombstones cs (cells_with own [] cs)
alike-emptied own cs at =
    let S : Option Item → List Slot = λ o. after_sweep MakeAllTombstones (with_slot o []) in
    elim (cases_eq own at) [
      | inl here ↦
          ap (λ (z : ℕ). after_sweep MakeAllTombstones (slot_at z (cells_with own [] cs))) (sym here)
          ∙ (ap S (with-own own [] cs) ∙ (emptied-again (item_at own cs) ∙ ap (λ (z : ℕ). after_sweep MakeAllTombstones (slot_at z cs)) here))
      | inr other ↦ ap S (with-apart own at [] cs other)
    ]

-- ---- part by part

kept-first : (b : Bool) (s : Slot) (ss : List Slot) → cond b (s ∷ ss) ss ≡ cond b (s ∷ []) [] ++ ss
kept-first true s ss = refl
kept-first false s ss = refl

after_sweep-first : (mode : SweepMode) (s : Slot) (ss : List Slot) → after_sweep mode (s ∷ ss) ≡ after_sweep mode (s ∷ []) ++ after_sweep mode ss
after_sweep-first RemoveTombstones s ss = kept-first (has_objects s.1) s (after_sweep RemoveTombstones ss)
after_sweep-first RemoveSlotsWithObjects s ss = kept-first (not (has_objects s.1)) s (after_sweep RemoveSlotsWithObjects ss)
after_sweep-first MakeAllTombstones s ss = refl

after_sweep-parts : (mode : SweepMode) (o : Option Item) (ss : List Slot) → after_sweep mode (with_slot o ss) ≡ after_sweep mode (with_slot o []) ++ after_sweep mode ss
after_sweep-parts mode None ss = ap (λ (zs : List Slot). zs ++ after_sweep mode ss) (sym (after_sweep-none mode))
after_sweep-parts mode (Some item) ss = after_sweep-first mode (item.term, item.chain) ss

with-parts : (o : Option Item) (ss : List Slot) → with_slot o [] ++ ss ≡ with_slot o ss
with-parts None ss = refl
with-parts (Some item) ss = refl

-- ---- slots that a sweep keeps

abbrev pub AreSwept : SweepMode → List Slot → Type 0
AreSwept mode [] = Unit {0}
AreSwept mode (s ∷ ss) = (after_sweep mode (s ∷ []) ≡ s ∷ []) × AreSwept mode ss

purged-swept : (s : Slot) (ss : List Slot) (b : Bool) → has_objects s.1 ≡ b → AreSwept RemoveTombstones ss → AreSwept RemoveTombstones (cond b (s ∷ ss) ss)
purged-swept s ss true e h = (ap (λ (b : Bool). cond b (s ∷ []) []) e, h)
purged-swept s ss false e h = h

dropped-swept : (s : Slot) (ss : List Slot) (b : Bool) → not (has_objects s.1) ≡ b → AreSwept RemoveSlotsWithObjects ss → AreSwept RemoveSlotsWithObjects (cond b (s ∷ ss) ss)
dropped-swept s ss true e h = (ap (λ (b : Bool). cond b (s ∷ []) []) e, h)
dropped-swept s ss false e h = h

sweep-swept : (mode : SweepMode) (ss : List Slot) → AreSwept mode (after_sweep mode ss)
sweep-swept RemoveTombstones [] = tt
sweep-swept RemoveSlotsWithObjects [] = tt
sweep-swept MakeAllTombstones [] = tt
sweep-swept RemoveTombstones (s ∷ ss) = purged-swept s (after_sweep RemoveTombstones ss) (has_objects s.1) refl (sweep-swept RemoveTombstones ss)
sweep-swept RemoveSlotsWithObjects (s ∷ ss) = dropped-swept s (after_sweep RemoveSlotsWithObjects ss) (not (has_objects s.1)) refl (sweep-swept RemoveSlotsWithObjects ss)
sweep-swept MakeAllTombstones (s ∷ ss) = (refl, sweep-swept MakeAllTombstones ss)

after_sweep-slot-first : (mode : SweepMode) (o : Option Item) (ss : List Slot) → AreSwept mode (with_slot o ss) → after_sweep mode (with_slot o []) ≡ with_slot o []
after_sweep-slot-first mode None ss h = after_sweep-none mode
after_sweep-slot-first mode (Some item) ss h = h.0

after_sweep-rest : (mode : SweepMode) (o : Option Item) (ss : List Slot) → AreSwept mode (with_slot o ss) → AreSwept mode ss
after_sweep-rest mode None ss h = h
after_sweep-rest mode (Some item) ss h = h.1

after_sweep-at : (mode : SweepMode) (at : ℕ) (cs : List Cell) → AreSwept mode (slots_of cs) → after_sweep mode (slot_at at cs) ≡ slot_at at cs
after_sweep-at mode at [] h = after_sweep-none mode
after_sweep-at mode at (c ∷ cs) h =
    let S : Option Item → Type 0 = λ o. after_sweep mode (with_slot o []) ≡ with_slot o [] in
    elim (cases_eq c.at at) [
      | inl here ↦ subst S (sym (item-here at c cs here)) (after_sweep-slot-first mode c.item (slots_of cs) h)
      | inr other ↦ subst S (sym (item-on at c cs other)) (after_sweep-at mode at cs (after_sweep-rest mode c.item (slots_of cs) h))
    ]

-- ---- all slots

alike-from : (mode : SweepMode) (f g : ℕ → Option Item) (at more : ℕ) → ((p : ℕ) → after_sweep mode (with_slot (f p) []) ≡ after_sweep mode (with_slot (g p) [])) → after_sweep mode (slots_from f at more) ≡ after_sweep mode (slots_from g at more)
alike-from mode f g at zero h = refl
alike-from mode f g at (suc more) h =
    after_sweep-parts mode (f at) (slots_from f (suc at) more)
    ∙ (ap (λ (ss : List Slot). ss ++ after_sweep mode (slots_from f (suc at) more)) (h at)
    ∙ (ap (λ (ss : List Slot). after_sweep mode (with_slot (g at) []) ++ ss) (alike-from mode f g (suc at) more h)
    ∙ sym (after_sweep-parts mode (g at) (slots_from g (suc at) more))))

after_sweep-from : (mode : SweepMode) (f : ℕ → Option Item) (at more : ℕ) → ((p : ℕ) → after_sweep mode (with_slot (f p) []) ≡ with_slot (f p) []) → after_sweep mode (slots_from f at more) ≡ slots_from f at more
after_sweep-from mode f at zero h = after_sweep-none mode
after_sweep-from mode f at (suc more) h =
    after_sweep-parts mode (f at) (slots_from f (suc at) more)
    ∙ (ap (λ (ss : List Slot). ss ++ after_sweep mode (slots_from f (suc at) more)) (h at)
    ∙ (ap (λ (ss : List Slot). with_slot (f at) [] ++ ss) (after_sweep-from mode f (suc at) more h) ∙ with-parts (f at) (slots_from f (suc at) more)))

-- A sweep of the list also sweeps the slots in the order of their places.
pub content-swept : (mode : SweepMode) (old new : List Cell) → HaveSameSweep mode old new → slots_of new ≡ after_sweep mode (slots_of old) → content_of new ≡ after_sweep mode (content_of old)
content-swept mode old new alike e =
    let S : List Slot → Type 0 = λ ss. AreSwept mode ss in
    let s : AreSwept mode (slots_of new) = subst S (sym e) (sweep-swept mode (slots_of old)) in
    sym (content-is new (above old + above new) (omega arith))
    ∙ (sym (after_sweep-from mode (λ at. item_at at new) 0 (above old + above new) (λ at. after_sweep-at mode at new s))
    ∙ (alike-from mode (λ at. item_at at new) (λ at. item_at at old) 0 (above old + above new) alike
    ∙ ap (after_sweep mode) (content-is old (above old + above new) (omega arith))))

-- One sweep after another.
pub sweeps-on : (mode : SweepMode) (old mid new : List Cell) → Sweeps mode old mid → Sweeps mode mid new → Sweeps mode old new
sweeps-on mode old mid new a b = record {
  alike = λ at. b.alike at ∙ a.alike at;
  len = omega (arith, a.len, b.len);
  fewer = omega (arith, a.fewer, b.fewer);
}
