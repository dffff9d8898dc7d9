-- The slots in the order of their places are a permutation of those in the order of the list.
use Rattle.std.proofs.Common.{◌≡◌, ◌≢◌, ℕ, suc, ◌+◌, ◌-◌, ◌<◌, inl, inr, List, [], ◌∷◌, ◌++◌, length, Option, Some, None, Bool, true, false, cond, count_by, refl, sym, ◌∙◌, ap, subst, arith}
use Rattle.std.specs.List.{IsDistinct, AllByRecursion, sum_by}
use Rattle.std.specs.Map.{lookup, remove_entry, set_value, keys_of}
use Rattle.std.proofs.lemmas.Bool.{cases_eq}
use Rattle.std.proofs.lemmas.List.Sums.{sum_by-append, sum_by-cons}
use Rattle.ets_term.specs.declared.term.Term.{Term}
use Rattle.ets_term.specs.Order.{same}
use Rattle.ets_term.specs.laws.Same.{same-exact, same-refl}
use Rattle.node_list.specs.declared.node.Item.{Item}
use Rattle.node_list.specs.Cells.{Cell}
use Rattle.node_list.specs.Places.{item_at, HasDistinctPlaces}
use Rattle.node_list.specs.Search.{holds}
use Rattle.node_list.specs.Changes as changes
use Rattle.node_list.specs.Changes.{item_with, cells_with}
use Rattle.node_list.proofs.CellLaws.{from-here}
use Rattle.bucket_table.specs.Slots.{Slot, Enters, objects_of, slots_behind}
use Rattle.bucket_table.specs.Rows.{HasDistinctKeys}
use Rattle.bucket_table.specs.inside.Nodes.{slots_of, with_slot}
use Rattle.bucket_table.specs.inside.Search.{IsFound}
use Rattle.bucket_table.specs.inside.Order.{slots_from, above, content_of}
use Rattle.bucket_table.proofs.list.Content.{same-sym, found-at}
use Rattle.bucket_table.proofs.list.Length.{length-added}
use Rattle.bucket_table.proofs.slots.Distinct.{first-missed, distinct-added}
use Rattle.bucket_table.proofs.slots.Traverse.{none-apart}
use Rattle.bucket_table.proofs.list.Places.{Seat, tail-seat, misses, all-behind, distinct-behind}
use Rattle.bucket_table.proofs.order.Change.{removed-at, replaced-at, behind-at}
use Rattle.bucket_table.proofs.list.Change.{item-here, item-on, item-below, content-is, first-dummy, first-item, without-apart, without-own, with-apart, with-own}

-- ---- in another order

objects-step : (key own : Term) (objects : List Term) (s : Slot) (ss ordered : List Slot) (b : Bool) → same key s.0 ≡ b → same own s.0 ≡ false → objects_of ordered key ≡ cond (same key own) (Some objects) (objects_of ss key)
    → cond b (Some s.1) (objects_of ordered key) ≡ cond (same key own) (Some objects) (cond b (Some s.1) (objects_of ss key))
objects-step key own objects s ss ordered true e miss ih =
    let apart : same key own ≡ false = ap (λ (t : Term). same t own) (same-exact key s.0 e) ∙ (same-sym s.0 own ∙ miss) in
    ap (λ (b : Bool). cond b (Some objects) (Some s.1)) (sym apart)
objects-step key own objects s ss ordered false e miss ih = ih

entered-objects : (key own : Term) (objects : List Term) (front back : List Slot) → objects_of (front ++ back) own ≡ None
    → objects_of (front ++ (own, objects) ∷ back) key ≡ cond (same key own) (Some objects) (objects_of (front ++ back) key)
entered-objects key own objects [] back h = refl
entered-objects key own objects (s ∷ front) back h =
    let m = first-missed own s (front ++ back) (same own s.0) refl h in
    objects-step key own objects s (front ++ back) (front ++ (own, objects) ∷ back) (same key s.0) refl m.here (entered-objects key own objects front back m.later)

entered-sum : (f : Slot → ℕ) (old new : List Slot) (key : Term) (objects : List Term) → Enters old key objects new → sum_by f new ≡ f (key, objects) + sum_by f old
entered-sum f old new key objects a =
    omega (arith, ap (sum_by f) a.before, ap (sum_by f) a.after, sum_by-append f a.front a.back, sum_by-append f a.front ((key, objects) ∷ a.back), sum_by-cons f (key, objects) a.back)

-- The same slots.
pub record AreSame (ss ordered : List Slot) : Type 0 where
  pub sum : (f : Slot → ℕ) → sum_by f ordered ≡ sum_by f ss
  pub counted : (p : Slot → Bool) → count_by p ordered ≡ count_by p ss
  pub many : length ordered ≡ length ss
  pub distinct : HasDistinctKeys ss → HasDistinctKeys ordered
  pub objects : HasDistinctKeys ss → (key : Term) → objects_of ordered key ≡ objects_of ss key

same-nothing : AreSame [] []
same-nothing = record { sum = λ f. refl; counted = λ p. refl; many = refl; distinct = λ d. d; objects = λ d key. refl }

first-apart : (s : Slot) (ss : List Slot) → HasDistinctKeys (s ∷ ss) → (objects_of ss s.0 ≡ None) × HasDistinctKeys ss
unfolding IsDistinct
first-apart s ss d = (none-apart s.0 ss d.0, d.1)

same-entered : (ss old new : List Slot) (key : Term) (objects : List Term) → Enters old key objects new → AreSame ss old → AreSame ((key, objects) ∷ ss) new
same-entered ss old new key objects a h = record {
  sum = more;
  counted = λ p. more (λ z. cond (p z) 1 0);
  many = omega (arith, length-added old new key objects a, h.many);
  distinct = λ d. (let p = first-apart (key, objects) ss d in distinct-added old new key objects a (h.objects p.1 key ∙ p.0) (h.distinct p.1));
  objects = λ d other. (
      let p = first-apart (key, objects) ss d in
      let none : objects_of (a.front ++ a.back) key ≡ None = ap (λ (zs : List Slot). objects_of zs key) (sym a.before) ∙ (h.objects p.1 key ∙ p.0) in
      ap (λ (zs : List Slot). objects_of zs other) a.after
      ∙ (entered-objects other key objects a.front a.back none
      ∙ ap (λ (o : Option (List Term)). cond (same other key) (Some objects) o) (ap (λ (zs : List Slot). objects_of zs other) (sym a.before) ∙ h.objects p.1 other)));
}
  where
    more : (f : Slot → ℕ) → sum_by f new ≡ sum_by f ((key, objects) ∷ ss)
    more f = omega (arith, entered-sum f old new key objects a, h.sum f, sum_by-cons f (key, objects) ss)

pub same-slots-of : (cs : List Cell) → HasDistinctPlaces cs → AreSame (slots_of cs) (content_of cs)
same-slots-of [] a = same-nothing
same-slots-of (c ∷ cs) a = go c.item refl (same-slots-of cs a.1)
  where
    go : (o : Option Item) → c.item ≡ o → AreSame (slots_of cs) (content_of cs) → AreSame (with_slot o (slots_of cs)) (content_of (c ∷ cs))
    go None e h = (let P : List Slot → Type 0 = λ zs. AreSame (slots_of cs) zs in subst P (sym (first-dummy c cs a.0 e)) h)
    go (Some item) e h = same-entered (slots_of cs) (content_of cs) (content_of (c ∷ cs)) item.term item.chain (first-item c cs item a.0 e) h

-- ---- the slot of a key

none-holds : (key : Term) (at : ℕ) (cs : List Cell) → AllByRecursion (λ other. same key other ≡ false) (keys_of (slots_of cs)) → holds key (item_at at cs) ≡ false
none-holds key at [] a = refl
none-holds key at (c ∷ cs) a =
    elim (cases_eq c.at at) [
      | inl here ↦ ap (holds key) (item-here at c cs here) ∙ go c.item a
      | inr other ↦ ap (holds key) (item-on at c cs other) ∙ none-holds key at cs (all-behind (λ t. same key t ≡ false) c.item (slots_of cs) a)
    ]
  where
    go : (o : Option Item) → AllByRecursion (λ other. same key other ≡ false) (keys_of (with_slot o (slots_of cs))) → holds key o ≡ false
    go None a = refl
    go (Some item) a = same-sym item.term key ∙ a.0

seat-alone : (key : Term) (at : ℕ) (c : Cell) (cs : List Cell) (item : Item) (o : Option Item) → o ≡ Some item → item.term ≡ key → HasDistinctKeys (with_slot o (slots_of cs)) → holds key (item_at at cs) ≡ false
unfolding IsDistinct
seat-alone key at c cs item None e t d = absurd (cc)
seat-alone key at c cs item (Some own) e t d =
    let is : own ≡ item = cc in
    let k : own.term ≡ key = ap (λ (i : Item). i.term) is ∙ t in
    let P : Term → Type 0 = λ k. AllByRecursion (λ other. same k other ≡ false) (keys_of (slots_of cs)) in
    none-holds key at cs (subst P k d.0)

-- No other place has an item of its key.
pub alone : (key : Term) (own at : ℕ) (cs : List Cell) → HasDistinctKeys (slots_of cs) → Seat key own cs → at ≢ own → holds key (item_at at cs) ≡ false
alone key own at [] d s n = refl
alone key own at (c ∷ cs) d s n =
    elim (cases_eq c.at at) [
      | inl here ↦
          ap (holds key) (item-here at c cs here)
          ∙ misses key own c.item cs d (tail-seat key own c cs (λ e. n (sym here ∙ e)) s)
      | inr other ↦
          ap (holds key) (item-on at c cs other)
          ∙ elim (cases_eq c.at own) [
            | inl first ↦
                let is : c ≡ s.cell = cc (sym (from-here own c cs first) ∙ s.is) in
                seat-alone key at c cs s.item c.item (ap (λ (z : Cell). z.item) is ∙ s.has) s.same_term d
            | inr later ↦ alone key own at cs (distinct-behind c.item (slots_of cs) d) (tail-seat key own c cs later s) n
          ]
    ]

-- The slots in the order of their places, after the item that a search found is removed or gets another chain.
pub record IsOrdered (term : Term) (at : ℕ) (item : Item) (cs : List Cell) : Type 0 where
  pub within : at < above cs
  pub objects : lookup (same term) (content_of cs) ≡ Some item.chain
  pub behind : slots_behind (content_of cs) term ≡ Some (slots_from (λ p. item_at p cs) (suc at) (above cs - suc at))
  pub removed : content_of (changes.without at cs) ≡ remove_entry (same term) (content_of cs)
  pub replaced : (w : List Term) → content_of (cells_with at w cs) ≡ set_value (same term) (content_of cs) w

pub ordered : (term : Term) (at : ℕ) (cs : List Cell) → HasDistinctPlaces cs → HasDistinctKeys (slots_of cs) → (f : IsFound term at cs) → IsOrdered term at f.item cs
ordered term at cs a d f =
    let has : item_at at cs ≡ Some f.item = found-at term at cs f in
    let high : at < above cs = item-below at cs f.item has in
    let hit : same term f.item.term ≡ true = ap (same term) f.same_term ∙ same-refl term in
    let s : Seat term at cs = record { cell = f.cell; later = f.later; item = f.item; is = f.is; has = f.has; same_term = f.same_term } in
    let only : (p : ℕ) → p ≢ at → holds term (item_at p cs) ≡ false = λ p n. alone term at p cs d s n in
    let gone : List Cell = changes.without at cs in
    record {
      within = high;
      objects = (same-slots-of cs a).objects d term ∙ f.objects;
      behind = behind-at (λ p. item_at p cs) at f.item term has hit only 0 (above cs) (above cs - suc at) (omega arith) (omega arith);
      removed =
          sym (content-is gone (above cs + above gone) (omega arith))
          ∙ (removed-at (λ p. item_at p cs) at f.item term has hit only (λ p. item_at p gone) (without-own at cs a) (λ p n. sym (without-apart at p cs (λ e. n (sym e)))) 0 (above cs + above gone) (omega arith) (omega arith)
          ∙ ap (remove_entry (same term)) (content-is cs (above cs + above gone) (omega arith)));
      replaced = λ w. (
          let new : List Cell = cells_with at w cs in
          sym (content-is new (above cs + above new) (omega arith))
          ∙ (replaced-at (λ p. item_at p cs) at f.item term has hit only (λ p. item_at p new) w (with-own at w cs ∙ ap (λ (o : Option Item). item_with o w) has) (λ p n. sym (with-apart at p w cs (λ e. n (sym e)))) 0 (above cs + above new) (omega arith) (omega arith)
          ∙ ap (λ (ss : List Slot). set_value (same term) ss w) (content-is cs (above cs + above new) (omega arith))));
    }
