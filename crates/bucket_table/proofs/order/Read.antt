-- Reads and changes at a place, for the slots in the order of their places.
use Rattle.std.proofs.Common.{◌≡◌, ℕ, zero, suc, ◌+◌, ◌-◌, ◌%◌, ◌<◌, ◌≤◌, inl, inr, List, [], ◌∷◌, length, Option, Some, None, IsSome, is_some, Bool, nat_eq, MatchOption, option_map, refl, sym, ◌∙◌, ap, subst, arith}
use Rattle.std.specs.Map.{lookup}
use Rattle.std.proofs.lemmas.Bool.{cases_eq}
use Rattle.ets_term.specs.declared.term.Term.{Term}
use Rattle.ets_term.specs.Order.{same}
use Rattle.node_list.specs.declared.node.Item.{Item}
use Rattle.node_list.specs.Cells.{Cell, new_cell, new_item}
use Rattle.node_list.specs.Places.{from, item_at, first_item, IsFresh, HasDistinctPlaces, HasItem, IsNextItem}
use Rattle.node_list.specs.Changes.{put_cell, cells_with}
use Rattle.bucket_table.specs.Slots.{Enters, objects_of}
use Rattle.bucket_table.specs.Rows.{HasDistinctKeys}
use Rattle.bucket_table.specs.Entries.{objects_in, with_objects_in}
use Rattle.bucket_table.specs.Visits.{HasLooked, hash_keys, bucket_keys}
use Rattle.bucket_table.specs.Walks.{IsFirstPlace, IsNextPlace, behind_in}
use Rattle.bucket_table.specs.SplitRowsState.{key_of_place}
use Rattle.bucket_table.specs.inside.Nodes.{slots_of, with_slot, places_of}
use Rattle.bucket_table.specs.inside.Search.{IsFound}
use Rattle.bucket_table.specs.inside.Order.{slots_from, above, content_of}
use Rattle.bucket_table.proofs.list.Places.{AtPlace, found-key, objects-read, seat-key}
use Rattle.bucket_table.proofs.order.Change.{no-slots}
use Rattle.bucket_table.proofs.list.Change.{item-below, content-item}
use Rattle.bucket_table.proofs.order.Permute.{AreSame, same-slots-of, ordered}

pub item-put : (at key : ℕ) (term : Term) (chain : List Term) (old new : List Cell) → IsFresh at old → new ≡ put_cell (new_cell at key (Some (new_item term chain))) old → Enters (content_of old) term chain (content_of new)
item-put at key term chain old new f e = let P : List Cell → Type 0 = λ zs. Enters (content_of old) term chain (content_of zs) in subst P (sym e) (content-item at key term chain old f)

module _ (cs : List Cell) (apart : HasDistinctPlaces cs) (distinct : HasDistinctKeys (slots_of cs)) where
  same' : AreSame (slots_of cs) (content_of cs)
  same' = same-slots-of cs apart

  pub keys-distinct : HasDistinctKeys (content_of cs)
  keys-distinct = same'.distinct distinct

  pub objects-same : (key : Term) → objects_of (content_of cs) key ≡ objects_of (slots_of cs) key
  objects-same key = same'.objects distinct key

  pub objects-there : (at : ℕ) → AtPlace at cs → (objects : List Term) → option_map (λ item. item.chain) (item_at at cs) ≡ Some objects → objects_in (content_of cs) (key_of_place (places_of cs) at) ≡ Some objects
  objects-there at p objects e =
      ap (objects_in (content_of cs)) p.is
      ∙ (objects-same p.key ∙ (sym (ap (objects_in (slots_of cs)) p.is) ∙ objects-read at cs p objects e))

  pub objects-put : (at : ℕ) → AtPlace at cs → (w : List Term) → content_of (cells_with at w cs) ≡ with_objects_in (content_of cs) (key_of_place (places_of cs) at) w
  objects-put at p w = (ordered p.key at cs apart distinct p.found).replaced w ∙ sym (ap (λ (o : Option Term). with_objects_in (content_of cs) o w) p.is)

  -- The result of a search, in terms of places.
  pub placed-there : (key : Term) (o : Option ℕ) → MatchOption o (lookup (same key) (slots_of cs) ≡ None) (λ at. IsFound key at cs)
      → MatchOption o (objects_of (content_of cs) key ≡ None) (λ at. (key_of_place (places_of cs) at ≡ Some key) × IsSome (objects_of (content_of cs) key))
  placed-there key None e = objects-same key ∙ e
  placed-there key (Some at) f = (found-key key at cs f, ap is_some (objects-same key ∙ f.objects))

  pub looked-there : (hash_of : Term → ℕ) (ready : List Bool) (key : Term) (old new : ℕ) → HasLooked hash_of (slots_of cs) ready key old new → HasLooked hash_of (content_of cs) ready key old new
  looked-there hash_of ready key old new l =
      let hashes : hash_keys hash_of (hash_of key) (content_of cs) ≡ hash_keys hash_of (hash_of key) (slots_of cs) = same'.counted (λ slot. nat_eq (hash_of slot.0) (hash_of key)) in
      let keys : bucket_keys hash_of (length ready) (hash_of key % length ready) (content_of cs) ≡ bucket_keys hash_of (length ready) (hash_of key % length ready) (slots_of cs) =
      same'.counted (λ slot. nat_eq (hash_of slot.0 % length ready) (hash_of key % length ready)) in
      record {
        nodes = l.nodes;
        ticked = l.ticked;
        present = λ i. l.present (ap is_some (sym (objects-same key)) ∙ i);
        absent = λ e. (let P : ℕ → Type 0 = λ n. n ≤ l.nodes in subst P (sym hashes) (l.absent (sym (objects-same key) ∙ e)));
        bound = λ r. (let P : ℕ → Type 0 = λ n. l.nodes ≤ n + 2 in subst P (sym keys) (l.bound r));
      }

-- ---- the next item in the order of the places

pub has-item : (at : ℕ) (cs : List Cell) (item : Item) → item_at at cs ≡ Some item → HasItem at cs
has-item at cs item e = go (from at cs) refl
  where
    go : (ds : List Cell) → from at cs ≡ ds → HasItem at cs
    go [] is = (let none : item_at at cs ≡ None = ap first_item is in absurd (cc))
    go (d ∷ ds) is = record { cell = d; later = ds; item = item; is = is; has = sym (ap first_item is) ∙ e }

lacks : (at : ℕ) (cs : List Cell) → (HasItem at cs → ⊥) → item_at at cs ≡ None
lacks at cs n = go (item_at at cs) refl
  where
    go : (o : Option Item) → item_at at cs ≡ o → item_at at cs ≡ None
    go None e = e
    go (Some item) e = absurd (n (has-item at cs item e))

skips : (f : ℕ → Option Item) (item : Item) (at more own rest : ℕ) → at ≤ own → at + more ≡ own + suc rest → ((p : ℕ) → at ≤ p → p < own → f p ≡ None) → f own ≡ Some item
    → slots_from f at more ≡ (item.term, item.chain) ∷ slots_from f (suc own) rest
skips f item at zero own rest low e none has = absurd (omega arith)
skips f item at (suc more) own rest low e none has =
    elim (cases_eq at own) [
      | inl here ↦
          let l : more ≡ rest = omega arith in
          ap (λ (o : Option Item). with_slot o (slots_from f (suc at) more)) (ap f here ∙ has)
          ∙ (ap (λ (n : ℕ). (item.term, item.chain) ∷ slots_from f (suc at) n) l ∙ ap (λ (n : ℕ). (item.term, item.chain) ∷ slots_from f (suc n) rest) here)
      | inr other ↦
          ap (λ (o : Option Item). with_slot o (slots_from f (suc at) more)) (none at (omega arith) (omega arith))
          ∙ skips f item (suc at) more own rest (omega arith) (omega arith) (λ p l m. none p (omega arith) m) has
    ]

pub first-there : (start more : ℕ) (cs : List Cell) (result : Option ℕ) → above cs ≤ start + more → IsNextItem start result cs → IsFirstPlace (key_of_place (places_of cs)) (slots_from (λ at. item_at at cs) start more) result
first-there start more cs None l h = no-slots (λ at. item_at at cs) start more (λ p k. lacks p cs (λ i. (let less : p < start = h p i in absurd (omega arith))))
first-there start more cs (Some own) l h =
    let has : item_at own cs ≡ Some h.has.item = ap first_item h.has.is ∙ h.has.has in
    let high : own < above cs = item-below own cs h.has.item has in
    let low : start ≤ own = h.from in
    record {
      slot = (h.has.item.term, h.has.item.chain);
      rest = slots_from (λ at. item_at at cs) (suc own) (start + more - suc own);
      is = skips (λ at. item_at at cs) h.has.item start more own (start + more - suc own) low (omega arith) (λ p k m. lacks p cs (λ i. (let most : own ≤ p = h.least p i k in absurd (omega arith)))) has;
      key = seat-key h.has.item.term own cs (record { cell = h.has.cell; later = h.has.later; item = h.has.item; is = h.has.is; has = h.has.has; same_term = refl });
    }

pub next-there : (at : ℕ) (cs : List Cell) (result : Option ℕ) → HasDistinctPlaces cs → HasDistinctKeys (slots_of cs) → AtPlace at cs → IsNextItem (at + 1) result cs
    → IsNextPlace (key_of_place (places_of cs)) (content_of cs) (key_of_place (places_of cs) at) result
next-there at cs result apart distinct p h =
    let o = ordered p.key at cs apart distinct p.found in
    let within : at < above cs = o.within in
    let after : at + 1 ≡ suc at = omega arith in
    let P : ℕ → Type 0 = λ n. IsNextItem n result cs in
    record {
      rest = slots_from (λ q. item_at q cs) (suc at) (above cs - suc at);
      is = ap (behind_in (content_of cs)) p.is ∙ o.behind;
      first = first-there (suc at) (above cs - suc at) cs result (omega arith) (subst P after h);
    }
