-- The slots of a list of nodes: the result of a search, and the slots after a change of one item.
use Rattle.std.proofs.Common.{◌≡◌, ◌≢◌, ℕ, ◌⊎◌, inl, inr, List, [], ◌∷◌, Option, Some, None, Bool, true, false, cond, nat_eq, ◌&&◌, if◌then◌else◌, refl, sym, ◌∙◌, ap, subst, arith}
use Rattle.std.specs.Map.{lookup, remove_entry, set_value}
use Rattle.std.proofs.lemmas.Bool.{cases_eq, cases_Bool}
use Rattle.std.proofs.lemmas.Bool.Decides.{nat_tests}
use Rattle.ets_term.specs.declared.term.Term.{Term}
use Rattle.ets_term.specs.Order.{same}
use Rattle.ets_term.specs.laws.Same.{same-exact, same-refl}
use Rattle.split_key.specs.Keys.{key_of_item}
use Rattle.node_list.specs.declared.node.Item.{Item}
use Rattle.node_list.specs.Cells.{Cell}
use Rattle.node_list.specs.Places.{from, IsFresh, HasDistinctPlaces, HasItem, item_at, first_item}
use Rattle.node_list.specs.Search.{holds, is_it, place_of}
use Rattle.node_list.specs.Changes.{item_with}
use Rattle.node_list.specs.Changes.{cells_with}
use Rattle.node_list.proofs.CellLaws.{from-here, from-on, without-here, without-on, search-here}
use Rattle.bucket_table.specs.Slots.{Slot, slots_behind}
use Rattle.bucket_table.specs.inside.Nodes.{slots_of, with_slot}
use Rattle.bucket_table.specs.inside.Directory.{HasSplitKey, HaveSplitKeys}
use Rattle.bucket_table.specs.inside.Search.{IsFound}

pub item-cases : (o : Option Item) → (o ≡ None) ⊎ ((item : Item) × (o ≡ Some item))
item-cases None = inl refl
item-cases (Some item) = inr (item, refl)

pub same-sym : (t u : Term) → same t u ≡ same u t
same-sym t u =
    elim (cases_Bool (same t u)) [
      | inl hit ↦ hit ∙ (sym (same-refl t) ∙ ap (λ (z : Term). same z t) (same-exact t u hit))
      | inr miss ↦
          elim (cases_Bool (same u t)) [
            | inl hit ↦ let back : same t u ≡ true = sym (ap (λ (z : Term). same z u) (same-exact u t hit)) ∙ same-refl u in absurd (cc)
            | inr also ↦ miss ∙ sym also
          ]
    ]

-- A free place has no node.
pub fresh-apart : (place at : ℕ) (cs : List Cell) (d : Cell) (ds : List Cell) → IsFresh place cs → from at cs ≡ d ∷ ds → place ≢ at
fresh-apart place at [] d ds f e = absurd (cc)
fresh-apart place at (c ∷ cs) d ds f e =
    elim (cases_eq c.at at) [
      | inl here ↦ λ same. f.0 (here ∙ sym same)
      | inr other ↦ fresh-apart place at cs d ds f.1 (sym (from-on at c cs other) ∙ e)
    ]

-- ---- an item that a search passes, and one that it finds

pub lookup-skips : (term : Term) (o : Option Item) (ss : List Slot) → holds term o ≡ false → lookup (same term) (with_slot o ss) ≡ lookup (same term) ss
lookup-skips term None ss h = refl
lookup-skips term (Some item) ss h = ap (λ (b : Bool). cond b (Some item.chain) (lookup (same term) ss)) (same-sym term item.term ∙ h)

pub remove-skips : (term : Term) (o : Option Item) (ss : List Slot) → holds term o ≡ false → remove_entry (same term) (with_slot o ss) ≡ with_slot o (remove_entry (same term) ss)
remove-skips term None ss h = refl
remove-skips term (Some item) ss h = ap (λ (b : Bool). cond b ss ((item.term, item.chain) ∷ remove_entry (same term) ss)) (same-sym term item.term ∙ h)

pub set-skips : (term : Term) (o : Option Item) (ss : List Slot) (w : List Term) → holds term o ≡ false → set_value (same term) (with_slot o ss) w ≡ with_slot o (set_value (same term) ss w)
set-skips term None ss w h = refl
set-skips term (Some item) ss w h = ap (λ (b : Bool). cond b ((item.term, w) ∷ ss) ((item.term, item.chain) ∷ set_value (same term) ss w)) (same-sym term item.term ∙ h)

pub behind-skips : (term : Term) (o : Option Item) (ss : List Slot) → holds term o ≡ false → slots_behind (with_slot o ss) term ≡ slots_behind ss term
behind-skips term None ss h = refl
behind-skips term (Some item) ss h = ap (λ (b : Bool). cond b (Some ss) (slots_behind ss term)) (same-sym term item.term ∙ h)

absent-step : (key : Term) (s : Slot) (ss : List Slot) (b : Bool) → same key s.0 ≡ b → cond b (Some s.1) (lookup (same key) ss) ≡ None → (lookup (same key) ss ≡ None → slots_behind ss key ≡ None) → slots_behind (s ∷ ss) key ≡ None
absent-step key s ss true e g ih = absurd (cc)
absent-step key s ss false e g ih = ap (λ (b : Bool). cond b (Some ss) (slots_behind ss key)) e ∙ ih g

pub behind-absent : (key : Term) (ss : List Slot) → lookup (same key) ss ≡ None → slots_behind ss key ≡ None
behind-absent key [] h = refl
behind-absent key (s ∷ ss) h = absent-step key s ss (same key s.0) refl h (behind-absent key ss)

and-no : (a b : Bool) → b ≡ false → (a && b) ≡ false
and-no true b h = h
and-no false b h = refl

pub is_it-no : (key : ℕ) (term : Term) (c : Cell) → holds term c.item ≡ false → is_it key term c ≡ false
is_it-no key term c h = and-no (nat_eq c.split_key key) (holds term c.item) h

pub place_of-on : (key : ℕ) (term : Term) (c : Cell) (cs : List Cell) → is_it key term c ≡ false → place_of key term (c ∷ cs) ≡ place_of key term cs
place_of-on key term c cs h = ap (λ (b : Bool). if b then Some c.at else place_of key term cs) h

pub placed-key : (hash_of : Term → ℕ) (directory : List (Option ℕ)) (at key : ℕ) (o : Option Item) (item : Item) → o ≡ Some item → HasSplitKey hash_of directory at key o → key ≡ key_of_item (hash_of item.term)
placed-key hash_of directory at key o item e p = let P : Option Item → Type 0 = λ z. HasSplitKey hash_of directory at key z in subst P e p

-- The item of a key.
pub record Holds (term : Term) (o : Option Item) : Type 0 where
  pub item : Item
  pub is : o ≡ Some item
  pub same_term : item.term ≡ term

pub holds-item : (term : Term) (o : Option Item) → holds term o ≡ true → Holds term o
holds-item term None h = absurd (cc)
holds-item term (Some item) h = record { item = item; is = refl; same_term = same-exact item.term term h }

pub with-here : (at : ℕ) (w : List Term) (c : Cell) (cs : List Cell) → c.at ≡ at → cells_with at w (c ∷ cs) ≡ record c { item = item_with c.item w } ∷ cells_with at w cs
with-here at w c cs e = grind (arith, nat_tests)

pub with-on : (at : ℕ) (w : List Term) (c : Cell) (cs : List Cell) → c.at ≢ at → cells_with at w (c ∷ cs) ≡ c ∷ cells_with at w cs
with-on at w c cs e = grind (arith, nat_tests)

pub with-fresh : (at : ℕ) (w : List Term) (cs : List Cell) → IsFresh at cs → cells_with at w cs ≡ cs
with-fresh at w [] f = refl
with-fresh at w (c ∷ cs) f = with-on at w c cs f.0 ∙ ap (λ (zs : List Cell). c ∷ zs) (with-fresh at w cs f.1)

slots-item : (c : Cell) (cs : List Cell) (item : Item) → c.item ≡ Some item → slots_of (c ∷ cs) ≡ (item.term, item.chain) ∷ slots_of cs
slots-item c cs item e = ap (λ (o : Option Item). with_slot o (slots_of cs)) e

pub found-here : (term : Term) (at : ℕ) (c : Cell) (cs : List Cell) → IsFresh c.at cs → c.at ≡ at → Holds term c.item → IsFound term at (c ∷ cs)
found-here term at c cs f e h =
    let yes : same term h.item.term ≡ true = ap (same term) h.same_term ∙ same-refl term in
    let is : slots_of (c ∷ cs) ≡ (h.item.term, h.item.chain) ∷ slots_of cs = slots-item c cs h.item h.is in
    let P : ℕ → Type 0 = λ a. IsFresh a cs in
    record {
      cell = c;
      later = cs;
      item = h.item;
      is = from-here at c cs e;
      has = h.is;
      same_term = h.same_term;
      objects = ap (lookup (same term)) is ∙ ap (λ (b : Bool). cond b (Some h.item.chain) (lookup (same term) (slots_of cs))) yes;
      removed = ap slots_of (without-here at c cs e) ∙ sym (ap (remove_entry (same term)) is ∙ ap (λ (b : Bool). cond b (slots_of cs) ((h.item.term, h.item.chain) ∷ remove_entry (same term) (slots_of cs))) yes);
      replaced = λ w.
          ap slots_of (with-here at w c cs e)
          ∙ (ap (λ (zs : List Cell). with_slot (item_with c.item w) (slots_of zs)) (with-fresh at w cs (subst P e f))
          ∙ (ap (λ (o : Option Item). with_slot (item_with o w) (slots_of cs)) h.is
          ∙ sym (ap (λ (ss : List Slot). set_value (same term) ss w) is ∙ ap (λ (b : Bool). cond b ((h.item.term, w) ∷ slots_of cs) ((h.item.term, h.item.chain) ∷ set_value (same term) (slots_of cs) w)) yes)));
    }

pub found-on : (term : Term) (at : ℕ) (c : Cell) (cs : List Cell) → IsFresh c.at cs → holds term c.item ≡ false → IsFound term at cs → IsFound term at (c ∷ cs)
found-on term at c cs f miss h =
    let other : c.at ≢ at = fresh-apart c.at at cs h.cell h.later f h.is in
    record {
      cell = h.cell;
      later = h.later;
      item = h.item;
      is = from-on at c cs other ∙ h.is;
      has = h.has;
      same_term = h.same_term;
      objects = lookup-skips term c.item (slots_of cs) miss ∙ h.objects;
      removed = ap slots_of (without-on at c cs other) ∙ (ap (with_slot c.item) h.removed ∙ sym (remove-skips term c.item (slots_of cs) miss));
      replaced = λ w. ap slots_of (with-on at w c cs other) ∙ (ap (with_slot c.item) (h.replaced w) ∙ sym (set-skips term c.item (slots_of cs) w miss));
    }

some-is : (a b : ℕ) (o : Option ℕ) → o ≡ Some a → o ≡ Some b → a ≡ b
some-is a b o e f = cc

module _ (hash_of : Term → ℕ) (directory : List (Option ℕ)) (key : ℕ) (term : Term) (is : key ≡ key_of_item (hash_of term)) where
  its-key : (c : Cell) → HasSplitKey hash_of directory c.at c.split_key c.item → Holds term c.item → c.split_key ≡ key
  its-key c p h = placed-key hash_of directory c.at c.split_key c.item h.item h.is p ∙ (ap (λ (t : Term). key_of_item (hash_of t)) h.same_term ∙ sym is)

  -- A search that finds a place.
  pub found : (at : ℕ) (cs : List Cell) → HaveSplitKeys hash_of directory cs → HasDistinctPlaces cs → place_of key term cs ≡ Some at → IsFound term at cs
  found at [] p a e = absurd (cc)
  found at (c ∷ cs) p a e =
      elim (cases_Bool (holds term c.item)) [
        | inl hit ↦
            let h : Holds term c.item = holds-item term c.item hit in
            let here : place_of key term (c ∷ cs) ≡ Some c.at = (search-here key term c cs (its-key c p.0 h) hit).found in
            found-here term at c cs a.0 (some-is c.at at (place_of key term (c ∷ cs)) here e) h
        | inr miss ↦ found-on term at c cs a.0 miss (found at cs p.1 a.1 (sym (place_of-on key term c cs (is_it-no key term c miss)) ∙ e))
      ]

  -- A search that finds none.
  pub absent : (cs : List Cell) → HaveSplitKeys hash_of directory cs → place_of key term cs ≡ None → lookup (same term) (slots_of cs) ≡ None
  absent [] p e = refl
  absent (c ∷ cs) p e =
      elim (cases_Bool (holds term c.item)) [
        | inl hit ↦
            let h : Holds term c.item = holds-item term c.item hit in
            let here : place_of key term (c ∷ cs) ≡ Some c.at = (search-here key term c cs (its-key c p.0 h) hit).found in
            absurd (cc)
        | inr miss ↦ lookup-skips term c.item (slots_of cs) miss ∙ absent cs p.1 (sym (place_of-on key term c cs (is_it-no key term c miss)) ∙ e)
      ]

pub found-item : (term : Term) (at : ℕ) (cs : List Cell) → IsFound term at cs → HasItem at cs
found-item term at cs f = record { cell = f.cell; later = f.later; item = f.item; is = f.is; has = f.has }

pub found-at : (term : Term) (at : ℕ) (cs : List Cell) (f : IsFound term at cs) → item_at at cs ≡ Some f.item
found-at term at cs f = ap first_item f.is ∙ f.has
