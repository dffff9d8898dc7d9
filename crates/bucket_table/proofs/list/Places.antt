-- The places of a list's items, and the slots at these places.
use Rattle.std.proofs.Common.{◌≡◌, ◌≢◌, ℕ, ◌+◌, ◌≤◌, lit≤, suc, length, option_map, inl, inr, List, [], ◌∷◌, Option, Some, None, IsSome, false, cond, nat_eq, refl, sym, ◌∙◌, ap, subst, arith}
use Rattle.std.specs.List.{IsDistinct, AllByRecursion}
use Rattle.std.specs.Map.{lookup, keys_of}
use Rattle.std.proofs.lemmas.Bool.{cases_eq}
use Rattle.std.proofs.lemmas.Bool.Decides.{nat_tests}
use Rattle.ets_term.specs.declared.term.Term.{Term}
use Rattle.ets_term.specs.Order.{same}
use Rattle.node_list.specs.declared.node.Item.{Item}
use Rattle.node_list.specs.Cells.{Cell}
use Rattle.node_list.specs.Places.{from, item_at, split_key_at, first_split_key, IsFresh, HasDistinctPlaces, IsPlaceOf}
use Rattle.node_list.specs.Search.{holds}
use Rattle.node_list.specs.Changes.{item_with}
use Rattle.node_list.specs.Changes.{cells_with}
use Rattle.node_list.proofs.CellLaws.{from-here, from-on}
use Rattle.bucket_table.specs.Slots.{Slot}
use Rattle.bucket_table.specs.Rows.{HasDistinctKeys}
use Rattle.bucket_table.specs.Entries.{objects_in}
use Rattle.bucket_table.specs.SplitRowsState.{key_of_place}
use Rattle.bucket_table.specs.inside.Nodes.{slots_of, with_slot, places_of, with_place}
use Rattle.split_key.specs.Keys.{key_of_item}
use Rattle.bucket_table.specs.inside.Directory.{HaveSplitKeys}
use Rattle.bucket_table.specs.inside.Search.{IsFound}
use Rattle.bucket_table.proofs.list.Passed.{placed-from}
use Rattle.bucket_table.proofs.list.Content.{placed-key, found-at, found-here, found-on, with-here, with-on}

-- The item of this key is at a place.
pub record Seat (key : Term) (at : ℕ) (cs : List Cell) : Type 0 where
  pub cell : Cell
  pub later : List Cell
  pub item : Item
  pub is : from at cs ≡ cell ∷ later
  pub has : cell.item ≡ Some item
  pub same_term : item.term ≡ key

pub passes-by : (at own : ℕ) (o : Option Item) (ps : List (ℕ × Term)) → own ≢ at → lookup (nat_eq at) (with_place own o ps) ≡ lookup (nat_eq at) ps
passes-by at own None ps n = refl
passes-by at own (Some item) ps n = grind (arith, nat_tests)

finds : (at own : ℕ) (o : Option Item) (item : Item) (ps : List (ℕ × Term)) → own ≡ at → o ≡ Some item → lookup (nat_eq at) (with_place own o ps) ≡ Some item.term
finds at own o item ps e h = ap (λ (z : Option Item). lookup (nat_eq at) (with_place own z ps)) h ∙ here at own item.term ps e
  where
    here : (at own : ℕ) (term : Term) (ps : List (ℕ × Term)) → own ≡ at → cond (nat_eq at own) (Some term) (lookup (nat_eq at) ps) ≡ Some term
    here at own term ps e = grind (arith, nat_tests)

pub seat-key : (key : Term) (at : ℕ) (cs : List Cell) → Seat key at cs → key_of_place (places_of cs) at ≡ Some key
seat-key key at [] s = absurd (let e : [] ≡ s.cell ∷ s.later = s.is in cc)
seat-key key at (c ∷ cs) s =
    elim (cases_eq c.at at) [
      | inl here ↦
          let same' : c ≡ s.cell = cc (sym (from-here at c cs here) ∙ s.is) in
          finds at c.at c.item s.item (places_of cs) here (ap (λ (z : Cell). z.item) same' ∙ s.has) ∙ ap Some s.same_term
      | inr other ↦
          passes-by at c.at c.item (places_of cs) other
          ∙ seat-key key at cs (record { cell = s.cell; later = s.later; item = s.item; is = sym (from-on at c cs other) ∙ s.is; has = s.has; same_term = s.same_term })
    ]

none-fresh : (at : ℕ) (cs : List Cell) → IsFresh at cs → key_of_place (places_of cs) at ≡ None
none-fresh at [] f = refl
none-fresh at (c ∷ cs) f = passes-by at c.at c.item (places_of cs) f.0 ∙ none-fresh at cs f.1

some-term : (a b : Term) (o : Option Term) → o ≡ Some a → o ≡ Some b → a ≡ b
some-term a b o e f = cc

seat-here : (key : Term) (at : ℕ) (c : Cell) (cs : List Cell) (o : Option Item) → c.item ≡ o → IsFresh c.at cs → c.at ≡ at → lookup (nat_eq at) (with_place c.at o (places_of cs)) ≡ Some key → Seat key at (c ∷ cs)
seat-here key at c cs None i f e h =
    let F : ℕ → Type 0 = λ z. IsFresh z cs in
    let none : key_of_place (places_of cs) at ≡ None = none-fresh at cs (subst F e f) in
    absurd (cc)
seat-here key at c cs (Some item) i f e h = record {
  cell = c;
  later = cs;
  item = item;
  is = from-here at c cs e;
  has = i;
  same_term = some-term item.term key (lookup (nat_eq at) (with_place c.at (Some item) (places_of cs))) (finds at c.at (Some item) item (places_of cs) e refl) h;
}

pub key-seat : (key : Term) (at : ℕ) (cs : List Cell) → HasDistinctPlaces cs → key_of_place (places_of cs) at ≡ Some key → Seat key at cs
key-seat key at [] a h = absurd (cc)
key-seat key at (c ∷ cs) a h =
    elim (cases_eq c.at at) [
      | inl here ↦ seat-here key at c cs c.item refl a.0 here h
      | inr other ↦
          let s = key-seat key at cs a.1 (sym (passes-by at c.at c.item (places_of cs) other) ∙ h) in
          record { cell = s.cell; later = s.later; item = s.item; is = from-on at c cs other ∙ s.is; has = s.has; same_term = s.same_term }
    ]

-- ---- with distinct keys it is what a search finds

pub tail-seat : (key : Term) (at : ℕ) (c : Cell) (cs : List Cell) → c.at ≢ at → Seat key at (c ∷ cs) → Seat key at cs
tail-seat key at c cs other s = record { cell = s.cell; later = s.later; item = s.item; is = sym (from-on at c cs other) ∙ s.is; has = s.has; same_term = s.same_term }

pub all-behind : (P : Term → Type 0) (o : Option Item) (ss : List Slot) → AllByRecursion P (keys_of (with_slot o ss)) → AllByRecursion P (keys_of ss)
all-behind P None ss a = a
all-behind P (Some item) ss a = a.1

all-here : (P : Term → Type 0) (o : Option Item) (item : Item) (ss : List Slot) → o ≡ Some item → AllByRecursion P (keys_of (with_slot o ss)) → P item.term
all-here P o item ss e a = let Q : Option Item → Type 0 = λ z. AllByRecursion P (keys_of (with_slot z ss)) in (subst Q e a).0

all-seat : (P : Term → Type 0) (key : Term) (at : ℕ) (cs : List Cell) → AllByRecursion P (keys_of (slots_of cs)) → Seat key at cs → P key
all-seat P key at [] a s = absurd (let e : [] ≡ s.cell ∷ s.later = s.is in cc)
all-seat P key at (c ∷ cs) a s =
    elim (cases_eq c.at at) [
      | inl here ↦
          let same' : c ≡ s.cell = cc (sym (from-here at c cs here) ∙ s.is) in
          subst P s.same_term (all-here P c.item s.item (slots_of cs) (ap (λ (z : Cell). z.item) same' ∙ s.has) a)
      | inr other ↦ all-seat P key at cs (all-behind P c.item (slots_of cs) a) (tail-seat key at c cs other s)
    ]

pub misses : (key : Term) (at : ℕ) (o : Option Item) (cs : List Cell) → HasDistinctKeys (with_slot o (slots_of cs)) → Seat key at cs → holds key o ≡ false
unfolding IsDistinct
misses key at None cs d s = refl
misses key at (Some item) cs d s = all-seat (λ t. same item.term t ≡ false) key at cs d.0 s

pub distinct-behind : (o : Option Item) (ss : List Slot) → HasDistinctKeys (with_slot o ss) → HasDistinctKeys ss
unfolding IsDistinct
distinct-behind None ss d = d
distinct-behind (Some item) ss d = d.1

pub seat-found : (key : Term) (at : ℕ) (cs : List Cell) → HasDistinctPlaces cs → HasDistinctKeys (slots_of cs) → Seat key at cs → IsFound key at cs
seat-found key at [] a d s = absurd (let e : [] ≡ s.cell ∷ s.later = s.is in cc)
seat-found key at (c ∷ cs) a d s =
    elim (cases_eq c.at at) [
      | inl here ↦
          let same' : c ≡ s.cell = cc (sym (from-here at c cs here) ∙ s.is) in
          found-here key at c cs a.0 here (record { item = s.item; is = ap (λ (z : Cell). z.item) same' ∙ s.has; same_term = s.same_term })
      | inr other ↦
          let t = tail-seat key at c cs other s in
          found-on key at c cs a.0 (misses key at c.item cs d t) (seat-found key at cs a.1 (distinct-behind c.item (slots_of cs) d) t)
    ]

-- ---- a place that a caller has

pub record AtPlace (at : ℕ) (cs : List Cell) : Type 0 where
  pub key : Term
  pub is : key_of_place (places_of cs) at ≡ Some key
  pub found : IsFound key at cs

pub at-place : (at : ℕ) (cs : List Cell) → HasDistinctPlaces cs → HasDistinctKeys (slots_of cs) → IsSome (key_of_place (places_of cs) at) → AtPlace at cs
at-place at cs a d i = go (key_of_place (places_of cs) at) refl i
  where
    go : (o : Option Term) → key_of_place (places_of cs) at ≡ o → IsSome o → AtPlace at cs
    go None e i = absurd (cc)
    go (Some key) e i = record { key = key; is = e; found = seat-found key at cs a d (key-seat key at cs a e) }

pub found-key : (key : Term) (at : ℕ) (cs : List Cell) → IsFound key at cs → key_of_place (places_of cs) at ≡ Some key
found-key key at cs f = seat-key key at cs (record { cell = f.cell; later = f.later; item = f.item; is = f.is; has = f.has; same_term = f.same_term })

place-with : (at : ℕ) (o : Option Item) (w : List Term) (ps : List (ℕ × Term)) → with_place at (item_with o w) ps ≡ with_place at o ps
place-with at None w ps = refl
place-with at (Some item) w ps = refl

pub places-with : (at : ℕ) (w : List Term) (cs : List Cell) → places_of (cells_with at w cs) ≡ places_of cs
places-with at w [] = refl
places-with at w (c ∷ cs) =
    elim (cases_eq c.at at) [
      | inl here ↦ ap places_of (with-here at w c cs here) ∙ (place-with c.at c.item w (places_of (cells_with at w cs)) ∙ ap (with_place c.at c.item) (places-with at w cs))
      | inr other ↦ ap places_of (with-on at w c cs other) ∙ ap (with_place c.at c.item) (places-with at w cs)
    ]

-- ---- what is read and changed there

pub at-is_place : (at : ℕ) (cs : List Cell) → AtPlace at cs → IsPlaceOf at cs
at-is_place at cs p = record { cell = p.found.cell; later = p.found.later; is = p.found.is }

pub no-item : (at : ℕ) (cs : List Cell) → AtPlace at cs → item_at at cs ≡ None → ⊥
no-item at cs p e = let h : item_at at cs ≡ Some p.found.item = found-at p.key at cs p.found in absurd (cc)

some-item : (a b : Item) (o : Option Item) → o ≡ Some a → o ≡ Some b → a ≡ b
some-item a b o e f = cc

pub read-item : (at : ℕ) (cs : List Cell) (p : AtPlace at cs) (item : Item) → item_at at cs ≡ Some item → p.found.item ≡ item
read-item at cs p item e = some-item p.found.item item (item_at at cs) (found-at p.key at cs p.found) e

pub objects-read : (at : ℕ) (cs : List Cell) → AtPlace at cs → (objects : List Term) → option_map (λ item. item.chain) (item_at at cs) ≡ Some objects → objects_in (slots_of cs) (key_of_place (places_of cs) at) ≡ Some objects
objects-read at cs p objects e =
    ap (objects_in (slots_of cs)) p.is
    ∙ (p.found.objects ∙ (ap (option_map (λ (item : Item). item.chain)) (sym (found-at p.key at cs p.found)) ∙ e))

pub length-with : (at : ℕ) (w : List Term) (cs : List Cell) → length (cells_with at w cs) ≡ length cs
length-with at w [] = refl
length-with at w (c ∷ cs) = ap suc (length-with at w cs)

few-more : (o : Option Item) (ss : List Slot) (n : ℕ) → length ss ≤ n → length (with_slot o ss) ≤ n + 1
few-more None ss n h = omega arith
few-more (Some item) ss n h = omega arith

pub few-slots : (cs : List Cell) → length (slots_of cs) ≤ length cs
few-slots [] = lit≤ tt
few-slots (c ∷ cs) = let l = few-more c.item (slots_of cs) (length cs) (few-slots cs) in omega (arith, l)

-- An item has the split key of its hash.
pub hash-key : (hash_of : Term → ℕ) (directory : List (Option ℕ)) (term : Term) (at : ℕ) (cells : List Cell) → HaveSplitKeys hash_of directory cells → (f : IsFound term at cells) (k : ℕ) → split_key_at at cells ≡ Some k → k ≡ key_of_item (hash_of term)
hash-key hash_of directory term at cells placed f k e =
    let P : List Cell → Type 0 = λ zs. HaveSplitKeys hash_of directory zs in
    let q : HaveSplitKeys hash_of directory (f.cell ∷ f.later) = subst P f.is (placed-from hash_of directory at cells placed) in
    some-key k f.cell.split_key (split_key_at at cells) e (ap first_split_key f.is) ∙ (placed-key hash_of directory f.cell.at f.cell.split_key f.cell.item f.item f.has q.0 ∙ ap (λ (t : Term). key_of_item (hash_of t)) f.same_term)
  where
    some-key : (a b : ℕ) (o : Option ℕ) → o ≡ Some a → o ≡ Some b → a ≡ b
    some-key a b o x y = cc
