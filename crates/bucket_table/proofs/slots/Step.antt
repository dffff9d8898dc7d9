-- A step from place to place, in both forms of rows.
use Rattle.std.proofs.Common.{◌≡◌, ◌≢◌, ℕ, zero, suc, ◌+◌, ◌<◌, ◌≤◌, true, false, cond, nat_eq, List, [], ◌∷◌, Option, None, Some, IsSome, is_some, refl, sym, ap, ◌∙◌, length, drop, remove, slice_get, option_map, true≢false, inl, inr, arith}
use Rattle.std.specs.List.{IsDistinct, AllByRecursion}
use Rattle.std.specs.Map.{keys_of}
use Rattle.std.proofs.lemmas.Bool.{cases_eq}
use Rattle.indexmap.specs.IndexMap.{set_value_at}
use Rattle.ets_term.specs.declared.term.Term.{Term}
use Rattle.ets_term.specs.Order.{same}
use Rattle.node_list.specs.declared.node.Item.{Item}
use Rattle.node_list.specs.Cells.{Cell}
use Rattle.node_list.specs.Changes as changes
use Rattle.node_list.proofs.CellLaws.{without-here, without-on}
use Rattle.bucket_table.specs.Slots.{Slot, objects_of, slots_behind}
use Rattle.bucket_table.specs.Walks.{IsFirstAt, IsNextPlace, ComesBefore, behind_in}
use Rattle.bucket_table.specs.SplitRowsState.{key_of_place}
use Rattle.bucket_table.specs.inside.Nodes.{places_of, with_place}
use Rattle.bucket_table.proofs.slots.Index as plain
use Rattle.bucket_table.proofs.list.Places.{passes-by}
use Rattle.bucket_table.proofs.slots.Traverse.{none-apart}

-- ---- by index

-- The key at an index.
abbrev pub key_in : List Slot → ℕ → Option Term
key_in slots place = option_map (λ slot. slot.0) (slice_get slots place)

pub keys-kept : (slots : List Slot) (i place : ℕ) (w : List Term) → key_in (set_value_at slots i w) place ≡ key_in slots place
keys-kept [] i place w = refl
keys-kept (s ∷ ss) zero zero w = refl
keys-kept (s ∷ ss) zero (suc place) w = refl
keys-kept (s ∷ ss) (suc i) zero w = refl
keys-kept (s ∷ ss) (suc i) (suc place) w = keys-kept ss i place w

pub first-index : (slots : List Slot) → 0 < length slots → IsFirstAt (key_in slots) slots 0
first-index [] h = absurd (omega (arith, h))
first-index (s ∷ ss) h = record { slot = s; rest = ss; is = refl; key = refl }

drop-some : (slots : List Slot) (i : ℕ) (s : Slot) → slice_get slots i ≡ Some s → drop i slots ≡ s ∷ drop (suc i) slots
drop-some [] i s h = absurd (cc)
drop-some (x ∷ ss) zero s h = let is : x ≡ s = cc in ap (λ (y : Slot). y ∷ ss) is
drop-some (x ∷ ss) (suc i) s h = drop-some ss i s h

drop-past : (slots : List Slot) (i : ℕ) → length slots ≤ i → drop i slots ≡ []
drop-past [] zero h = refl
drop-past [] (suc i) h = refl
drop-past (x ∷ ss) zero h = absurd (omega (arith, h))
drop-past (x ∷ ss) (suc i) h = drop-past ss i (omega (arith, h))

within-of : (slots : List Slot) (i : ℕ) (s : Slot) → slice_get slots i ≡ Some s → i < length slots
within-of [] i s h = absurd (cc)
within-of (x ∷ ss) zero s h = omega arith
within-of (x ∷ ss) (suc i) s h = omega (arith, within-of ss i s h)

pub index-within : (slots : List Slot) (i : ℕ) → is_some (key_in slots i) ≡ true → i < length slots
index-within slots i h = let s = plain.place-entry slots i h in within-of slots i s.0 s.1

behind-index : (slots : List Slot) (i : ℕ) → IsDistinct same (keys_of slots) → is_some (key_in slots i) ≡ true → behind_in slots (key_in slots i) ≡ Some (drop (suc i) slots)
behind-index slots i d h =
    let s = plain.place-entry slots i h in
    ap (behind_in slots) (ap (option_map (λ e. e.0)) s.1) ∙ (plain.at-place slots i s.0.0 s.0.1 d s.1).behind

pub next-index : (slots : List Slot) (i : ℕ) → IsDistinct same (keys_of slots) → is_some (key_in slots i) ≡ true → i + 1 < length slots → IsNextPlace (key_in slots) slots (key_in slots i) (Some (i + 1))
next-index slots i d h less =
    let s = plain.entry-within slots (suc i) (omega (arith, less)) in
    let next : suc i ≡ i + 1 = omega arith in
    record {
      rest = drop (suc i) slots;
      is = behind-index slots i d h;
      first = record {
        slot = s.0;
        rest = drop (suc (suc i)) slots;
        is = drop-some slots (suc i) s.0 s.1;
        key = ap (key_in slots) (sym next) ∙ ap (option_map (λ e. e.0)) s.1;
      };
    }

pub last-index : (slots : List Slot) (i : ℕ) → IsDistinct same (keys_of slots) → is_some (key_in slots i) ≡ true → length slots ≤ i + 1 → IsNextPlace (key_in slots) slots (key_in slots i) None
last-index slots i d h most = record { rest = drop (suc i) slots; is = behind-index slots i d h; first = drop-past slots (suc i) (omega (arith, most)) }

none-drop : (key : Term) (slots : List Slot) (i : ℕ) → AllByRecursion (λ other. same key other ≡ false) (keys_of slots) → objects_of (drop i slots) key ≡ None
none-drop key [] zero a = refl
none-drop key [] (suc i) a = refl
none-drop key (x ∷ ss) zero a = none-apart key (x ∷ ss) a
none-drop key (x ∷ ss) (suc i) a = none-drop key ss i a.1

-- The slots after an index have greater ones.
later-index : (slots : List Slot) (i j : ℕ) (s : Slot) → IsDistinct same (keys_of slots) → slice_get slots j ≡ Some s → IsSome (objects_of (drop (suc i) slots) s.0) → i < j
unfolding IsDistinct
later-index [] i j s d h o = absurd (cc)
later-index (x ∷ ss) i zero s d h o =
    let is : x ≡ s = cc in
    let none : objects_of (drop i ss) s.0 ≡ None = ap (λ (y : Slot). objects_of (drop i ss) y.0) (sym is) ∙ none-drop x.0 ss i d.0 in
    absurd (true≢false (sym o ∙ ap is_some none))
later-index (x ∷ ss) zero (suc j) s d h o = omega arith
later-index (x ∷ ss) (suc i) (suc j) s d h o = omega (arith, later-index ss i j s d.1 h o)

removed-before : (slots : List Slot) (i j : ℕ) → i < j → slice_get (remove slots j) i ≡ slice_get slots i
removed-before [] i zero less = refl
removed-before [] i (suc j) less = refl
removed-before (x ∷ ss) i zero less = absurd (omega (arith, less))
removed-before (x ∷ ss) zero (suc j) less = refl
removed-before (x ∷ ss) (suc i) (suc j) less = removed-before ss i j (omega (arith, less))

key-some : (o : Option Slot) (key : Term) → option_map (λ s. s.0) o ≡ Some key → (v : List Term) × (o ≡ Some (key, v))
key-some None key h = absurd (cc)
key-some (Some s) key h = let is : s.0 ≡ key = cc in (s.1, λ j. Some (is j, s.1))

-- The slots before a removed slot keep their indices.
pub index-stays : (slots : List Slot) (i j : ℕ) (key : Term) (s : Slot) → IsDistinct same (keys_of slots) → slice_get slots j ≡ Some s → key_in slots i ≡ Some key → ComesBefore slots key s.0 → key_in (remove slots j) i ≡ Some key
index-stays slots i j key s d h e b =
    let own = key-some (slice_get slots i) key e in
    let behind : slots_behind slots key ≡ Some (drop (suc i) slots) = (plain.at-place slots i key own.0 d own.1).behind in
    let rest : b.rest ≡ drop (suc i) slots = some-rest b.rest (drop (suc i) slots) (slots_behind slots key) b.is behind in
    let less : i < j = later-index slots i j s d h (ap (λ (l : List Slot). is_some (objects_of l s.0)) (sym rest) ∙ b.has) in
    ap (option_map (λ s. s.0)) (removed-before slots i j less) ∙ e
  where
    some-rest : (a b : List Slot) (o : Option (List Slot)) → o ≡ Some a → o ≡ Some b → a ≡ b
    some-rest a b o e f = cc

-- ---- in a list of nodes

-- After a removal the other items keep their places.
pub place-stays : (at other : ℕ) (cs : List Cell) → at ≢ other → key_of_place (places_of (changes.without at cs)) other ≡ key_of_place (places_of cs) other
place-stays at other [] n = refl
place-stays at other (c ∷ cs) n =
    elim (cases_eq c.at at) [
      | inl here ↦
          ap (λ (zs : List Cell). key_of_place (places_of zs) other) (without-here at c cs here)
          ∙ sym (passes-by other c.at c.item (places_of cs) (λ same'. n (sym here ∙ same')))
      | inr there ↦
          ap (λ (zs : List Cell). key_of_place (places_of zs) other) (without-on at c cs there)
          ∙ place-on other c.at c.item (places_of (changes.without at cs)) (places_of cs) (place-stays at other cs n)
    ]
  where
    place-on : (other at : ℕ) (o : Option Item) (ps qs : List (ℕ × Term)) → key_of_place ps other ≡ key_of_place qs other → key_of_place (with_place at o ps) other ≡ key_of_place (with_place at o qs) other
    place-on other at None ps qs e = e
    place-on other at (Some item) ps qs e = ap (λ (o : Option Term). cond (nat_eq other at) (Some item.term) o) e

-- ---- reading the slot at a place

some-is : (a b : Term) (o : Option Term) → o ≡ Some a → o ≡ Some b → a ≡ b
some-is a b o e f = cc

some-objects : (a b : List Term) (o : Option (List Term)) → o ≡ Some a → o ≡ Some b → a ≡ b
some-objects a b o e f = cc

pub read-one : (slots : List Slot) (s : Slot) (key : Term) (objects : List Term) (o : Option Term) → o ≡ Some s.0 → o ≡ Some key → objects_of slots key ≡ Some objects → objects_of slots s.0 ≡ Some s.1 → (key, objects) ≡ s
read-one slots s key objects o e f h own =
    let k : s.0 ≡ key = some-is s.0 key o e f in
    let v : s.1 ≡ objects = some-objects s.1 objects (objects_of slots s.0) own (ap (objects_of slots) k ∙ h) in
    λ j. (sym k j, sym v j)
