-- Slots at a place, among slots with distinct keys.
use Rattle.std.proofs.Common.{◌≡◌, ℕ, zero, suc, ◌<◌, Bool, true, false, cond, List, [], ◌∷◌, ◌++◌, Option, None, Some, is_some, refl, sym, ap, subst, ◌∙◌, length, drop, remove, slice_get, position, map, true≢false, append_assoc, arith}
use Rattle.std.proofs.lemmas.List.{append-nil}
use Rattle.std.proofs.lemmas.Map.Made.{lookup_key_passes}
use Rattle.std.specs.List.{IsDistinct, AllByRecursion}
use Rattle.std.specs.Map.{lookup_key, keys_of, values_of}
use Rattle.std.specs.Map.Calls.{RetainsPairs}
use Rattle.std.specs.Option.{option_map}
use Rattle.indexmap.specs.IndexMap.{set_value_at}
use Rattle.indexmap.proofs.MapLemmas.{Found-position}
use Rattle.ets_term.specs.declared.term.Term.{Term}
use Rattle.ets_term.specs.Order.{same}
use Rattle.ets_term.specs.laws.Same.{same-exact, same-refl}
use Rattle.bucket_table.specs.Slots.{Slot, objects_of, with_objects, slots_behind, Enters}
use Rattle.bucket_table.specs.Rows.{without, EnterAll, AreNew}

apart-turned : (x k : Term) → same x k ≡ false → same k x ≡ false
apart-turned x k h = by (same k x) refl
  where
    by : (b : Bool) → same k x ≡ b → same k x ≡ false
    by false e = e
    by true e = absurd (true≢false (sym (same-refl k) ∙ ap (λ t. same t k) (same-exact k x e) ∙ h))

there-apart : (slots : List Slot) (i : ℕ) (k : Term) (v : List Term) (x : Term) → AllByRecursion (λ y. same x y ≡ false) (keys_of slots) → slice_get slots i ≡ Some (k, v) → same x k ≡ false
there-apart [] i k v x a h = cc
there-apart (s ∷ ss) zero k v x a h = let is : s ≡ (k, v) = cc in subst (λ (p : Slot). same x p.0 ≡ false) is a.0
there-apart (s ∷ ss) (suc i) k v x a h = there-apart ss i k v x a.1 h

-- Calls by place have the effect of calls by key.
pub record IsAt (slots : List Slot) (i : ℕ) (k : Term) (v : List Term) : Type 0 where
  pub found : objects_of slots k ≡ Some v
  pub written : (w : List Term) → set_value_at slots i w ≡ with_objects slots k w
  pub removed : remove slots i ≡ without slots k
  pub behind : slots_behind slots k ≡ Some (drop (suc i) slots)

pub at-place : (slots : List Slot) (i : ℕ) (k : Term) (v : List Term) → IsDistinct same (keys_of slots) → slice_get slots i ≡ Some (k, v) → IsAt slots i k v
unfolding IsDistinct
at-place [] i k v d h = cc
at-place (s ∷ ss) zero k v d h =
    let is : s ≡ (k, v) = cc in
    let here = same-refl k in
    subst (λ (p : Slot). IsAt (p ∷ ss) 0 k v) (sym is) (record { found = rw here; written = λ w. rw here; removed = rw here; behind = rw here })
at-place (s ∷ ss) (suc i) k v d h =
    let apart = apart-turned s.0 k (there-apart ss i k v s.0 d.0 h) in
    let rest = at-place ss i k v d.1 h in
    record {
      found = rw apart rest.found;
      written = λ w. rw apart (ap (λ l. s ∷ l) (rest.written w));
      removed = rw apart (ap (λ l. s ∷ l) rest.removed);
      behind = rw apart rest.behind;
    }

keys-get : (slots : List Slot) (i : ℕ) → slice_get (keys_of slots) i ≡ option_map (λ s. s.0) (slice_get slots i)
keys-get [] zero = refl
keys-get [] (suc i) = refl
keys-get (s ∷ ss) zero = refl
keys-get (s ∷ ss) (suc i) = keys-get ss i

pub entry-within : (slots : List Slot) (i : ℕ) → i < length slots → (s : Slot) × (slice_get slots i ≡ Some s)
entry-within [] i h = absurd (omega (arith, h))
entry-within (s ∷ ss) zero h = (s, refl)
entry-within (s ∷ ss) (suc i) h = entry-within ss i (omega (arith, h))

-- A search ended at this place.
pub own-entry : (slots : List Slot) (k : Term) (i : ℕ) → position (same k) (keys_of slots) ≡ Some i → (v : List Term) × (slice_get slots i ≡ Some (k, v))
own-entry slots k i p =
    let f = Found-position (same k) slots i p in
    let s = entry-within slots i f.within in
    let key : lookup_key (same k) slots ≡ Some s.0.0 = f.key ∙ keys-get slots i ∙ ap (option_map (λ e. e.0)) s.1 in
    let is : k ≡ s.0.0 = same-exact k s.0.0 (lookup_key_passes (same k) slots s.0.0 key) in
    (s.0.1, s.1 ∙ (λ j. Some (sym is j, s.0.1)))

pub key-at : (slots : List Slot) (k : Term) (i : ℕ) → position (same k) (keys_of slots) ≡ Some i → option_map (λ s. s.0) (slice_get slots i) ≡ Some k
key-at slots k i p = ap (option_map (λ s. s.0)) (own-entry slots k i p).1

none-behind-at : (b : Bool) (k : Term) (s : Slot) (ss : List Slot) → (objects_of ss k ≡ None → slots_behind ss k ≡ None) → same k s.0 ≡ b → objects_of (s ∷ ss) k ≡ None → slots_behind (s ∷ ss) k ≡ None
none-behind-at true k s ss rest e n = let m : Some s.1 ≡ None = rw e at n in cc
none-behind-at false k s ss rest e n = rw e (rest (rw e at n))

pub none-behind : (slots : List Slot) (k : Term) → objects_of slots k ≡ None → slots_behind slots k ≡ None
none-behind [] k h = refl
none-behind (s ∷ ss) k h = none-behind-at (same k s.0) k s ss (none-behind ss k) refl h

pub first-of-drop : (slots : List Slot) (i : ℕ) → slice_get (drop i slots) 0 ≡ slice_get slots i
first-of-drop [] zero = refl
first-of-drop [] (suc i) = refl
first-of-drop (s ∷ ss) zero = refl
first-of-drop (s ∷ ss) (suc i) = first-of-drop ss i

-- The result of `retain` if the closure keeps every pair and empties its value.
module _ {K X F : Type 0} (T : F → K → X → Bool → X → F → Type 0) (w : X) (f : F)
    (says : (k : K) (v : X) (b : Bool) (u : X) (g : F) → T f k v b u g → (b ≡ true) × (u ≡ w) × (g ≡ f)) where
  pub map-RetainsPairs : (es kept : List (K × X)) → RetainsPairs T f es kept → kept ≡ map (λ e. (e.0, w)) es
  map-RetainsPairs [] kept h = h
  map-RetainsPairs (e ∷ es) kept h =
      let s = says e.0 e.1 h.0 h.1 h.2 h.4 in
      let rest = map-RetainsPairs es h.3 (subst (λ g. RetainsPairs T g es h.3) s.2 h.5) in
      h.6 ∙ (λ j. cond (s.0 j) ((e.0, s.1 j) ∷ rest j) (rest j))

set-none-at : (b : Bool) (k : Term) (s : Slot) (ss : List Slot) (w : List Term) → (objects_of ss k ≡ None → with_objects ss k w ≡ ss) → same k s.0 ≡ b → objects_of (s ∷ ss) k ≡ None → with_objects (s ∷ ss) k w ≡ s ∷ ss
set-none-at true k s ss w rest e n = let m : Some s.1 ≡ None = rw e at n in cc
set-none-at false k s ss w rest e n = rw e (ap (λ l. s ∷ l) (rest (rw e at n)))

set-none : (k : Term) (slots : List Slot) (w : List Term) → objects_of slots k ≡ None → with_objects slots k w ≡ slots
set-none k [] w h = refl
set-none k (s ∷ ss) w h = set-none-at (same k s.0) k s ss w (set-none k ss w) refl h

pub with_objects-none : (k : Term) (slots : List Slot) (w : List Term) → objects_of slots k ≡ None → slots ≡ with_objects slots k w
with_objects-none k slots w h = sym (set-none k slots w h)

-- A place with a key has an entry.
entry-of : (o : Option Slot) → is_some (option_map (λ s. s.0) o) ≡ true → (s : Slot) × (o ≡ Some s)
entry-of None h = absurd (true≢false (sym h))
entry-of (Some s) h = (s, refl)

pub place-entry : (slots : List Slot) (i : ℕ) → is_some (option_map (λ s. s.0) (slice_get slots i)) ≡ true → (s : Slot) × (slice_get slots i ≡ Some s)
place-entry slots i h = entry-of (slice_get slots i) h

pub values-get : (slots : List Slot) (i : ℕ) → slice_get (values_of slots) i ≡ option_map (λ s. s.1) (slice_get slots i)
values-get [] zero = refl
values-get [] (suc i) = refl
values-get (s ∷ ss) zero = refl
values-get (s ∷ ss) (suc i) = values-get ss i

-- A write at a place keeps its key.
pub key-kept : (slots : List Slot) (i : ℕ) (w : List Term) → option_map (λ s. s.0) (slice_get (set_value_at slots i w) i) ≡ option_map (λ s. s.0) (slice_get slots i)
key-kept [] zero w = refl
key-kept [] (suc i) w = refl
key-kept (s ∷ ss) zero w = refl
key-kept (s ∷ ss) (suc i) w = key-kept ss i w

-- New keys, one after another.
pub enters-last : (slots : List Slot) (row : Slot) → Enters slots row.0 row.1 (slots ++ row ∷ [])
enters-last slots row = record { front = slots; back = []; before = sym (append-nil slots); after = refl }

pub enter-all : (slots rows : List Slot) → EnterAll slots rows (slots ++ rows)
enter-all slots [] = append-nil slots
enter-all slots (row ∷ rows) = (slots ++ row ∷ [], enters-last slots row, subst (EnterAll (slots ++ row ∷ []) rows) (append_assoc slots (row ∷ []) rows) (enter-all (slots ++ row ∷ []) rows))

none-append-at : (b : Bool) (k : Term) (s : Slot) (ss more : List Slot) → (objects_of ss k ≡ None → objects_of (ss ++ more) k ≡ None) → same k s.0 ≡ b → objects_of (s ∷ ss) k ≡ None → objects_of ((s ∷ ss) ++ more) k ≡ None
none-append-at true k s ss more rest e n = let m : Some s.1 ≡ None = rw e at n in cc
none-append-at false k s ss more rest e n = rw e (rest (rw e at n))

none-append : (k : Term) (slots more : List Slot) → objects_of slots k ≡ None → objects_of more k ≡ None → objects_of (slots ++ more) k ≡ None
none-append k [] more h m = m
none-append k (s ∷ ss) more h m = none-append-at (same k s.0) k s ss more (λ n. none-append k ss more n m) refl h

new-at : (slots ys zs : List Slot) (row : Slot) → AreNew slots (ys ++ row ∷ zs) → objects_of slots row.0 ≡ None
new-at slots [] zs row h = h.0
new-at slots (y ∷ ys) zs row h = new-at slots ys zs row h.1

apart-from : (x : Term) (ys zs : List Slot) (row : Slot) → AllByRecursion (λ y. same x y ≡ false) (keys_of (ys ++ row ∷ zs)) → same x row.0 ≡ false
apart-from x [] zs row h = h.0
apart-from x (y ∷ ys) zs row h = apart-from x ys zs row h.1

before-at : (ys zs : List Slot) (row : Slot) → IsDistinct same (keys_of (ys ++ row ∷ zs)) → objects_of ys row.0 ≡ None
unfolding IsDistinct
before-at [] zs row d = refl
before-at (y ∷ ys) zs row d = let apart = apart-turned y.0 row.0 (apart-from y.0 ys zs row d.0) in rw apart (before-at ys zs row d.1)

-- The next row to insert has no slot yet.
pub still-new : (slots rows ys zs : List Slot) (row : Slot) → AreNew slots rows → IsDistinct same (keys_of rows) → ys ++ row ∷ zs ≡ rows → objects_of (slots ++ ys) row.0 ≡ None
still-new slots rows ys zs row new distinct is =
    let n : AreNew slots (ys ++ row ∷ zs) = subst (AreNew slots) (sym is) new in
    let d : IsDistinct same (keys_of (ys ++ row ∷ zs)) = subst (λ l. IsDistinct same (keys_of l)) (sym is) distinct in
    none-append row.0 slots ys (new-at slots ys zs row n) (before-at ys zs row d)

-- The map has no index for the key.
pub none-of : {X : Type 0} (o : Option X) → false ≡ is_some o → o ≡ None
none-of None h = refl
none-of (Some x) h = absurd (true≢false (sym h))
