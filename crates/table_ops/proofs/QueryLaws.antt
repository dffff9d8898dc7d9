-- Results and counts over objects as a scan goes on, and the scan over the slots.
use Rattle.std.proofs.Common.{◌≡◌, ℕ, zero, suc, ◌+◌, ◌<◌, ◌≤◌, ◌^◌, Bool, true, false, cond, List, [], ◌∷◌, ◌++◌, Option, None, Some, refl, sym, ap, subst, ◌∙◌, length, take, drop, slice_get, filter, append_assoc, length-append, arith}
use Rattle.std.proofs.lemmas.Option.{same_Some}
use Rattle.ets_term.specs.declared.term.Term.{Term}
use Rattle.ets_term.specs.Data.{Data}
use Rattle.bucket_table.specs.Slots.{Slot, objects_of, object_count}
use Rattle.bucket_table.specs.Rows.{HasDistinctKeys}
use Rattle.bucket_table.specs.Walks.{IsFirstPlace, IsNextPlace, behind_in}
use Rattle.bucket_table.proofs.slots.Index.{at-place}
use Rattle.node_list.specs.Ticks.{tick, ticks}
use Rattle.table_ops.specs.declared.kind.Kind.{Kind}
use Rattle.table_ops.specs.Results.{chosen_count}
use Rattle.std.specs.List.{cons_option}
use Rattle.std.specs.Prelude.{filter_map}
use Rattle.table_ops.specs.Read.{all_objects}
use Rattle.table_ops.specs.inside.Counted.{IsCounted}
use Rattle.table_ops.proofs.ReadLaws.{objects-push}
use Rattle.table_ops.proofs.InsertLaws.{take-one}

pub take-next : (xs : List Term) (i : ℕ) (x : Term) → slice_get xs i ≡ Some x → take (i + 1) xs ≡ take i xs ++ x ∷ []
take-next xs i x h = let next : i + 1 ≡ suc i = omega arith in ap (λ n. take n xs) next ∙ take-one xs i x h

module _ (give : Term → Option Data) where
  also-on : (o : Option Data) (ds es : List Data) → cons_option o (ds ++ es) ≡ cons_option o ds ++ es
  also-on None ds es = refl
  also-on (Some d) ds es = refl

  pub answers-append : (xs ys : List Term) → filter_map give (xs ++ ys) ≡ filter_map give xs ++ filter_map give ys
  answers-append [] ys = refl
  answers-append (x ∷ xs) ys = ap (cons_option (give x)) (answers-append xs ys) ∙ also-on (give x) (filter_map give xs) (filter_map give ys)

  -- one more object
  pub answers-next : (xs : List Term) (i : ℕ) (x : Term) → slice_get xs i ≡ Some x → filter_map give (take (i + 1) xs) ≡ filter_map give (take i xs) ++ cons_option (give x) []
  answers-next xs i x h = ap (filter_map give) (take-next xs i x h) ∙ answers-append (take i xs) (x ∷ [])

  -- one more slot
  pub answers-slot : (slots : List Slot) (i : ℕ) (s : Slot) → slice_get slots i ≡ Some s → filter_map give (all_objects (take (i + 1) slots)) ≡ filter_map give (all_objects (take i slots)) ++ filter_map give s.1
  answers-slot slots i s h = ap (filter_map give) (objects-push slots i s h) ∙ answers-append (all_objects (take i slots)) s.1

module _ (choose : Term → Bool) where
  pub more-at : (b : Bool) (x : Term) (l : List Term) → length (cond b (x ∷ l) l) ≡ length (cond b (x ∷ []) []) + length l
  more-at true x l = omega arith
  more-at false x l = omega arith

  pub chosen-append : (xs ys : List Term) → chosen_count choose (xs ++ ys) ≡ chosen_count choose xs + chosen_count choose ys
  chosen-append [] ys = omega arith
  chosen-append (x ∷ xs) ys = omega (arith, more-at (choose x) x (filter choose (xs ++ ys)), more-at (choose x) x (filter choose xs), chosen-append xs ys)

  pub chosen-next : (xs : List Term) (i : ℕ) (x : Term) → slice_get xs i ≡ Some x → chosen_count choose (take (i + 1) xs) ≡ chosen_count choose (take i xs) + chosen_count choose (x ∷ [])
  chosen-next xs i x h = ap (chosen_count choose) (take-next xs i x h) ∙ chosen-append (take i xs) (x ∷ [])

  pub chosen-slot : (slots : List Slot) (i : ℕ) (s : Slot) → slice_get slots i ≡ Some s → chosen_count choose (all_objects (take (i + 1) slots)) ≡ chosen_count choose (all_objects (take i slots)) + chosen_count choose s.1
  chosen-slot slots i s h = ap (chosen_count choose) (objects-push slots i s h) ∙ chosen-append (all_objects (take i slots)) s.1

  chosen-few-at : (b : Bool) (x : Term) → length (cond b (x ∷ []) []) ≤ 1
  chosen-few-at true x = omega arith
  chosen-few-at false x = omega arith

  pub chosen-few : (xs : List Term) → chosen_count choose xs ≤ length xs
  chosen-few [] = omega arith
  chosen-few (x ∷ xs) = omega (arith, more-at (choose x) x (filter choose xs), chosen-few-at (choose x) x, chosen-few xs)

  pub chosen-take : (i : ℕ) (xs : List Term) → chosen_count choose (take i xs) ≤ i
  chosen-take zero xs = omega arith
  chosen-take (suc i) [] = omega arith
  chosen-take (suc i) (x ∷ xs) = omega (arith, more-at (choose x) x (filter choose (take i xs)), chosen-few-at (choose x) x, chosen-take i xs)

-- the number of all objects is the count of objects
pub objects-count : (slots : List Slot) → length (all_objects slots) ≡ object_count slots
objects-count [] = refl
objects-count (s ∷ ss) = omega (arith, length-append s.1 (all_objects ss), objects-count ss)

-- fewer objects are chosen than 2 ^ 32
pub chosen-below : (choose : Term → Bool) (kind : Kind) (keypos limit count n : ℕ) (slots : List Slot) → IsCounted kind keypos limit count slots → n ≡ chosen_count choose (all_objects slots) → n < 2 ^ 32
chosen-below choose kind keypos limit count n slots i e = omega (arith, e, chosen-few choose (all_objects slots), objects-count slots, i.counted, i.within, i.few)

count-append : (xs ys : List Slot) → object_count (xs ++ ys) ≡ object_count xs + object_count ys
count-append [] ys = omega arith
count-append (x ∷ xs) ys = omega (arith, count-append xs ys)

pub slot-count : (slots : List Slot) (i : ℕ) (s : Slot) → slice_get slots i ≡ Some s → object_count (take (i + 1) slots) ≡ object_count (take i slots) + length s.1
slot-count slots i s h = omega (arith, objects-count (take (i + 1) slots), objects-count (take i slots), ap length (objects-push slots i s h), length-append (all_objects (take i slots)) s.1)

pub count-within : (slots : List Slot) (i : ℕ) → object_count (take i slots) ≤ object_count slots
count-within slots zero = omega arith
count-within [] (suc i) = omega arith
count-within (s ∷ ss) (suc i) = omega (arith, count-within ss i)

-- counts of tested objects
pub ticks-none : (n : ℕ) → n < 2 ^ 64 → n ≡ ticks 0 n
ticks-none n h = omega (arith, h)

pub ticks-one : (i n m : ℕ) → m ≡ ticks i n → tick m ≡ ticks (i + 1) n
ticks-one i n m h = omega (arith, h)

pub ticks-up : (i b n m : ℕ) → m ≡ ticks i n → i + 1 ≤ b → tick m ≤ ticks b n
ticks-up i b n m h few = omega (arith, h, few)

pub ticks-on : (a b n m : ℕ) → m ≡ ticks a n → ticks b m ≡ ticks (a + b) n
ticks-on a b n m h = omega (arith, h)

pub ticks-most : (a b c n m k : ℕ) → m ≡ ticks a n → k ≤ ticks b m → a + b ≤ c → k ≤ ticks c n
ticks-most a b c n m k h few le = omega (arith, h, few, le)

-- the place of a slot
pub record IsHere (key_at : ℕ → Option Term) (slots : List Slot) (i place : ℕ) (s : Slot) : Type 0 where
  pub at : slice_get slots i ≡ Some s
  pub key : key_at place ≡ Some s.0

drop-one : (slots : List Slot) (i : ℕ) (s : Slot) (rest : List Slot) → drop i slots ≡ s ∷ rest → slice_get slots i ≡ Some s
drop-one [] zero s rest h = cc
drop-one [] (suc i) s rest h = cc
drop-one (x ∷ xs) zero s rest h = let is : x ≡ s = cc in ap Some is
drop-one (x ∷ xs) (suc i) s rest h = drop-one xs i s rest h

drop-next : (slots : List Slot) (i : ℕ) (s : Slot) (rest : List Slot) → drop i slots ≡ s ∷ rest → drop (suc i) slots ≡ rest
drop-next [] zero s rest h = cc
drop-next [] (suc i) s rest h = cc
drop-next (x ∷ xs) zero s rest h = cc
drop-next (x ∷ xs) (suc i) s rest h = drop-next xs i s rest h

drop-none : (slots : List Slot) (i : ℕ) → drop i slots ≡ [] → length slots ≤ i
drop-none [] i h = omega arith
drop-none (x ∷ xs) zero h = cc
drop-none (x ∷ xs) (suc i) h = omega (arith, drop-none xs i h)

module _ (key_at : ℕ → Option Term) (slots : List Slot) (distinct : HasDistinctKeys slots) (i : ℕ) where
  pub is-here : (place : ℕ) → IsFirstPlace key_at (drop i slots) (Some place) → (s : Slot) × IsHere key_at slots i place s
  is-here place f = (f.slot, record { at = drop-one slots i f.slot f.rest f.is; key = f.key })

  pub none-here : IsFirstPlace key_at (drop i slots) None → i < length slots → ⊥
  none-here f few = let past = drop-none slots i f in omega (arith, past, few)

  next-at : (place : ℕ) (s : Slot) (own : Option Term) (next : Option ℕ) → slice_get slots i ≡ Some s → own ≡ Some s.0 → IsNextPlace key_at slots own next → IsFirstPlace key_at (drop (i + 1) slots) next
  next-at place s own next at key n =
      let behind : behind_in slots own ≡ Some (drop (suc i) slots) = ap (behind_in slots) key ∙ (at-place slots i s.0 s.1 distinct at).behind in
      let rest : n.rest ≡ drop (suc i) slots = same_Some _ _ (sym n.is ∙ behind) in
      let step : suc i ≡ i + 1 = omega arith in
      subst (λ (l : List Slot). IsFirstPlace key_at l next) (rest ∙ ap (λ m. drop m slots) step) n.first

  pub next-here : (place : ℕ) (s : Slot) (next : Option ℕ) → IsHere key_at slots i place s → IsNextPlace key_at slots (key_at place) next → IsFirstPlace key_at (drop (i + 1) slots) next
  next-here place s next h n = next-at place s (key_at place) next h.at h.key n

  pub objects-here : (place : ℕ) (s : Slot) (key : Term) (objects : List Term) → IsHere key_at slots i place s → key_at place ≡ Some key → objects_of slots key ≡ Some objects → objects ≡ s.1
  objects-here place s key objects h own found =
      let is : key ≡ s.0 = same_Some _ _ (sym own ∙ h.key) in
      same_Some _ _ (sym found ∙ ap (objects_of slots) is ∙ (at-place slots i s.0 s.1 distinct h.at).found)

  -- the next slot, and those after it
  pub passed-here : (place : ℕ) (key : Term) (objects : List Term) → IsFirstPlace key_at (drop i slots) (Some place) → key_at place ≡ Some key → objects_of slots key ≡ Some objects
      → drop i slots ≡ (key, objects) ∷ drop (i + 1) slots
  passed-here place key objects f own found =
      let here : IsHere key_at slots i place f.slot = record { at = drop-one slots i f.slot f.rest f.is; key = f.key } in
      let is : key ≡ f.slot.0 = same_Some _ _ (sym own ∙ f.key) in
      let all : objects ≡ f.slot.1 = objects-here place f.slot key objects here own found in
      let next : suc i ≡ i + 1 = omega arith in
      let rest : drop (i + 1) slots ≡ f.rest = ap (λ n. drop n slots) (sym next) ∙ drop-next slots i f.slot f.rest f.is in
      f.is ∙ ap (λ (k : Term). (k, f.slot.1) ∷ f.rest) (sym is) ∙ ap (λ (os : List Term). (key, os) ∷ f.rest) (sym all) ∙ ap (λ (l : List Slot). (key, objects) ∷ l) (sym rest)

-- a list that grows twice
pub joined : {X : Type 0} (old mid new d e f : List X) → mid ≡ old ++ d → new ≡ mid ++ e → f ≡ d ++ e → new ≡ old ++ f
joined old mid new d e f p q r = q ∙ ap (λ l. l ++ e) p ∙ append_assoc old d e ∙ ap (λ l. old ++ l) (sym r)

pub ruleset appended = (answers-append, chosen-append)
