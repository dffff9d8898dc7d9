-- A deletion from the content is one call on the rows.
use Rattle.std.proofs.Common.{◌≡◌, ℕ, suc, ◌+◌, ◌-◌, ◌≤◌, ◌==◌, Bool, true, false, not, ◌||◌, cond, List, [], ◌∷◌, Option, None, Some, Ok, filter, refl, sym, ap, subst, ◌∙◌, length, true≢false, arith}
use Rattle.std.specs.Prelude.{MatchOption}
use Rattle.std.proofs.lemmas.Bool.Decides.{nat_tests}
use Rattle.std.specs.List.{AllByRecursion, IsDistinct}
use Rattle.std.specs.Map.{keys_of}
use Rattle.ets_term.specs.declared.term.Term.{Term}
use Rattle.ets_term.specs.Order.{same}
use Rattle.ets_term.specs.laws.Same.{same-exact, same-refl}
use Rattle.bucket_table.specs.Slots.{Slot, objects_of, with_objects, has_objects, without_tombstones, object_count}
use Rattle.bucket_table.specs.Rows.{HasDistinctKeys, without, without_objects}
use Rattle.table_ops.specs.declared.kind.Kind.{Kind}
use Rattle.table_ops.specs.declared.kind.Kind.TheVariants.{Set, Bag, DuplicateBag}
use Rattle.table_ops.specs.Content.{Content, key_of}
use Rattle.table_ops.specs.Invariants.{IsObjectOfKey, FitsKind, IsSlot, AreSlots}
use Rattle.table_ops.specs.Drop.{Which, objects_left, after_drop, has_key, equal_to, every_object, DeletesObject}
use Rattle.node_list.specs.Chains.{all_but}
use Rattle.bucket_table.specs.Entries.{objects_in}
use Rattle.table_ops.specs.inside.Counted.{IsCounted}
use Rattle.table_ops.specs.inside.Removal.{after_removal, DeletesObjects, RemovesObject}
use Rattle.table_ops.specs.inside.Undo.{ForKey}
use Rattle.table_ops.proofs.PutLaws.{of-key, own-in}
use Rattle.table_ops.proofs.CountLaws.{count-set, count-removed}

or-not : (b : Bool) → (b || not b) ≡ true
or-not true = refl
or-not false = refl

or-either : (hold b : Bool) → (hold || b || not b) ≡ true
or-either true b = refl
or-either false b = or-not b

-- a slot that loses no object stays
pub stays : (hold : Bool) (s : Slot) (l : List Term) (D : List Slot) → l ≡ s.1 → cond (hold || has_objects l || not (has_objects s.1)) ((s.0, l) ∷ D) D ≡ s ∷ D
stays hold s l D e =
    subst (λ (w : List Term). cond (hold || has_objects w || not (has_objects s.1)) ((s.0, w) ∷ D) D ≡ s ∷ D) (sym e)
    (ap (λ (b : Bool). cond b (s ∷ D) D) (or-either hold (has_objects s.1)))

-- slots of other keys lose no object
abbrev pub KeepsOthers : Which → Term → List Slot → Type 0
KeepsOthers which key slots = AllByRecursion (λ slot. same key slot.0 ≡ false → objects_left which slot ≡ slot.1) slots

apart-all : (which : Which) (key own : Term) (ss : List Slot) → same key own ≡ true → AllByRecursion (λ y. same own y ≡ false) (keys_of ss) → KeepsOthers which key ss → AllByRecursion (λ slot. objects_left which slot ≡ slot.1) ss
apart-all which key own [] e d sp = tt
apart-all which key own (s ∷ ss) e d sp = (sp.0 (ap (λ t. same t s.0) (same-exact key own e) ∙ d.0), apart-all which key own ss e d.1 sp.1)

drop-unchanged : (hold : Bool) (which : Which) (ss : List Slot) → AllByRecursion (λ slot. objects_left which slot ≡ slot.1) ss → after_drop hold which ss ≡ ss
drop-unchanged hold which [] h = refl
drop-unchanged hold which (s ∷ ss) h = stays hold s (objects_left which s) (after_drop hold which ss) h.0 ∙ ap (λ l. s ∷ l) (drop-unchanged hold which ss h.1)

cond-cons : (b : Bool) (s : Slot) (x y : List Slot) → cond b (s ∷ x) (s ∷ y) ≡ s ∷ cond b x y
cond-cons true s x y = refl
cond-cons false s x y = refl

thinned-at : (b : Bool) (hold : Bool) (which : Which) (s : Slot) (ss : List Slot) (key : Term) (c : List Term) → same key s.0 ≡ b → AllByRecursion (λ y. same s.0 y ≡ false) (keys_of ss) → KeepsOthers which key (s ∷ ss)
    → (objects_of ss key ≡ Some c → after_drop hold which ss ≡ after_removal hold ss key c (objects_left which (key, c))) → cond b (Some s.1) (objects_of ss key) ≡ Some c
    → cond (hold || has_objects (objects_left which s) || not (has_objects s.1)) ((s.0, objects_left which s) ∷ after_drop hold which ss) (after_drop hold which ss)
    ≡ cond (hold || has_objects (objects_left which (key, c)) || not (has_objects c)) (cond b ((s.0, objects_left which (key, c)) ∷ ss) (s ∷ with_objects ss key (objects_left which (key, c)))) (cond b ss (s ∷ without ss key))
thinned-at true hold which s ss key c e d sp rest h =
    let has : s.1 ≡ c = cc in
    let is : s ≡ (key, c) = λ i. (sym (same-exact key s.0 e) i, has i) in
    let l : objects_left which s ≡ objects_left which (key, c) = ap (objects_left which) is in
    let D : after_drop hold which ss ≡ ss = drop-unchanged hold which ss (apart-all which key s.0 ss e d sp.1) in
    λ i. cond (hold || has_objects (l i) || not (has_objects (has i))) ((s.0, l i) ∷ D i) (D i)
thinned-at false hold which s ss key c e d sp rest h =
    stays hold s (objects_left which s) (after_drop hold which ss) (sp.0 e) ∙ ap (λ l. s ∷ l) (rest h)
    ∙ sym (cond-cons (hold || has_objects (objects_left which (key, c)) || not (has_objects c)) s (with_objects ss key (objects_left which (key, c))) (without ss key))

pub one-thinned : (hold : Bool) (which : Which) (slots : List Slot) (key : Term) (c : List Term) → IsDistinct same (keys_of slots) → KeepsOthers which key slots → objects_of slots key ≡ Some c
    → after_drop hold which slots ≡ after_removal hold slots key c (objects_left which (key, c))
unfolding IsDistinct
one-thinned hold which [] key c d sp h = cc
one-thinned hold which (s ∷ ss) key c d sp h = thinned-at (same key s.0) hold which s ss key c refl d.0 sp (one-thinned hold which ss key c d.1 sp.1) h

none-at : (b : Bool) (which : Which) (key : Term) (s : Slot) (ss : List Slot) → same key s.0 ≡ b → KeepsOthers which key (s ∷ ss) → (objects_of ss key ≡ None → AllByRecursion (λ slot. objects_left which slot ≡ slot.1) ss) → cond b (Some s.1) (objects_of ss key) ≡ None → AllByRecursion (λ slot. objects_left which slot ≡ slot.1) (s ∷ ss)
none-at true which key s ss e sp rest h = cc
none-at false which key s ss e sp rest h = (sp.0 e, rest h)

drop-absent : (which : Which) (slots : List Slot) (key : Term) → KeepsOthers which key slots → objects_of slots key ≡ None → AllByRecursion (λ slot. objects_left which slot ≡ slot.1) slots
drop-absent which [] key sp h = tt
drop-absent which (s ∷ ss) key sp h = none-at (same key s.0) which key s ss refl sp (drop-absent which ss key sp.1) h

-- if the key has no slot nothing is removed
pub none-dropped : (hold : Bool) (which : Which) (slots : List Slot) (key : Term) → KeepsOthers which key slots → objects_of slots key ≡ None → after_drop hold which slots ≡ slots
none-dropped hold which slots key sp h = drop-unchanged hold which slots (drop-absent which slots key sp h)

-- a test with one result for all objects
keeps-all : (b : Bool) (os : List Term) → b ≡ false → filter (λ o. not b) os ≡ os
keeps-all true os e = absurd (true≢false e)
keeps-all false [] e = refl
keeps-all false (o ∷ os) e = ap (λ l. o ∷ l) (keeps-all false os e)

keeps-none : (b : Bool) (os : List Term) → b ≡ true → filter (λ o. not b) os ≡ []
keeps-none false os e = absurd (true≢false (sym e))
keeps-none true [] e = refl
keeps-none true (o ∷ os) e = keeps-none true os e

pub keeps-others-key : (key : Term) (slots : List Slot) → KeepsOthers (has_key key) key slots
keeps-others-key key [] = tt
keeps-others-key key (s ∷ ss) = (λ e. keeps-all (same key s.0) s.1 e, keeps-others-key key ss)

pub left-key : (key : Term) (c : List Term) → objects_left (has_key key) (key, c) ≡ []
left-key key c = keeps-none (same key key) c (same-refl key)

other-at : (b : Bool) (keypos : ℕ) (object key own o : Term) → key_of keypos object ≡ Some key → same key own ≡ false → IsObjectOfKey keypos own o → same o object ≡ b → b ≡ false
other-at false keypos object key own o its apart st e = refl
other-at true keypos object key own o its apart st e =
    let is : o ≡ object = same-exact o object e in
    let keys : Some own ≡ Some key = sym st.its_key ∙ ap (key_of keypos) is ∙ its in
    let one : own ≡ key = cc in
    absurd (true≢false (sym (same-refl key) ∙ ap (same key) (sym one) ∙ apart))

keeps-one : (b : Bool) (o : Term) (l os : List Term) → b ≡ false → l ≡ os → cond (not b) (o ∷ l) l ≡ o ∷ os
keeps-one true o l os e h = absurd (true≢false e)
keeps-one false o l os e h = ap (λ k. o ∷ k) h

others-stay : (keypos : ℕ) (object key own : Term) (os : List Term) → key_of keypos object ≡ Some key → same key own ≡ false → AllByRecursion (IsObjectOfKey keypos own) os → filter (λ o. not (same o object)) os ≡ os
others-stay keypos object key own [] its apart st = refl
others-stay keypos object key own (o ∷ os) its apart st =
    keeps-one (same o object) o (filter (λ x. not (same x object)) os) os (other-at (same o object) keypos object key own o its apart st.0 refl) (others-stay keypos object key own os its apart st.1)

pub keeps-others-object : (kind : Kind) (keypos : ℕ) (object key : Term) (slots : List Slot) → key_of keypos object ≡ Some key → AreSlots kind keypos slots → KeepsOthers (equal_to object) key slots
keeps-others-object kind keypos object key [] its a = tt
keeps-others-object kind keypos object key (s ∷ ss) its a = (λ e. others-stay keypos object key s.0 s.1 its e a.0.stored, keeps-others-object kind keypos object key ss its a.1)

-- the number of objects
thinned-count-at : (b : Bool) (slots : List Slot) (key : Term) (c l : List Term) → objects_of slots key ≡ Some c → (b ≡ false → length l ≡ 0) → object_count (cond b (with_objects slots key l) (without slots key)) + length c ≡ object_count slots + length l
thinned-count-at true slots key c l h none = count-set (same key) slots c l h
thinned-count-at false slots key c l h none = omega (arith, count-removed (same key) slots c h, none refl)

nothing-in : (hold b : Bool) (l : List Term) → (hold || has_objects l || b) ≡ false → length l ≡ 0
nothing-in true b l h = absurd (true≢false h)
nothing-in false b [] h = refl
nothing-in false b (x ∷ xs) h = absurd (true≢false h)

pub thinned-count : (hold : Bool) (slots : List Slot) (key : Term) (c l : List Term) → objects_of slots key ≡ Some c → object_count (after_removal hold slots key c l) + length c ≡ object_count slots + length l
thinned-count hold slots key c l h = thinned-count-at (hold || has_objects l || not (has_objects c)) slots key c l h (nothing-in hold (not (has_objects c)) l)

-- the invariant of each slot is kept
all-filter-at : (P : Term → Type 0) (b : Bool) (x : Term) (l : List Term) → P x → AllByRecursion P l → AllByRecursion P (cond b (x ∷ l) l)
all-filter-at P true x l p h = (p, h)
all-filter-at P false x l p h = h

all-filter : (P : Term → Type 0) (t : Term → Bool) (xs : List Term) → AllByRecursion P xs → AllByRecursion P (filter t xs)
all-filter P t [] h = tt
all-filter P t (x ∷ xs) h = all-filter-at P (t x) x (filter t xs) h.0 (all-filter P t xs h.1)

shorter-at : (b : Bool) (x : Term) (l : List Term) (n : ℕ) → length l ≤ n → length (cond b (x ∷ l) l) ≤ n + 1
shorter-at true x l n h = omega (arith, h)
shorter-at false x l n h = omega (arith, h)

shorter : (t : Term → Bool) (xs : List Term) → length (filter t xs) ≤ length xs
shorter t [] = omega arith
shorter t (x ∷ xs) = omega (arith, shorter-at (t x) x (filter t xs) (length xs) (shorter t xs))

distinct-at : (b : Bool) (x : Term) (l : List Term) → AllByRecursion (λ y. same x y ≡ false) l → IsDistinct same l → IsDistinct same (cond b (x ∷ l) l)
unfolding IsDistinct
distinct-at true x l a d = (a, d)
distinct-at false x l a d = d

distinct-filter : (t : Term → Bool) (xs : List Term) → IsDistinct same xs → IsDistinct same (filter t xs)
unfolding IsDistinct
distinct-filter t [] d = tt
distinct-filter t (x ∷ xs) d = distinct-at (t x) x (filter t xs) (all-filter (λ y. same x y ≡ false) t xs d.0) (distinct-filter t xs d.1)

kept-filter : (kind : Kind) (t : Term → Bool) (xs : List Term) → FitsKind kind xs → FitsKind kind (filter t xs)
kept-filter Set t xs h = omega (arith, h, shorter t xs)
kept-filter Bag t xs h = distinct-filter t xs h
kept-filter DuplicateBag t xs h = tt

slot-left : (kind : Kind) (keypos : ℕ) (which : Which) (s : Slot) → IsSlot kind keypos s → IsSlot kind keypos (s.0, objects_left which s)
slot-left kind keypos which s h = record {
  key = h.key;
  stored = all-filter (IsObjectOfKey keypos s.0) (λ o. not (which s.0 o)) s.1 h.stored;
  kept = kept-filter kind (λ o. not (which s.0 o)) s.1 h.kept;
}

slots-one : (b : Bool) (kind : Kind) (keypos : ℕ) (s : Slot) (ss : List Slot) → IsSlot kind keypos s → AreSlots kind keypos ss → AreSlots kind keypos (cond b (s ∷ ss) ss)
slots-one true kind keypos s ss h a = (h, a)
slots-one false kind keypos s ss h a = a

pub slots-dropped : (hold : Bool) (which : Which) (kind : Kind) (keypos : ℕ) (slots : List Slot) → AreSlots kind keypos slots → AreSlots kind keypos (after_drop hold which slots)
slots-dropped hold which kind keypos [] a = tt
slots-dropped hold which kind keypos (s ∷ ss) a =
    slots-one (hold || has_objects (objects_left which s) || not (has_objects s.1)) kind keypos (s.0, objects_left which s) (after_drop hold which ss) (slot-left kind keypos which s a.0) (slots-dropped hold which kind keypos ss a.1)

pub slots-purged : (kind : Kind) (keypos : ℕ) (slots : List Slot) → AreSlots kind keypos slots → AreSlots kind keypos (without_tombstones slots)
slots-purged kind keypos [] a = tt
slots-purged kind keypos (s ∷ ss) a = slots-one (has_objects s.1) kind keypos s (without_tombstones ss) a.0 (slots-purged kind keypos ss a.1)

-- all objects are removed
each-left : (os : List Term) → filter (λ o. not true) os ≡ []
each-left [] = refl
each-left (o ∷ os) = each-left os

tombstone-one : (s : Slot) (os : List Term) (D : List Slot) → s.1 ≡ os → cond (not (has_objects os)) ((s.0, []) ∷ D) D ≡ cond (not (has_objects os)) (s ∷ D) D
tombstone-one s [] D e = λ i. (s.0, sym e i) ∷ D
tombstone-one s (o ∷ os) D e = refl

pub dropped-each : (hold : Bool) (slots : List Slot) → after_drop hold every_object slots ≡ without_objects hold slots
dropped-each true [] = refl
dropped-each true (s ∷ ss) = λ i. (s.0, each-left s.1 i) ∷ dropped-each true ss i
dropped-each false [] = refl
dropped-each false (s ∷ ss) =
    (λ i. cond (has_objects (each-left s.1 i) || not (has_objects s.1)) ((s.0, each-left s.1 i) ∷ dropped-each false ss i) (dropped-each false ss i))
    ∙ tombstone-one s s.1 (without_objects false ss) refl

pub nothing-left : (hold : Bool) (slots : List Slot) → object_count (after_drop hold every_object slots) ≡ 0
nothing-left true [] = refl
nothing-left true (s ∷ ss) = omega (arith, ap length (each-left s.1), nothing-left true ss)
nothing-left false [] = refl
nothing-left false (s ∷ ss) = nothing-at (not (has_objects s.1)) s (objects_left every_object s) (after_drop false every_object ss) (each-left s.1) (nothing-left false ss)
  where
    nothing-at : (b : Bool) (t : Slot) (l : List Term) (D : List Slot) → l ≡ [] → object_count D ≡ 0 → object_count (cond (has_objects l || b) ((t.0, l) ∷ D) D) ≡ 0
    nothing-at true t [] D e h = omega (arith, h)
    nothing-at false t [] D e h = h
    nothing-at b t (x ∷ xs) D e h = cc

-- the objects at the place of a key are removed
pub key-taken : (hold : Bool) (old new : List Slot) (o : Option Term) (key : Term) (c : List Term) → HasDistinctKeys old → o ≡ Some key → objects_in old o ≡ Some c → ForKey o (λ k. new ≡ after_removal hold old k c []) → new ≡ after_drop hold (has_key key) old
key-taken hold old new o key c d is own t =
    let had = own-in old o key c is own in
    of-key o (λ k. new ≡ after_removal hold old k c []) key t is
    ∙ sym (one-thinned hold (has_key key) old key c d (keeps-others-key key old) had ∙ ap (after_removal hold old key c) (left-key key c))

pub taken-count : (hold : Bool) (old new : List Slot) (o : Option Term) (key : Term) (c : List Term) → o ≡ Some key → objects_in old o ≡ Some c → ForKey o (λ k. new ≡ after_removal hold old k c []) → object_count new + length c ≡ object_count old
taken-count hold old new o key c is own t =
    let now : new ≡ after_removal hold old key c [] = of-key o (λ k. new ≡ after_removal hold old k c []) key t is in
    omega (arith, ap object_count now, thinned-count hold old key c [] (own-in old o key c is own))

-- the objects of a key are deleted in place
pub objects-deleted : (hold : Bool) (old new : List Slot) (o : Option Term) (key : Term) (n : ℕ) → HasDistinctKeys old → o ≡ Some key → ForKey o (λ k. DeletesObjects hold old k n new) → new ≡ after_drop hold (has_key key) old
objects-deleted hold old new o key n d is t =
    let h = of-key o (λ k. DeletesObjects hold old k n new) key t is in
    h.now ∙ sym (one-thinned hold (has_key key) old key h.objects d (keeps-others-key key old) h.had ∙ ap (after_removal hold old key h.objects) (left-key key h.objects))

pub deleted-count : (hold : Bool) (old new : List Slot) (o : Option Term) (key : Term) (n : ℕ) → o ≡ Some key → ForKey o (λ k. DeletesObjects hold old k n new) → object_count new + n ≡ object_count old
deleted-count hold old new o key n is t =
    let h = of-key o (λ k. DeletesObjects hold old k n new) key t is in
    omega (arith, ap object_count h.now, thinned-count hold old key h.objects [] h.had, h.counted)

-- every instance of an object is removed
pub object-taken : (hold : Bool) (kind : Kind) (keypos : ℕ) (old new : List Slot) (o : Option Term) (key object : Term) (n : ℕ) → HasDistinctKeys old → AreSlots kind keypos old → key_of keypos object ≡ Some key → o ≡ Some key → ForKey o (λ k. RemovesObject hold old k object n new) → new ≡ after_drop hold (equal_to object) old
object-taken hold kind keypos old new o key object n d a its is t =
    let h = of-key o (λ k. RemovesObject hold old k object n new) key t is in
    h.now ∙ sym (one-thinned hold (equal_to object) old key h.objects d (keeps-others-object kind keypos object key old its a) h.had)

pub object-count : (hold : Bool) (old new : List Slot) (o : Option Term) (key object : Term) (n : ℕ) → o ≡ Some key → ForKey o (λ k. RemovesObject hold old k object n new) → object_count new + n ≡ object_count old
object-count hold old new o key object n is t =
    let h = of-key o (λ k. RemovesObject hold old k object n new) key t is in
    omega (arith, ap object_count h.now, thinned-count hold old key h.objects (all_but object h.objects) h.had, h.counted)

-- fewer objects are counted
pub counted-less : (hold : Bool) (which : Which) (kind : Kind) (keypos limit count n : ℕ) (old new : List Slot) → IsCounted kind keypos limit count old → new ≡ after_drop hold which old → object_count new + n ≡ object_count old → IsCounted kind keypos limit (count - n) new
counted-less hold which kind keypos limit count n old new i now less = record {
  counted = omega (arith, i.counted, less);
  within = omega (arith, i.within);
  few = i.few;
  slots_are = subst (AreSlots kind keypos) (sym now) (slots-dropped hold which kind keypos old i.slots_are);
}

not-zero : (n : ℕ) → (suc n == 0) ≡ false
not-zero n = grind (arith, nat_tests)

-- a chain is empty if its slot is a tombstone
tombstone-empty : (c : List Term) → (length c == 0) ≡ not (has_objects c)
tombstone-empty [] = refl
tombstone-empty (x ∷ xs) = not-zero (length xs)

pub thins-at : (b : Bool) (hold : Bool) (old new : List Slot) (key : Term) (c l : List Term) → (hold || has_objects l || (length c == 0)) ≡ b → new ≡ cond b (with_objects old key l) (without old key) → new ≡ after_removal hold old key c l
thins-at b hold old new key c l e h =
    h ∙ ap (λ (t : Bool). cond t (with_objects old key l) (without old key)) (sym e ∙ ap (λ (t : Bool). hold || has_objects l || t) (tombstone-empty c))

-- an object is removed from the slot of a key, with the test that the code makes
pub thins : (b : Bool) (hold : Bool) (old new : List Slot) (key object : Term) (c l : List Term) (n : ℕ) → objects_of old key ≡ Some c → l ≡ all_but object c → length l + n ≡ length c → (hold || has_objects l || (length c == 0)) ≡ b → new ≡ cond b (with_objects old key l) (without old key) → RemovesObject hold old key object n new
thins b hold old new key object c l n had rest counted e h = record {
  objects = c;
  had = had;
  now = thins-at b hold old new key c l e h ∙ ap (after_removal hold old key c) rest;
  counted = subst (λ (k : List Term). length k + n ≡ length c) rest counted;
}

deletes-at : (o : Option Term) (key : Term) (P Q : Type 0) → o ≡ Some key → Q → MatchOption o P (λ _. Q)
deletes-at None key P Q e q = cc
deletes-at (Some k) key P Q e q = q

-- delete_object deletes the object so
pub deletes : (hold : Bool) (object key : Term) (old : Content) → key_of old.keypos object ≡ Some key → (slots : List Slot) → slots ≡ after_drop hold (equal_to object) old.slots → DeletesObject hold object old (Ok tt) (record old { slots = slots })
deletes hold object key old its slots e = deletes-at (key_of old.keypos object) key _ _ its (refl, ap (λ (l : List Slot). let r : Content = record old { slots = l } in r) e)
