-- Insertions keep the invariant of each slot.
use Rattle.std.proofs.Common.{◌≡◌, ℕ, ◌≤◌, Bool, true, false, ◌||◌, cond, List, [], ◌∷◌, ◌++◌, Option, None, Some, unwrap_or, refl, sym, ap, subst, ◌∙◌, length, true≢false, if◌then◌else◌, codes, arith, length-append}
use Rattle.std.specs.Prelude.{MatchOption}
use Rattle.std.specs.List.{list_any, AllByRecursion, IsDistinct}
use Rattle.std.specs.Option.{option_and_then}
use Rattle.ets_term.specs.declared.term.Term.{Term}
use Rattle.ets_term.specs.Atoms.{is_atom}
use Rattle.ets_term.specs.Depth.{is_too_deep, element_at}
use Rattle.ets_term.specs.Order.{same}
use Rattle.ets_term.specs.laws.Same.{same-exact, same-refl}
use Rattle.bucket_table.specs.Slots.{Slot, objects_of, with_objects, Enters}
use Rattle.table_ops.specs.declared.kind.Kind.{Kind}
use Rattle.table_ops.specs.declared.kind.Kind.TheVariants.{Set, Bag, DuplicateBag}
use Rattle.table_ops.specs.Content.{key_of, objects_under}
use Rattle.table_ops.specs.Invariants.{IsObjectOfKey, FitsKind, IsSlot, AreSlots}
use Rattle.table_ops.specs.Put.{add, Puts, PutsAll}

-- both sides of a false disjunction are false
pub neither : (a b : Bool) → (a || b) ≡ false → (a ≡ false) × (b ≡ false)
neither true b h = absurd (true≢false h)
neither false b h = (refl, h)

pub turned : (x y : Term) → same x y ≡ false → same y x ≡ false
turned x y h = by (same y x) refl
  where
    by : (b : Bool) → same y x ≡ b → same y x ≡ false
    by false e = e
    by true e = absurd (true≢false (sym (same-refl y) ∙ ap (λ t. same t y) (same-exact y x e) ∙ h))

all-push : (P : Term → Type 0) (xs : List Term) (x : Term) → AllByRecursion P xs → P x → AllByRecursion P (xs ++ x ∷ [])
all-push P [] x h p = (p, tt)
all-push P (y ∷ ys) x h p = (h.0, all-push P ys x h.1 p)

distinct-push : (xs : List Term) (x : Term) → IsDistinct same xs → list_any (same x) xs ≡ false → IsDistinct same (xs ++ x ∷ [])
unfolding IsDistinct
distinct-push [] x d free = (tt, tt)
distinct-push (y ∷ ys) x d free =
    let n = neither (same x y) (list_any (same x) ys) free in
    (all-push (λ z. same y z ≡ false) ys x d.0 (turned x y n.0), distinct-push ys x d.1 n.1)

no-end-at : (keypos : ℕ) (o : Option Term) (key : Term) → option_and_then (λ k. if is_atom (codes "$end_of_table") k then None else Some k) o ≡ Some key → is_atom (codes "$end_of_table") key ≡ false
no-end-at keypos None key h = cc
no-end-at keypos (Some k) key h = by (is_atom (codes "$end_of_table") k) refl h
  where
    by : (b : Bool) → is_atom (codes "$end_of_table") k ≡ b → (if b then None else Some k) ≡ Some key → is_atom (codes "$end_of_table") key ≡ false
    by true e g = cc
    by false e g = let is : k ≡ key = cc in subst (λ t. is_atom (codes "$end_of_table") t ≡ false) is e

no-end : (keypos : ℕ) (object key : Term) → key_of keypos object ≡ Some key → is_atom (codes "$end_of_table") key ≡ false
no-end keypos object key its = no-end-at keypos (element_at keypos object) key its

slot-of-at : (b : Bool) (kind : Kind) (keypos : ℕ) (s : Slot) (ss : List Slot) (key : Term) (c : List Term) → same key s.0 ≡ b → IsSlot kind keypos s → (objects_of ss key ≡ Some c → IsSlot kind keypos (key, c)) → cond b (Some s.1) (objects_of ss key) ≡ Some c → IsSlot kind keypos (key, c)
slot-of-at true kind keypos s ss key c e own rest h =
    let is : key ≡ s.0 = same-exact key s.0 e in
    let has : s.1 ≡ c = cc in
    subst (λ (p : Slot). IsSlot kind keypos p) (λ i. (sym is i, has i)) own
slot-of-at false kind keypos s ss key c e own rest h = rest h

-- the invariant of the slot of a key
pub slot-of : (kind : Kind) (keypos : ℕ) (slots : List Slot) (key : Term) (c : List Term) → AreSlots kind keypos slots → objects_of slots key ≡ Some c → IsSlot kind keypos (key, c)
slot-of kind keypos [] key c a h = cc
slot-of kind keypos (s ∷ ss) key c a h = slot-of-at (same key s.0) kind keypos s ss key c refl a.0 (slot-of kind keypos ss key c a.1) h

pub kept-none : (kind : Kind) → FitsKind kind []
unfolding IsDistinct
kept-none Set = omega arith
kept-none Bag = tt
kept-none DuplicateBag = tt

slot-under-at : (kind : Kind) (keypos : ℕ) (slots : List Slot) (object key : Term) (o : Option (List Term)) → AreSlots kind keypos slots → key_of keypos object ≡ Some key → objects_of slots key ≡ o → IsSlot kind keypos (key, unwrap_or o [])
slot-under-at kind keypos slots object key None a its h = record { key = no-end keypos object key its; stored = tt; kept = kept-none kind }
slot-under-at kind keypos slots object key (Some c) a its h = slot-of kind keypos slots key c a h

-- the invariant of the objects of an object's key, with or without a slot
pub slot-under : (kind : Kind) (keypos : ℕ) (slots : List Slot) (object key : Term) → AreSlots kind keypos slots → key_of keypos object ≡ Some key → IsSlot kind keypos (key, objects_under slots key)
slot-under kind keypos slots object key a its = slot-under-at kind keypos slots object key (objects_of slots key) a its refl

bag-add : (keypos : ℕ) (key : Term) (os : List Term) (object : Term) (b : Bool) → list_any (same object) os ≡ b → IsSlot Bag keypos (key, os) → IsObjectOfKey keypos key object → IsSlot Bag keypos (key, if b then os else os ++ object ∷ [])
bag-add keypos key os object true e s st = s
bag-add keypos key os object false e s st = record { key = s.key; stored = all-push (IsObjectOfKey keypos key) os object s.stored st; kept = distinct-push os object s.kept e }

slot-add : (kind : Kind) (keypos : ℕ) (key : Term) (os : List Term) (object : Term) → IsSlot kind keypos (key, os) → IsObjectOfKey keypos key object → IsSlot kind keypos (key, add kind os object)
slot-add Set keypos key os object s st = record { key = s.key; stored = (st, tt); kept = omega arith }
slot-add Bag keypos key os object s st = bag-add keypos key os object (list_any (same object) os) refl s st
slot-add DuplicateBag keypos key os object s st = record { key = s.key; stored = all-push (IsObjectOfKey keypos key) os object s.stored st; kept = tt }

set-at : (b : Bool) (kind : Kind) (keypos : ℕ) (s : Slot) (ss : List Slot) (key : Term) (w : List Term) → same key s.0 ≡ b → IsSlot kind keypos (key, w) → AreSlots kind keypos (s ∷ ss) → AreSlots kind keypos (with_objects ss key w) → AreSlots kind keypos (cond b ((s.0, w) ∷ ss) (s ∷ with_objects ss key w))
set-at true kind keypos s ss key w e own a rest = (subst (λ (t : Term). IsSlot kind keypos (t, w)) (same-exact key s.0 e) own, a.1)
set-at false kind keypos s ss key w e own a rest = (a.0, rest)

pub slots-set : (kind : Kind) (keypos : ℕ) (slots : List Slot) (key : Term) (w : List Term) → AreSlots kind keypos slots → IsSlot kind keypos (key, w) → AreSlots kind keypos (with_objects slots key w)
slots-set kind keypos [] key w a own = tt
slots-set kind keypos (s ∷ ss) key w a own = set-at (same key s.0) kind keypos s ss key w refl own a (slots-set kind keypos ss key w a.1 own)

slots-between : (kind : Kind) (keypos : ℕ) (front back : List Slot) (s : Slot) → AreSlots kind keypos (front ++ back) → IsSlot kind keypos s → AreSlots kind keypos (front ++ s ∷ back)
slots-between kind keypos [] back s a own = (own, a)
slots-between kind keypos (f ∷ front) back s a own = (a.0, slots-between kind keypos front back s a.1 own)

slots-enter : (kind : Kind) (keypos : ℕ) (old new : List Slot) (key : Term) (w : List Term) → AreSlots kind keypos old → IsSlot kind keypos (key, w) → Enters old key w new → AreSlots kind keypos new
slots-enter kind keypos old new key w a own e = subst (AreSlots kind keypos) (sym e.after) (slots-between kind keypos e.front e.back (key, w) (subst (AreSlots kind keypos) e.before a) own)

slots-write-at : (o : Option (List Term)) (kind : Kind) (keypos : ℕ) (old new : List Slot) (key : Term) (w : List Term) → AreSlots kind keypos old → IsSlot kind keypos (key, w) → MatchOption o (Enters old key w new) (λ _. new ≡ with_objects old key w) → AreSlots kind keypos new
slots-write-at None kind keypos old new key w a own e = slots-enter kind keypos old new key w a own e
slots-write-at (Some c) kind keypos old new key w a own e = subst (AreSlots kind keypos) (sym e) (slots-set kind keypos old key w a own)

pub slots-puts : (kind : Kind) (keypos : ℕ) (old new : List Slot) (key object : Term) → AreSlots kind keypos old → key_of keypos object ≡ Some key → is_too_deep object ≡ false → Puts kind old key object new → AreSlots kind keypos new
slots-puts kind keypos old new key object a its shallow p =
    let stored : IsObjectOfKey keypos key object = record { its_key = its; shallow = shallow } in
    let own = slot-add kind keypos key (objects_under old key) object (slot-under kind keypos old object key a its) stored in
    slots-write-at (objects_of old key) kind keypos old new key (add kind (objects_under old key) object) a own p

pub slots-puts-all : (kind : Kind) (keypos : ℕ) (old : List Slot) (objects : List Term) (new : List Slot) → AreSlots kind keypos old → list_any is_too_deep objects ≡ false → PutsAll kind keypos old objects new → AreSlots kind keypos new
slots-puts-all kind keypos old [] new a shallow p = subst (AreSlots kind keypos) (sym p) a
slots-puts-all kind keypos old (o ∷ os) new a shallow p =
    let n = neither (is_too_deep o) (list_any is_too_deep os) shallow in
    slots-puts-all kind keypos p.2.0 os new (slots-puts kind keypos old p.2.0 p.0 o a p.1 n.0 p.2.1) n.1 p.2.2

bag-longer : (b : Bool) (os : List Term) (object : Term) → length os ≤ length (if b then os else os ++ object ∷ [])
bag-longer true os object = omega arith
bag-longer false os object = omega (arith, length-append os (object ∷ []))

-- an insertion removes no object without adding one
pub not-shorter : (kind : Kind) (os : List Term) (object : Term) → FitsKind kind os → length os ≤ length (add kind os object)
not-shorter Set os object kept = omega (arith, kept)
not-shorter Bag os object kept = bag-longer (list_any (same object) os) os object
not-shorter DuplicateBag os object kept = omega (arith, length-append os (object ∷ []))
