-- To execute a delete plan deletes the chosen objects.
use Rattle.std.proofs.Common.{◌≡◌, ℕ, zero, suc, ◌+◌, ◌<◌, Bool, true, false, not, ◌||◌, cond, List, [], ◌∷◌, ◌++◌, Option, None, Some, is_some, refl, sym, ap, subst, ◌∙◌, length, take, slice_get, filter, true≢false, if◌then◌else◌, arith}
use Rattle.std.specs.Prelude.{nat_lt}
use Rattle.std.proofs.lemmas.Bool.Decides.{nat_tests}
use Rattle.std.proofs.lemmas.List.{append-nil}
use Rattle.std.specs.List.{AllByRecursion, IsDistinct}
use Rattle.std.specs.Map.{keys_of}
use Rattle.ets_term.specs.declared.term.Term.{Term}
use Rattle.ets_term.specs.Order.{same}
use Rattle.ets_term.specs.laws.Same.{same-refl}
use Rattle.bucket_table.specs.Slots.{Slot, objects_of, with_objects, has_objects, slots_behind, object_count}
use Rattle.bucket_table.specs.Rows.{HasDistinctKeys, without}
use Rattle.bucket_table.specs.Walks.{ComesBefore}
use Rattle.bucket_table.proofs.slots.Traverse.{before-other, before-without}
use Rattle.table_ops.specs.declared.delete_plan.SlotDelete.{SlotDelete}
use Rattle.table_ops.specs.Drop.{after_drop}
use Rattle.table_ops.specs.Results.{chosen_count}
use Rattle.table_ops.specs.Read.{all_objects}
use Rattle.table_ops.specs.inside.DeletePlan.{objects_kept, PlannedSlot, plan_of_slot, plan_with_slot, plan_of, plan_at, with_kept, after_plan, IsBefore, AreInOrder}
use Rattle.table_ops.proofs.DropLaws.{stays}
use Rattle.table_ops.proofs.InvariantLaws.{turned}
use Rattle.table_ops.proofs.QueryLaws.{chosen-append, more-at, take-next}

some-chosen : (n : ℕ) → nat_lt 0 n ≡ true → 0 < n
some-chosen n h = grind (arith, nat_tests, h)

none-chosen : (n : ℕ) → nat_lt 0 n ≡ false → n ≡ 0
none-chosen n h = grind (arith, nat_tests, h)

module _ (choose : Term → Bool) where
  kept-append : (xs ys : List Term) → objects_kept choose (xs ++ ys) ≡ objects_kept choose xs ++ objects_kept choose ys
  kept-append [] ys = refl
  kept-append (x ∷ xs) ys = ap (λ l. cond (not (choose x)) (x ∷ l) l) (kept-append xs ys) ∙ on (not (choose x))
    where
      on : (b : Bool) → cond b (x ∷ objects_kept choose xs ++ objects_kept choose ys) (objects_kept choose xs ++ objects_kept choose ys) ≡ cond b (x ∷ objects_kept choose xs) (objects_kept choose xs) ++ objects_kept choose ys
      on true = refl
      on false = refl

  kept-by : (b : Bool) (x : Term) (xs : List Term) → choose x ≡ b → (chosen_count choose xs ≡ 0 → objects_kept choose xs ≡ xs) → length (cond (choose x) (x ∷ []) []) + chosen_count choose xs ≡ 0 → objects_kept choose (x ∷ xs) ≡ x ∷ xs
  kept-by true x xs e rest g = absurd (omega (arith, g, ap (λ (c : Bool). length (cond c (x ∷ []) [])) e))
  kept-by false x xs e rest g = ap (λ (c : Bool). cond (not c) (x ∷ objects_kept choose xs) (objects_kept choose xs)) e ∙ ap (λ l. x ∷ l) (rest (omega (arith, g)))

  -- if none is chosen all stay
  pub kept-all : (xs : List Term) → chosen_count choose xs ≡ 0 → objects_kept choose xs ≡ xs
  kept-all [] h = refl
  kept-all (x ∷ xs) h = kept-by (choose x) x xs refl (λ n. kept-all xs n) (omega (arith, h, more-at choose (choose x) x (filter choose xs)))

  -- the kept objects at the first one that is chosen
  pub first-left : (xs : List Term) (i : ℕ) (x : Term) → slice_get xs i ≡ Some x → choose x ≡ true → chosen_count choose (take i xs) ≡ 0 → take i xs ≡ objects_kept choose (take (i + 1) xs)
  first-left xs i x at is none =
      sym (ap (objects_kept choose) (take-next xs i x at) ∙ kept-append (take i xs) (x ∷ []) ∙ ap (λ (c : Bool). objects_kept choose (take i xs) ++ cond (not c) (x ∷ []) []) is ∙ append-nil (objects_kept choose (take i xs)) ∙ kept-all (take i xs) none)

  kept-count-at : (b : Bool) (x : Term) (l k : List Term) (n : ℕ) → length k + length l ≡ n → length (cond (not b) (x ∷ k) k) + length (cond b (x ∷ l) l) ≡ n + 1
  kept-count-at true x l k n h = omega (arith, h)
  kept-count-at false x l k n h = omega (arith, h)

  pub kept-count : (xs : List Term) → length (objects_kept choose xs) + chosen_count choose xs ≡ length xs
  kept-count [] = omega arith
  kept-count (x ∷ xs) = omega (arith, kept-count-at (choose x) x (filter choose xs) (objects_kept choose xs) (length xs) (kept-count xs))

  then-append : (b : Bool) (s : Slot) (ns ms : List PlannedSlot) → plan_with_slot b s choose (ns ++ ms) ≡ plan_with_slot b s choose ns ++ ms
  then-append true s ns ms = refl
  then-append false s ns ms = refl

  plan-append : (ss ts : List Slot) → plan_of choose (ss ++ ts) ≡ plan_of choose ss ++ plan_of choose ts
  plan-append [] ts = refl
  plan-append (s ∷ ss) ts = ap (plan_with_slot (nat_lt 0 (chosen_count choose s.1)) s choose) (plan-append ss ts) ∙ then-append (nat_lt 0 (chosen_count choose s.1)) s (plan_of choose ss) (plan_of choose ts)

  take-slot : (ss : List Slot) (i : ℕ) (s : Slot) → slice_get ss i ≡ Some s → take (suc i) ss ≡ take i ss ++ s ∷ []
  take-slot [] i s h = cc
  take-slot (x ∷ xs) zero s h = let is : x ≡ s = cc in ap (λ t. t ∷ []) is
  take-slot (x ∷ xs) (suc i) s h = ap (λ l. x ∷ l) (take-slot xs i s h)

  -- one more slot
  pub plan-next : (ss : List Slot) (i : ℕ) (s : Slot) → slice_get ss i ≡ Some s → plan_of choose (take (i + 1) ss) ≡ plan_of choose (take i ss) ++ plan_of_slot choose s
  plan-next ss i s h =
      let next : i + 1 ≡ suc i = omega arith in
      ap (λ n. plan_of choose (take n ss)) next ∙ ap (plan_of choose) (take-slot ss i s h) ∙ plan-append (take i ss) (s ∷ [])

pub plan_of_slot-append : (f : ℕ → Option Term) (xs ys : List SlotDelete) → plan_at f (xs ++ ys) ≡ plan_at f xs ++ plan_at f ys
plan_of_slot-append f [] ys = refl
plan_of_slot-append f (x ∷ xs) ys = ap (λ l. (f x.place, x.kept) ∷ l) (plan_of_slot-append f xs ys)

-- the last slot of a plan is changed first
pub thin-append : (hold : Bool) (ns : List PlannedSlot) (m : PlannedSlot) (slots : List Slot) → after_plan hold (ns ++ m ∷ []) slots ≡ after_plan hold ns (with_kept hold m.0 m.1 slots)
thin-append hold [] m slots = refl
thin-append hold (n ∷ ns) m slots = ap (with_kept hold n.0 n.1) (thin-append hold ns m slots)

all-last : (P : PlannedSlot → Type 0) (ns : List PlannedSlot) (m : PlannedSlot) → AllByRecursion P (ns ++ m ∷ []) → AllByRecursion P ns × P m
all-last P [] m a = (tt, a.0)
all-last P (n ∷ ns) m a = let r = all-last P ns m a.1 in ((a.0, r.0), r.1)

pub order-last : (slots : List Slot) (ns : List PlannedSlot) (m : PlannedSlot) → AreInOrder slots (ns ++ m ∷ []) → (is_some m.0 ≡ true) × AllByRecursion (λ n. IsBefore slots n.0 m.0) ns × AreInOrder slots ns
order-last slots [] m a = (a.0, tt, tt)
order-last slots (n ∷ ns) m a =
    let l = all-last (λ m'. IsBefore slots n.0 m'.0) ns m a.1 in
    let r = order-last slots ns m a.2 in
    (r.0, (l.1, r.1), (a.0, l.0, r.2))

-- a slot with other objects stays at its place in the order
has-set-at : (b c : Bool) (x : Slot) (ss : List Slot) (key second : Term) (w : List Term) → same second x.0 ≡ c → is_some (cond c (Some x.1) (objects_of ss second)) ≡ true → (is_some (objects_of ss second) ≡ true → is_some (objects_of (with_objects ss key w) second) ≡ true)
    → is_some (objects_of (cond b ((x.0, w) ∷ ss) (x ∷ with_objects ss key w)) second) ≡ true
has-set-at true true x ss key second w e h ih = ap (λ (c : Bool). is_some (cond c (Some w) (objects_of ss second))) e
has-set-at true false x ss key second w e h ih = ap (λ (c : Bool). is_some (cond c (Some w) (objects_of ss second))) e ∙ h
has-set-at false true x ss key second w e h ih = ap (λ (c : Bool). is_some (cond c (Some x.1) (objects_of (with_objects ss key w) second))) e
has-set-at false false x ss key second w e h ih = ap (λ (c : Bool). is_some (cond c (Some x.1) (objects_of (with_objects ss key w) second))) e ∙ ih h

has-set : (ss : List Slot) (key second : Term) (w : List Term) → is_some (objects_of ss second) ≡ true → is_some (objects_of (with_objects ss key w) second) ≡ true
has-set [] key second w h = absurd (true≢false (sym h))
has-set (x ∷ ss) key second w h = has-set-at (same key x.0) (same second x.0) x ss key second w refl h (has-set ss key second w)

before-set-at : (b c : Bool) (x : Slot) (ss rest : List Slot) (key first second : Term) (w : List Term) → same first x.0 ≡ c → cond c (Some ss) (slots_behind ss first) ≡ Some rest → is_some (objects_of rest second) ≡ true
    → (ComesBefore ss first second → ComesBefore (with_objects ss key w) first second) → ComesBefore (cond b ((x.0, w) ∷ ss) (x ∷ with_objects ss key w)) first second
before-set-at true true x ss rest key first second w e h has ih = record { rest = rest; is = ap (λ (c : Bool). cond c (Some ss) (slots_behind ss first)) e ∙ h; has = has }
before-set-at true false x ss rest key first second w e h has ih = record { rest = rest; is = ap (λ (c : Bool). cond c (Some ss) (slots_behind ss first)) e ∙ h; has = has }
before-set-at false true x ss rest key first second w e h has ih =
    let own : ss ≡ rest = cc in
    record {
      rest = with_objects ss key w;
      is = ap (λ (c : Bool). cond c (Some (with_objects ss key w)) (slots_behind (with_objects ss key w) first)) e;
      has = has-set ss key second w (subst (λ (l : List Slot). is_some (objects_of l second) ≡ true) (sym own) has);
    }
before-set-at false false x ss rest key first second w e h has ih =
    let s = ih (record { rest = rest; is = h; has = has }) in
    record { rest = s.rest; is = ap (λ (c : Bool). cond c (Some (with_objects ss key w)) (slots_behind (with_objects ss key w) first)) e ∙ s.is; has = s.has }

before-set : (ss : List Slot) (key first second : Term) (w : List Term) → ComesBefore ss first second → ComesBefore (with_objects ss key w) first second
before-set [] key first second w s = absurd (let e : None ≡ Some s.rest = s.is in cc)
before-set (x ∷ ss) key first second w s = before-set-at (same key x.0) (same first x.0) x ss s.rest key first second w refl s.is s.has (before-set ss key first second w)

before-thin-at : (b : Bool) (slots : List Slot) (key first second : Term) (l : List Term) → HasDistinctKeys slots → ComesBefore slots first second → ComesBefore slots first key → ComesBefore slots second key → ComesBefore (if b then with_objects slots key l else without slots key) first second
before-thin-at true slots key first second l d s f g = before-set slots key first second l s
before-thin-at false slots key first second l d s f g = before-without key first second slots (before-other slots first key d f) (before-other slots second key d g) s

before-thin : (hold : Bool) (slots : List Slot) (m : Option Term) (l : List Term) (a b : Option Term) → HasDistinctKeys slots → IsBefore slots a b → IsBefore slots a m → IsBefore slots b m → IsBefore (with_kept hold m l slots) a b
before-thin hold slots None l a b d s f g = s
before-thin hold slots (Some key) l None b d s f g = s
before-thin hold slots (Some key) l (Some first) None d s f g = s
before-thin hold slots (Some key) l (Some first) (Some second) d s f g = before-thin-at (hold || has_objects l) slots key first second l d s f g

all-thin : (hold : Bool) (slots : List Slot) (m : PlannedSlot) (n : PlannedSlot) (ns : List PlannedSlot) → HasDistinctKeys slots → IsBefore slots n.0 m.0 → AllByRecursion (λ o. IsBefore slots n.0 o.0) ns → AllByRecursion (λ o. IsBefore slots o.0 m.0) ns → AllByRecursion (λ o. IsBefore (with_kept hold m.0 m.1 slots) n.0 o.0) ns
all-thin hold slots m n [] d f a l = tt
all-thin hold slots m n (o ∷ ns) d f a l = (before-thin hold slots m.0 m.1 n.0 o.0 d a.0 f l.0, all-thin hold slots m n ns d f a.1 l.1)

-- the slots before a changed slot stay in order
pub order-thin : (hold : Bool) (slots : List Slot) (m : PlannedSlot) (ns : List PlannedSlot) → HasDistinctKeys slots → AreInOrder slots ns → AllByRecursion (λ n. IsBefore slots n.0 m.0) ns → AreInOrder (with_kept hold m.0 m.1 slots) ns
order-thin hold slots m [] d a l = tt
order-thin hold slots m (n ∷ ns) d a l = (a.0, all-thin hold slots m n ns d l.0 a.1 l.1, order-thin hold slots m ns d a.2 l.1)

-- the slots before a changed slot keep their places
pub plan_of_slot-same : (f g : ℕ → Option Term) (slots : List Slot) (m : Option Term) (ms : List SlotDelete) → ((other : ℕ) → IsBefore slots (f other) m → g other ≡ f other) → AllByRecursion (λ n. IsBefore slots n.0 m) (plan_at f ms) → plan_at g ms ≡ plan_at f ms
plan_of_slot-same f g slots m [] same' a = refl
plan_of_slot-same f g slots m (x ∷ ms) same' a = λ i. (same' x.place a.0 i, x.kept) ∷ plan_of_slot-same f g slots m ms same' a.1 i

module _ (choose : Term → Bool) where
  -- slots of different keys
  apart-if : (b : Bool) (k : Term) (l : List Term) (s : Slot) (ss : List Slot) → same k s.0 ≡ false → (if b then with_objects (s ∷ ss) k l else without (s ∷ ss) k) ≡ s ∷ (if b then with_objects ss k l else without ss k)
  apart-if true k l s ss e = ap (λ (c : Bool). cond c ((s.0, l) ∷ ss) (s ∷ with_objects ss k l)) e
  apart-if false k l s ss e = ap (λ (c : Bool). cond c ss (s ∷ without ss k)) e

  abbrev Apart : Term → Option Term → Type 0
  Apart own None = Unit {0}
  Apart own (Some k) = same k own ≡ false

  thin-apart : (hold : Bool) (o : Option Term) (l : List Term) (s : Slot) (ss : List Slot) → Apart s.0 o → with_kept hold o l (s ∷ ss) ≡ s ∷ with_kept hold o l ss
  thin-apart hold None l s ss e = refl
  thin-apart hold (Some k) l s ss e = apart-if (hold || has_objects l) k l s ss e

  thin-under : (hold : Bool) (ns : List PlannedSlot) (s : Slot) (ss : List Slot) → AllByRecursion (λ n. Apart s.0 n.0) ns → after_plan hold ns (s ∷ ss) ≡ s ∷ after_plan hold ns ss
  thin-under hold [] s ss a = refl
  thin-under hold (n ∷ ns) s ss a = ap (with_kept hold n.0 n.1) (thin-under hold ns s ss a.1) ∙ thin-apart hold n.0 n.1 s (after_plan hold ns ss) a.0

  all-then : (P : Option Term → Type 0) (b : Bool) (s : Slot) (ns : List PlannedSlot) → P (Some s.0) → AllByRecursion (λ (n : PlannedSlot). P n.0) ns → AllByRecursion (λ (n : PlannedSlot). P n.0) (plan_with_slot b s choose ns)
  all-then P true s ns h a = (h, a)
  all-then P false s ns h a = a

  -- the slots of a plan exist
  plan-all : (P : Option Term → Type 0) (ss : List Slot) → AllByRecursion (λ k. P (Some k)) (keys_of ss) → AllByRecursion (λ (n : PlannedSlot). P n.0) (plan_of choose ss)
  plan-all P [] a = tt
  plan-all P (s ∷ ss) a = all-then P (nat_lt 0 (chosen_count choose s.1)) s (plan_of choose ss) a.0 (plan-all P ss a.1)

  all-map : (P Q : Term → Type 0) (ks : List Term) → ((k : Term) → P k → Q k) → AllByRecursion P ks → AllByRecursion Q ks
  all-map P Q [] f a = tt
  all-map P Q (k ∷ ks) f a = (f k a.0, all-map P Q ks f a.1)

  own-if : (hold : Bool) (b : Bool) (s : Slot) (l : List Term) (D : List Slot) → (if b then with_objects (s ∷ D) s.0 l else without (s ∷ D) s.0) ≡ cond b ((s.0, l) ∷ D) D
  own-if hold true s l D = ap (λ (c : Bool). cond c ((s.0, l) ∷ D) (s ∷ with_objects D s.0 l)) (same-refl s.0)
  own-if hold false s l D = ap (λ (c : Bool). cond c D (s ∷ without D s.0)) (same-refl s.0)

  has-chosen : (os : List Term) → 0 < chosen_count choose os → has_objects os ≡ true
  has-chosen [] h = absurd (omega (arith, h))
  has-chosen (o ∷ os) h = refl

  or-false : (b : Bool) → b ≡ (b || not true)
  or-false true = refl
  or-false false = refl

  drops-at : (b : Bool) (hold : Bool) (s : Slot) (ss : List Slot) (ns : List PlannedSlot) → nat_lt 0 (chosen_count choose s.1) ≡ b → AllByRecursion (λ n. Apart s.0 n.0) ns → after_plan hold ns ss ≡ after_drop hold (λ own. choose) ss → after_plan hold (plan_with_slot b s choose ns) (s ∷ ss) ≡ after_drop hold (λ own. choose) (s ∷ ss)
  drops-at true hold s ss ns e a ih =
      let has = has-chosen s.1 (some-chosen (chosen_count choose s.1) e) in
      let D = after_drop hold (λ own. choose) ss in
      let l = objects_kept choose s.1 in
      ap (with_kept hold (Some s.0) l) (thin-under hold ns s ss a ∙ ap (λ t. s ∷ t) ih) ∙ own-if hold (hold || has_objects l) s l D
      ∙ ap (λ (c : Bool). cond c ((s.0, l) ∷ D) D) (or-false (hold || has_objects l) ∙ ap (λ (c : Bool). hold || has_objects l || not c) (sym has))
  drops-at false hold s ss ns e a ih =
      thin-under hold ns s ss a ∙ ap (λ t. s ∷ t) ih ∙ sym (stays hold s (objects_kept choose s.1) (after_drop hold (λ own. choose) ss) (kept-all choose s.1 (none-chosen (chosen_count choose s.1) e)))

  -- to execute the plan for all slots deletes the chosen objects
  pub drops : (hold : Bool) (ss : List Slot) → HasDistinctKeys ss → after_plan hold (plan_of choose ss) ss ≡ after_drop hold (λ own. choose) ss
  unfolding IsDistinct
  drops hold [] d = refl
  drops hold (s ∷ ss) d =
      drops-at (nat_lt 0 (chosen_count choose s.1)) hold s ss (plan_of choose ss) refl
      (plan-all (Apart s.0) ss (all-map (λ k. same s.0 k ≡ false) (λ k. same k s.0 ≡ false) (keys_of ss) (λ k e. turned s.0 k e) d.0)) (drops hold ss d.1)

  later-key : (b : Bool) (x : Slot) (ss : List Slot) (k : Term) → is_some (objects_of ss k) ≡ true → is_some (cond b (Some x.1) (objects_of ss k)) ≡ true
  later-key true x ss k h = refl
  later-key false x ss k h = h

  keys-found : (ss : List Slot) → AllByRecursion (λ k. is_some (objects_of ss k) ≡ true) (keys_of ss)
  keys-found [] = tt
  keys-found (s ∷ ss) = (ap (λ (c : Bool). is_some (cond c (Some s.1) (objects_of ss s.0))) (same-refl s.0), all-map (λ k. is_some (objects_of ss k) ≡ true) (λ k. is_some (objects_of (s ∷ ss) k) ≡ true) (keys_of ss) (λ k h. later-key (same k s.0) s ss k h) (keys-found ss))

  behind-first : (s : Slot) (ss : List Slot) (k : Term) → is_some (objects_of ss k) ≡ true → ComesBefore (s ∷ ss) s.0 k
  behind-first s ss k h = record { rest = ss; is = ap (λ (c : Bool). cond c (Some ss) (slots_behind ss s.0)) (same-refl s.0); has = h }

  behind-one : (s : Slot) (ss : List Slot) (a b : Option Term) → Apart s.0 a → IsBefore ss a b → IsBefore (s ∷ ss) a b
  behind-one s ss None b e h = h
  behind-one s ss (Some x) None e h = h
  behind-one s ss (Some x) (Some y) e h = record { rest = h.rest; is = ap (λ (c : Bool). cond c (Some ss) (slots_behind ss x)) e ∙ h.is; has = h.has }

  all-behind : (s : Slot) (ss : List Slot) (n : PlannedSlot) (ns : List PlannedSlot) → Apart s.0 n.0 → AllByRecursion (λ m. IsBefore ss n.0 m.0) ns → AllByRecursion (λ m. IsBefore (s ∷ ss) n.0 m.0) ns
  all-behind s ss n [] e a = tt
  all-behind s ss n (m ∷ ns) e a = (behind-one s ss n.0 m.0 e a.0, all-behind s ss n ns e a.1)

  order-behind : (s : Slot) (ss : List Slot) (ns : List PlannedSlot) → AllByRecursion (λ n. Apart s.0 n.0) ns → AreInOrder ss ns → AreInOrder (s ∷ ss) ns
  order-behind s ss [] e a = tt
  order-behind s ss (n ∷ ns) e a = (a.0, all-behind s ss n ns e.0 a.1, order-behind s ss ns e.1 a.2)

  order-at : (b : Bool) (s : Slot) (ss : List Slot) (ns : List PlannedSlot) → AllByRecursion (λ n. IsBefore (s ∷ ss) (Some s.0) n.0) ns → AreInOrder (s ∷ ss) ns → AreInOrder (s ∷ ss) (plan_with_slot b s choose ns)
  order-at true s ss ns f a = (refl, f, a)
  order-at false s ss ns f a = a

  -- a plan is in the order of the slots
  pub in-order : (ss : List Slot) → HasDistinctKeys ss → AreInOrder ss (plan_of choose ss)
  unfolding IsDistinct
  in-order [] d = tt
  in-order (s ∷ ss) d =
      order-at (nat_lt 0 (chosen_count choose s.1)) s ss (plan_of choose ss)
      (plan-all (λ o. IsBefore (s ∷ ss) (Some s.0) o) ss (all-map (λ k. is_some (objects_of ss k) ≡ true) (λ k. ComesBefore (s ∷ ss) s.0 k) (keys_of ss) (λ k h. behind-first s ss k h) (keys-found ss)))
      (order-behind s ss (plan_of choose ss) (plan-all (Apart s.0) ss (all-map (λ k. same s.0 k ≡ false) (λ k. same k s.0 ≡ false) (keys_of ss) (λ k e. turned s.0 k e) d.0)) (in-order ss d.1))

  left-count : (b : Bool) (k : Term) (l : List Term) (D : List Slot) → (b ≡ false → length l ≡ 0) → object_count (cond b ((k, l) ∷ D) D) ≡ length l + object_count D
  left-count true k l D h = refl
  left-count false k l D h = omega (arith, h refl)

  none-in : (hold b : Bool) (l : List Term) → (hold || has_objects l || b) ≡ false → length l ≡ 0
  none-in true b l h = absurd (true≢false h)
  none-in false b [] h = refl
  none-in false b (x ∷ xs) h = absurd (true≢false h)

  -- the number of objects falls by the number of chosen ones
  pub drops-count : (hold : Bool) (ss : List Slot) → object_count (after_drop hold (λ own. choose) ss) + chosen_count choose (all_objects ss) ≡ object_count ss
  drops-count hold [] = omega arith
  drops-count hold (s ∷ ss) =
      omega (
        arith,
        left-count (hold || has_objects (objects_kept choose s.1) || not (has_objects s.1)) s.0 (objects_kept choose s.1) (after_drop hold (λ own. choose) ss) (none-in hold (not (has_objects s.1)) (objects_kept choose s.1)),
        chosen-append choose s.1 (all_objects ss),
        kept-count choose s.1,
        drops-count hold ss,
      )
