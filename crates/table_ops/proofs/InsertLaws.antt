-- Insertions of lists, all or none.
use Rattle.std.proofs.Common.{◌≡◌, ℕ, zero, suc, ◌+◌, ◌≤◌, ◌<◌, Bool, true, false, ◌&&◌, ◌||◌, List, [], ◌∷◌, ◌++◌, Option, None, Some, is_some, unwrap_or, Result, Ok, Err, refl, sym, ap, subst, ◌∙◌, length, take, drop, slice_get, true≢false, arith}
use Rattle.std.proofs.lemmas.Bool.Decides.{nat_tests}
use Rattle.std.specs.Prelude.{nat_lt}
use Rattle.std.specs.Bool.{MatchBool}
use Rattle.std.specs.List.{list_any, list_all}
use Rattle.ets_term.specs.declared.term.Term.{Term}
use Rattle.ets_term.specs.Depth.{is_too_deep}
use Rattle.bucket_table.specs.Slots.{Slot, Enters, object_count, objects_of, with_objects}
use Rattle.table_ops.specs.declared.kind.Kind.{Kind}
use Rattle.table_ops.specs.declared.refusal.Refusal.{Refusal}
use Rattle.table_ops.specs.declared.refusal.Refusal.TheVariants.{Badarg, SystemLimit, Memory}
use Rattle.table_ops.specs.declared.undo.Undo.{Undo}
use Rattle.table_ops.specs.declared.undo.Undo.TheVariants.{NewSlot, Objects, LastObject, Nothing}
use Rattle.table_ops.specs.declared.kind.Kind.TheVariants.{Set, Bag, DuplicateBag}
use Rattle.table_ops.specs.Update.{is_set}
use Rattle.table_ops.specs.Content.{Content, key_of, is_object, objects_under}
use Rattle.table_ops.specs.Invariants.{AreSlots}
use Rattle.table_ops.specs.Put.{add, Puts, PutsAll, InsertsWithinLimit, Inserts, InsertsNew, is_taken}
use Rattle.table_ops.specs.Refusals.{RefinesChange}
use Rattle.table_ops.specs.inside.Undo.{ForKey, after_undo, after_roll_back, added_objects, added_to, PutsOne, PutsObject, PutsEach}
use Rattle.table_ops.proofs.CountLaws.{count-writes, written}
use Rattle.table_ops.proofs.PutLaws.{new-put, new-full, set-put}
use Rattle.table_ops.proofs.InvariantLaws.{neither, slot-under, slots-puts, slots-puts-all, not-shorter}

pub both : (a b : Bool) → (a && b) ≡ true → (a ≡ true) × (b ≡ true)
both true b h = (refl, h)
both false b h = absurd (true≢false (sym h))

pub object-key : (o : Option Term) → is_some o ≡ true → (key : Term) × (o ≡ Some key)
object-key None h = absurd (true≢false (sym h))
object-key (Some key) h = (key, refl)

pub is-below : (a c : ℕ) → nat_lt a c ≡ true → a < c
is-below a c e = grind (arith, nat_tests)

pub is-not-below : (a c : ℕ) → nat_lt a c ≡ false → c ≤ a
is-not-below a c e = grind (arith, nat_tests)

none-below : (a c : ℕ) → c ≤ a → nat_lt a c ≡ false
none-below a c h = grind (arith, nat_tests)

-- objects one after another
puts-append : (kind : Kind) (keypos : ℕ) (old : List Slot) (xs ys : List Term) (mid new : List Slot) → PutsAll kind keypos old xs mid → PutsAll kind keypos mid ys new → PutsAll kind keypos old (xs ++ ys) new
puts-append kind keypos old [] ys mid new p q = subst (λ l. PutsAll kind keypos l ys new) p q
puts-append kind keypos old (x ∷ xs) ys mid new p q = (p.0, p.1, (p.2.0, p.2.1, puts-append kind keypos p.2.0 xs ys mid new p.2.2 q))

pub puts-push : (kind : Kind) (keypos : ℕ) (old : List Slot) (xs : List Term) (mid : List Slot) (object key : Term) (new : List Slot)
    → PutsAll kind keypos old xs mid → key_of keypos object ≡ Some key → Puts kind mid key object new → PutsAll kind keypos old (xs ++ object ∷ []) new
puts-push kind keypos old xs mid object key new p its q = puts-append kind keypos old xs (object ∷ []) mid new p (key, its, (new, q, refl))

-- further insertions are always possible, and leave no fewer objects
completed : (kind : Kind) (keypos : ℕ) (old : List Slot) (objects : List Term) → AreSlots kind keypos old → list_all (is_object keypos) objects ≡ true → list_any is_too_deep objects ≡ false
    → (new : List Slot) × PutsAll kind keypos old objects new × (object_count old ≤ object_count new)
completed kind keypos old [] a are shallow = (old, refl, omega arith)
completed kind keypos old (o ∷ os) a are shallow =
    let b = both (is_object keypos o) (list_all (is_object keypos) os) are in
    let n = neither (is_too_deep o) (list_any is_too_deep os) shallow in
    let k = object-key (key_of keypos o) b.0 in
    let objects = add kind (objects_under old k.0) o in
    let w = written old k.0 objects in
    let under = slot-under kind keypos old o k.0 a k.1 in
    let rest = completed kind keypos w.0 os (slots-puts kind keypos old w.0 k.0 o a k.1 n.0 w.1) b.1 n.1 in
    (rest.0, (k.0, k.1, (w.0, w.1, rest.1)), omega (arith, count-writes old w.0 k.0 objects w.1, not-shorter kind (objects_under old k.0) o under.kept, rest.2))

gains-at-most-of : (c : List Term) → added_to c ≤ 1
gains-at-most-of [] = omega arith
gains-at-most-of (x ∷ xs) = omega arith

pub gains-at-most : (u : Undo) → added_objects u ≤ 1
gains-at-most NewSlot = omega arith
gains-at-most (Objects c) = gains-at-most-of c
gains-at-most LastObject = omega arith
gains-at-most Nothing = omega arith

room-left : (before limit n : ℕ) (below_limit : Bool) → nat_lt before limit ≡ below_limit → before ≤ limit → n ≤ 1 → (below_limit ≡ false → n ≡ 0) → before + n ≤ limit
room-left before limit n true e h few none = let l = is-below before limit e in omega (arith, l, few)
room-left before limit n false e h few none = omega (arith, none refl, h)

-- one more object is within the limit
pub within-limit : (before limit : ℕ) (u : Undo) → before ≤ limit → (nat_lt before limit ≡ false → added_objects u ≡ 0) → before + added_objects u ≤ limit
within-limit before limit u h none = room-left before limit (added_objects u) (nat_lt before limit) refl h (gains-at-most u) none

-- if it is not, it would be one too many
over-limit : (kind : Kind) (keypos before limit : ℕ) (object key : Term) (old : List Slot) → before ≡ object_count old → nat_lt before limit ≡ false
    → length (add kind (objects_under old key) object) ≡ length (objects_under old key) + 1 → (new : List Slot) × Puts kind old key object new × (limit < object_count new)
over-limit kind keypos before limit object key old counted full longer =
    let w = written old key (add kind (objects_under old key) object) in
    (w.0, w.1, omega (arith, counted, is-not-below before limit full, longer, count-writes old w.0 key (add kind (objects_under old key) object) w.1))

at-one : (o : Option Term) (P : Term → Type 0) → ForKey o P → (key : Term) × (o ≡ Some key) × P key
at-one None P h = absurd h
at-one (Some key) P h = (key, refl, h)

module _ (limit before : ℕ) (kind : Kind) (keypos : ℕ) (object : Term) (old : List Slot) (counted : before ≡ object_count old) where
  -- the only object of a list is inserted
  pub one-done : (u : Undo) (new : List Slot) → before ≤ limit → PutsObject (nat_lt before limit) kind keypos object old (Ok u) new → PutsEach limit kind keypos (object ∷ []) old (Ok (before + added_objects u)) new
  one-done u new h p =
      let k = at-one (key_of keypos object) _ p in
      let q = k.2 in
      ((k.0, k.1, (new, q.0, refl)), omega (arith, counted, q.2), within-limit before limit u h q.3)

  -- or it is refused
  pub one-refused : (e : Refusal) (new : List Slot) → PutsObject (nat_lt before limit) kind keypos object old (Err e) new → PutsEach limit kind keypos (object ∷ []) old (Err e) new
  one-refused Badarg new p = (at-one (key_of keypos object) _ p).2
  one-refused SystemLimit new p =
      let k = at-one (key_of keypos object) _ p in
      let q = k.2 in
      let w = over-limit kind keypos before limit object k.0 old counted q.1 q.2 in
      (q.0, (w.0, (k.0, k.1, (w.0, w.1, refl)), w.2))
  one-refused Memory new p = (at-one (key_of keypos object) _ p).2

  -- it is inserted with a new slot
  pub one-enters : (key : Term) (new : List Slot) → before < limit → key_of keypos object ≡ Some key → objects_of old key ≡ None → Enters old key (object ∷ []) new → PutsEach limit kind keypos (object ∷ []) old (Ok (before + 1)) new
  one-enters key new less its none e =
      let q = new-put true kind key object old new none refl e in
      let more : object_count new ≡ object_count old + 1 = q.2 in
      ((key, its, (new, q.0, refl)), omega (arith, counted, more), omega (arith, less))

  set-puts : (k : Kind) (key : Term) (new : List Slot) → is_set k ≡ true → Puts Set old key object new → Puts k old key object new
  set-puts Set key new e p = p
  set-puts Bag key new e p = absurd (true≢false (sym e))
  set-puts DuplicateBag key new e p = absurd (true≢false (sym e))

  -- it replaces the only object of its key in a set
  pub one-replaces : (key was : Term) (new : List Slot) → is_set kind ≡ true → before ≤ limit → key_of keypos object ≡ Some key → objects_of old key ≡ Some (was ∷ []) → new ≡ with_objects old key (object ∷ []) → PutsEach limit kind keypos (object ∷ []) old (Ok before) new
  one-replaces key was new set within its own e =
      let q = set-put true key object old new (was ∷ []) own (omega arith) (λ f. absurd (true≢false f)) e in
      let as_many : object_count new ≡ object_count old + 0 = q.2 in
      ((key, its, (new, set-puts kind key new set q.0, refl)), omega (arith, counted, as_many), within)

  -- a full table refuses one that needs a new slot
  pub one-full : (key : Term) → limit ≤ before → key_of keypos object ≡ Some key → objects_of old key ≡ None → PutsEach limit kind keypos (object ∷ []) old (Err SystemLimit) old
  one-full key full its none =
      let q = new-full false kind key object old none refl in
      let w = over-limit kind keypos before limit object key old counted (none-below before limit full) q.2 in
      (refl, (w.0, (key, its, (w.0, w.1, refl)), w.2))

all-drop : (p : Term → Bool) (n : ℕ) (xs : List Term) → list_all p xs ≡ true → list_all p (drop n xs) ≡ true
all-drop p zero xs h = h
all-drop p (suc n) [] h = h
all-drop p (suc n) (x ∷ xs) h = all-drop p n xs (both (p x) (list_all p xs) h).1

any-drop : (p : Term → Bool) (n : ℕ) (xs : List Term) → list_any p xs ≡ false → list_any p (drop n xs) ≡ false
any-drop p zero xs h = h
any-drop p (suc n) [] h = h
any-drop p (suc n) (x ∷ xs) h = any-drop p n xs (neither (p x) (list_any p xs) h).1

pub any-take : (p : Term → Bool) (n : ℕ) (xs : List Term) → list_any p xs ≡ false → list_any p (take n xs) ≡ false
any-take p zero xs h = refl
any-take p (suc n) [] h = refl
any-take p (suc n) (x ∷ xs) h = let b = neither (p x) (list_any p xs) h in ap (λ c. c || list_any p (take n xs)) b.0 ∙ any-take p n xs b.1

pub all-at : (p : Term → Bool) (xs : List Term) (i : ℕ) (x : Term) → list_all p xs ≡ true → slice_get xs i ≡ Some x → p x ≡ true
all-at p [] i x h g = cc
all-at p (y ∷ ys) zero x h g = let is : y ≡ x = cc in ap p (sym is) ∙ (both (p y) (list_all p ys) h).0
all-at p (y ∷ ys) (suc i) x h g = all-at p ys i x (both (p y) (list_all p ys) h).1 g

pub any-at : (p : Term → Bool) (xs : List Term) (i : ℕ) (x : Term) → list_any p xs ≡ false → slice_get xs i ≡ Some x → p x ≡ false
any-at p [] i x h g = cc
any-at p (y ∷ ys) zero x h g = let is : y ≡ x = cc in ap p (sym is) ∙ (neither (p y) (list_any p ys) h).0
any-at p (y ∷ ys) (suc i) x h g = any-at p ys i x (neither (p y) (list_any p ys) h).1 g

take-with : (xs : List Term) (i : ℕ) (x : Term) → slice_get xs i ≡ Some x → take i xs ++ x ∷ drop (suc i) xs ≡ xs
take-with [] i x h = cc
take-with (y ∷ ys) zero x h = let is : y ≡ x = cc in ap (λ t. t ∷ ys) (sym is)
take-with (y ∷ ys) (suc i) x h = ap (λ l. y ∷ l) (take-with ys i x h)

pub take-one : (xs : List Term) (i : ℕ) (x : Term) → slice_get xs i ≡ Some x → take (suc i) xs ≡ take i xs ++ x ∷ []
take-one [] i x h = cc
take-one (y ∷ ys) zero x h = let is : y ≡ x = cc in ap (λ t. t ∷ []) is
take-one (y ∷ ys) (suc i) x h = ap (λ l. y ∷ l) (take-one ys i x h)

-- a roll back undoes the last insertion first
pub undone-push : (keypos : ℕ) (undos : List Undo) (u : Undo) (objects : List Term) (object : Term) (slots : List Slot) → slice_get objects (length undos) ≡ Some object
    → after_roll_back keypos (undos ++ u ∷ []) objects slots ≡ after_roll_back keypos undos objects (after_undo u (unwrap_or (key_of keypos object) object) slots)
undone-push keypos [] u [] object slots h = cc
undone-push keypos [] u (o ∷ os) object slots h = let is : o ≡ object = cc in ap (λ x. after_undo u (unwrap_or (key_of keypos x) x) slots) is
undone-push keypos (v ∷ vs) u [] object slots h = cc
undone-push keypos (v ∷ vs) u (o ∷ os) object slots h = ap (after_undo v (unwrap_or (key_of keypos o) o)) (undone-push keypos vs u os object slots h)

refused-same-at : (o : Option Term) (below_limit : Bool) (kind : Kind) (object : Term) (old new : List Slot) (e : Refusal) → ForKey o (λ key. PutsOne below_limit kind key object old (Err e) new) → new ≡ old
refused-same-at None below_limit kind object old new e p = absurd p
refused-same-at (Some key) below_limit kind object old new Badarg p = absurd p
refused-same-at (Some key) below_limit kind object old new SystemLimit p = p.0
refused-same-at (Some key) below_limit kind object old new Memory p = p

-- a refused insertion changes nothing
pub refused-same : (below_limit : Bool) (kind : Kind) (keypos : ℕ) (object : Term) (old new : List Slot) (e : Refusal) → PutsObject below_limit kind keypos object old (Err e) new → new ≡ old
refused-same below_limit kind keypos object old new e p = refused-same-at (key_of keypos object) below_limit kind object old new e p

-- the first `i` objects of a list are inserted, and the log can undo them
pub record Steps (limit count : ℕ) (kind : Kind) (keypos : ℕ) (objects : List Term) (i : ℕ) (old new : List Slot) (undos : List Undo) : Type 0 where
  pub done : PutsAll kind keypos old (take i objects) new
  pub back : after_roll_back keypos undos objects new ≡ old
  pub counted : count ≡ object_count new
  pub within : count ≤ limit

pub next-step : (limit count : ℕ) (kind : Kind) (keypos : ℕ) (objects : List Term) (i : ℕ) (old mid new : List Slot) (undos : List Undo) (u : Undo) (object : Term)
    → Steps limit count kind keypos objects i old mid undos → length undos ≡ i → slice_get objects i ≡ Some object → PutsObject (nat_lt count limit) kind keypos object mid (Ok u) new
    → Steps limit (count + added_objects u) kind keypos objects (i + 1) old new (undos ++ u ∷ [])
next-step limit count kind keypos objects i old mid new undos u object s logged at p =
    let k = at-one (key_of keypos object) (λ key. PutsOne (nat_lt count limit) kind key object mid (Ok u) new) p in
    let put = k.2 in
    let here : slice_get objects (length undos) ≡ Some object = ap (slice_get objects) logged ∙ at in
    let next : i + 1 ≡ suc i = omega arith in
    let more : take (i + 1) objects ≡ take i objects ++ object ∷ [] = ap (λ n. take n objects) next ∙ take-one objects i object at in
    record {
      done = subst (λ l. PutsAll kind keypos old l new) (sym more) (puts-push kind keypos old (take i objects) mid object k.0 new s.done k.1 put.0);
      back = undone-push keypos undos u objects object new here ∙ ap (λ o. after_roll_back keypos undos objects (after_undo u (unwrap_or o object) new)) k.1 ∙ ap (after_roll_back keypos undos objects) put.1 ∙ s.back;
      counted = omega (arith, s.counted, put.2);
      within = within-limit count limit u s.within put.3;
    }

-- if an object of a list passes the limit, the whole list is refused
pub all-refused : (limit before : ℕ) (kind : Kind) (keypos : ℕ) (old mid : List Slot) (objects : List Term) (i : ℕ) (object : Term)
    → AreSlots kind keypos old → list_all (is_object keypos) objects ≡ true → list_any is_too_deep objects ≡ false → slice_get objects i ≡ Some object → PutsAll kind keypos old (take i objects) mid
    → before ≡ object_count mid → (e : Refusal) (new back : List Slot) → PutsObject (nat_lt before limit) kind keypos object mid (Err e) new → back ≡ old → PutsEach limit kind keypos objects old (Err e) back
all-refused limit before kind keypos old mid objects i object a are shallow at done counted Badarg new back p same = (at-one (key_of keypos object) _ p).2
all-refused limit before kind keypos old mid objects i object a are shallow at done counted SystemLimit new back p same =
    let k = at-one (key_of keypos object) _ p in
    let q = k.2 in
    let w = over-limit kind keypos before limit object k.0 mid counted q.1 q.2 in
    let so_far = slots-puts-all kind keypos old (take i objects) mid a (any-take is_too_deep i objects shallow) done in
    let more = slots-puts kind keypos mid w.0 k.0 object so_far k.1 (any-at is_too_deep objects i object shallow at) w.1 in
    let rest = completed kind keypos w.0 (drop (suc i) objects) more (all-drop (is_object keypos) (suc i) objects are) (any-drop is_too_deep (suc i) objects shallow) in
    let whole : PutsAll kind keypos old (take i objects ++ object ∷ drop (suc i) objects) rest.0 =
    puts-append kind keypos old (take i objects) (object ∷ drop (suc i) objects) mid rest.0 done (k.0, k.1, (w.0, w.1, rest.1)) in
    (same, (rest.0, subst (λ l. PutsAll kind keypos old l rest.0) (take-with objects i object at) whole, omega (arith, w.2, rest.2)))
all-refused limit before kind keypos old mid objects i object a are shallow at done counted Memory new back p same = same

pub full_at : (b : Bool) (P Q : Type 0) → b ≡ true → P → MatchBool b P Q
full_at true P Q e p = p
full_at false P Q e p = absurd (true≢false (sym e))

pub room_at : (b : Bool) (P Q : Type 0) → b ≡ false → Q → MatchBool b P Q
room_at false P Q e q = q
room_at true P Q e q = absurd (true≢false e)

pub above : (limit n : ℕ) → limit < n → nat_lt limit n ≡ true
above limit n h = grind (arith, nat_tests)

pub not-above : (limit n : ℕ) → n ≤ limit → nat_lt limit n ≡ false
not-above limit n h = grind (arith, nat_tests)

module _ {X : Type 0} (done : X) (objects : List Term) (old : Content) where
  pub stores-deep : list_any is_too_deep objects ≡ true → InsertsWithinLimit done objects old (Err SystemLimit) old
  stores-deep deep = full_at (list_any is_too_deep objects) _ _ deep (refl, refl)

  pub stores-done : list_any is_too_deep objects ≡ false → (slots : List Slot) → PutsAll old.kind old.keypos old.slots objects slots → object_count slots ≤ old.limit → InsertsWithinLimit done objects old (Ok done) (record old { slots = slots })
  stores-done shallow slots p few =
      room_at (list_any is_too_deep objects) _ _ shallow (slots, p, room_at (nat_lt old.limit (object_count slots)) _ _ (not-above old.limit (object_count slots) few) (refl, refl))

  pub stores-full : list_any is_too_deep objects ≡ false → (slots : List Slot) → PutsAll old.kind old.keypos old.slots objects slots → old.limit < object_count slots → InsertsWithinLimit done objects old (Err SystemLimit) old
  stores-full shallow slots p many =
      room_at (list_any is_too_deep objects) _ _ shallow (slots, p, full_at (nat_lt old.limit (object_count slots)) _ _ (above old.limit (object_count slots) many) (refl, refl))

  -- or none is inserted
  pub stores-refused : list_any is_too_deep objects ≡ false → (e : Refusal) (slots : List Slot) → PutsEach old.limit old.kind old.keypos objects old.slots (Err e) slots → RefinesChange (InsertsWithinLimit done objects old) old (Err e) (record old { slots = slots })
  stores-refused shallow Badarg slots p = absurd p
  stores-refused shallow SystemLimit slots p =
      subst (λ (l : List Slot). InsertsWithinLimit done objects old (Err SystemLimit) (record old { slots = l })) (sym p.0) (stores-full shallow p.1.0 p.1.1 p.1.2)
  stores-refused shallow Memory slots p = ap (λ (l : List Slot). let c : Content = record old { slots = l } in c) p

module _ (objects : List Term) (old : Content) where
  -- insert of a list of objects inserts it within the limit
  pub inserts : list_all (is_object old.keypos) objects ≡ true → (r : Result (Unit {0}) Refusal) (new : Content) → RefinesChange (InsertsWithinLimit tt objects old) old r new → RefinesChange (Inserts objects old) old r new
  inserts are (Ok x) new h = full_at (list_all (is_object old.keypos) objects) _ _ are h
  inserts are (Err Badarg) new h = full_at (list_all (is_object old.keypos) objects) _ _ are h
  inserts are (Err SystemLimit) new h = full_at (list_all (is_object old.keypos) objects) _ _ are h
  inserts are (Err Memory) new h = h

  pub inserts-badarg : list_all (is_object old.keypos) objects ≡ false → Inserts objects old (Err Badarg) old
  inserts-badarg none = room_at (list_all (is_object old.keypos) objects) _ _ none (refl, refl)

  pub new-badarg : list_all (is_object old.keypos) objects ≡ false → InsertsNew objects old (Err Badarg) old
  new-badarg none = room_at (list_all (is_object old.keypos) objects) _ _ none (refl, refl)

  pub new-taken : list_all (is_object old.keypos) objects ≡ true → list_any (is_taken old.keypos old.slots) objects ≡ true → InsertsNew objects old (Ok false) old
  new-taken are taken = full_at (list_all (is_object old.keypos) objects) _ _ are (full_at (list_any (is_taken old.keypos old.slots) objects) _ _ taken (refl, refl))

  pub new-stores : list_all (is_object old.keypos) objects ≡ true → list_any (is_taken old.keypos old.slots) objects ≡ false → (r : Result Bool Refusal) (new : Content) → RefinesChange (InsertsWithinLimit true objects old) old r new → RefinesChange (InsertsNew objects old) old r new
  new-stores are free (Ok x) new h = full_at (list_all (is_object old.keypos) objects) _ _ are (room_at (list_any (is_taken old.keypos old.slots) objects) _ _ free h)
  new-stores are free (Err Badarg) new h = full_at (list_all (is_object old.keypos) objects) _ _ are (room_at (list_any (is_taken old.keypos old.slots) objects) _ _ free h)
  new-stores are free (Err SystemLimit) new h = full_at (list_all (is_object old.keypos) objects) _ _ are (room_at (list_any (is_taken old.keypos old.slots) objects) _ _ free h)
  new-stores are free (Err Memory) new h = h

-- a single object is inserted, or it is refused
module _ (object key : Term) (old : Content) (its : key_of old.keypos object ≡ Some key) (shallow : is_too_deep object ≡ false) where
  only-object : list_all (is_object old.keypos) (object ∷ []) ≡ true
  only-object = ap (λ (k : Option Term). is_some k && true) its

  none-deep : list_any is_too_deep (object ∷ []) ≡ false
  none-deep = ap (λ (b : Bool). b || false) shallow

  pub one-inserted : (count : ℕ) (slots : List Slot) → PutsEach old.limit old.kind old.keypos (object ∷ []) old.slots (Ok count) slots → Inserts (object ∷ []) old (Ok tt) (record old { slots = slots })
  one-inserted count slots p =
      inserts (object ∷ []) old only-object (Ok tt) (record old { slots = slots })
      (stores-done tt (object ∷ []) old none-deep slots p.0 (subst (λ n. n ≤ old.limit) p.1 p.2))

  pub one-not-inserted : (e : Refusal) (slots : List Slot) → PutsEach old.limit old.kind old.keypos (object ∷ []) old.slots (Err e) slots → RefinesChange (Inserts (object ∷ []) old) old (Err e) (record old { slots = slots })
  one-not-inserted e slots p =
      inserts (object ∷ []) old only-object (Err e) (record old { slots = slots }) (stores-refused tt (object ∷ []) old none-deep e slots p)
