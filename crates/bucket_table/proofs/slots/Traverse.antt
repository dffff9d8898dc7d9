-- The slots after a slot, among slots with distinct keys.
use Rattle.std.proofs.Common.{◌≡◌, ◌≢◌, Bool, true, false, cond, List, [], ◌∷◌, Option, None, Some, IsSome, is_some, refl, sym, ap, subst, ◌∙◌, true≢false}
use Rattle.std.specs.List.{IsDistinct, AllByRecursion}
use Rattle.std.specs.Map.{keys_of}
use Rattle.ets_term.specs.declared.term.Term.{Term}
use Rattle.ets_term.specs.Order.{same}
use Rattle.ets_term.specs.laws.Same.{same-exact, same-refl}
use Rattle.bucket_table.specs.Slots.{Slot, objects_of, with_objects, slots_behind}
use Rattle.bucket_table.specs.Rows.{HasDistinctKeys, without}
use Rattle.bucket_table.specs.Walks.{ComesBefore}

-- Slots of other keys are not the slot of a key.
pub none-apart : (key : Term) (ss : List Slot) → AllByRecursion (λ other. same key other ≡ false) (keys_of ss) → objects_of ss key ≡ None
none-apart key [] a = refl
none-apart key (s ∷ ss) a = ap (λ (b : Bool). cond b (Some s.1) (objects_of ss key)) a.0 ∙ none-apart key ss a.1

-- The slots after that of a key.
pub record IsRest (key : Term) (rest : List Slot) : Type 0 where
  pub gone : objects_of rest key ≡ None
  pub distinct : HasDistinctKeys rest

rest-here : (key : Term) (s : Slot) (ss : List Slot) → HasDistinctKeys (s ∷ ss) → same key s.0 ≡ true → IsRest key ss
unfolding IsDistinct
rest-here key s ss d e = record {
  gone = ap (objects_of ss) (same-exact key s.0 e) ∙ none-apart s.0 ss d.0;
  distinct = d.1;
}

rest-on : (key : Term) (s : Slot) (ss rest : List Slot) (b : Bool) → same key s.0 ≡ b → HasDistinctKeys (s ∷ ss) → cond b (Some ss) (slots_behind ss key) ≡ Some rest → (HasDistinctKeys ss → slots_behind ss key ≡ Some rest → IsRest key rest) → IsRest key rest
unfolding IsDistinct
rest-on key s ss rest true e d h ih = let is : ss ≡ rest = cc in subst (IsRest key) is (rest-here key s ss d e)
rest-on key s ss rest false e d h ih = ih d.1 h

pub rest-of : (key : Term) (ss rest : List Slot) → HasDistinctKeys ss → slots_behind ss key ≡ Some rest → IsRest key rest
rest-of key [] rest d h = absurd (cc)
rest-of key (s ∷ ss) rest d h = rest-on key s ss rest (same key s.0) refl d h (rest-of key ss rest)

-- A key comes before other keys only.
pub before-other : (ss : List Slot) (first second : Term) → HasDistinctKeys ss → ComesBefore ss first second → first ≢ second
before-other ss first second d b e =
    let none : objects_of b.rest second ≡ None = ap (objects_of b.rest) (sym e) ∙ (rest-of first ss b.rest d b.is).gone in
    true≢false (sym b.has ∙ ap is_some none)

-- ---- the first slot after another

-- This slot is among these, directly before the rest.
pub record IsOneOf (ss : List Slot) (s : Slot) (rest : List Slot) : Type 0 where
  pub behind : slots_behind ss s.0 ≡ Some rest
  pub objects : objects_of ss s.0 ≡ Some s.1

pub first-one : (s : Slot) (rest : List Slot) → IsOneOf (s ∷ rest) s rest
first-one s rest = record {
  behind = ap (λ (b : Bool). cond b (Some rest) (slots_behind rest s.0)) (same-refl s.0);
  objects = ap (λ (b : Bool). cond b (Some s.1) (objects_of rest s.0)) (same-refl s.0);
}

other-key : (key : Term) (x : Slot) (ss : List Slot) (v : List Term) (b : Bool) → same key x.0 ≡ b → HasDistinctKeys (x ∷ ss) → objects_of ss key ≡ Some v → b ≡ false
unfolding IsDistinct
other-key key x ss v true e d h = let none : objects_of ss key ≡ None = (rest-here key x ss d e).gone in absurd (cc)
other-key key x ss v false e d h = refl

one-on : (x s : Slot) (ss rest : List Slot) → HasDistinctKeys (x ∷ ss) → IsOneOf ss s rest → IsOneOf (x ∷ ss) s rest
one-on x s ss rest d one =
    let miss : same s.0 x.0 ≡ false = other-key s.0 x ss s.1 (same s.0 x.0) refl d one.objects in
    record {
      behind = ap (λ (b : Bool). cond b (Some ss) (slots_behind ss s.0)) miss ∙ one.behind;
      objects = ap (λ (b : Bool). cond b (Some x.1) (objects_of ss s.0)) miss ∙ one.objects;
    }

next-on : (key : Term) (x s : Slot) (ss rest : List Slot) (b : Bool) → HasDistinctKeys (x ∷ ss) → cond b (Some ss) (slots_behind ss key) ≡ Some (s ∷ rest) → (HasDistinctKeys ss → slots_behind ss key ≡ Some (s ∷ rest) → IsOneOf ss s rest) → IsOneOf ss s rest
unfolding IsDistinct
next-on key x s ss rest true d h ih = let is : s ∷ rest ≡ ss = cc in subst (λ l. IsOneOf l s rest) is (first-one s rest)
next-on key x s ss rest false d h ih = ih d.1 h

pub next-one : (key : Term) (ss : List Slot) (s : Slot) (rest : List Slot) → HasDistinctKeys ss → slots_behind ss key ≡ Some (s ∷ rest) → IsOneOf ss s rest
next-one key [] s rest d h = absurd (cc)
next-one key (x ∷ ss) s rest d h = one-on x s ss rest d (next-on key x s ss rest (same key x.0) d h (next-one key ss s rest))

-- ---- the order of slots after changes

not-same : (a b : Term) (t : Bool) → same a b ≡ t → a ≢ b → t ≡ false
not-same a b true e n = absurd (n (same-exact a b e))
not-same a b false e n = refl

objects-on : (key other : Term) (x : Slot) (ss : List Slot) (b : Bool) → same key x.0 ≡ b → other ≢ key → objects_of (without ss key) other ≡ objects_of ss other → objects_of (cond b ss (x ∷ without ss key)) other ≡ objects_of (x ∷ ss) other
objects-on key other x ss true e n ih =
    let is : key ≡ x.0 = same-exact key x.0 e in
    let miss : same other x.0 ≡ false = not-same other x.0 (same other x.0) refl (λ same'. n (same' ∙ sym is)) in
    sym (ap (λ (b : Bool). cond b (Some x.1) (objects_of ss other)) miss)
objects-on key other x ss false e n ih = ap (λ (o : Option (List Term)). cond (same other x.0) (Some x.1) o) ih

-- The removal of a slot keeps all others.
pub objects-without : (key other : Term) (ss : List Slot) → other ≢ key → objects_of (without ss key) other ≡ objects_of ss other
objects-without key other [] n = refl
objects-without key other (x ∷ ss) n = objects-on key other x ss (same key x.0) refl n (objects-without key other ss n)

before-here : (key first second : Term) (x : Slot) (ss : List Slot) (b : Bool) → same key x.0 ≡ b → same first x.0 ≡ true → IsSome (objects_of ss second) → first ≢ key → second ≢ key → ComesBefore (cond b ss (x ∷ without ss key)) first second
before-here key first second x ss true e f h n m = absurd (n (same-exact first x.0 f ∙ sym (same-exact key x.0 e)))
before-here key first second x ss false e f h n m = record {
  rest = without ss key;
  is = ap (λ (b : Bool). cond b (Some (without ss key)) (slots_behind (without ss key) first)) f;
  has = ap is_some (objects-without key second ss m) ∙ h;
}

before-later : (key first second : Term) (x : Slot) (ss : List Slot) (b : Bool) → same first x.0 ≡ false → ComesBefore ss first second → ComesBefore (without ss key) first second → ComesBefore (cond b ss (x ∷ without ss key)) first second
before-later key first second x ss true f s ih = s
before-later key first second x ss false f s ih = record {
  rest = ih.rest;
  is = ap (λ (b : Bool). cond b (Some (without ss key)) (slots_behind (without ss key) first)) f ∙ ih.is;
  has = ih.has;
}

before-step : (key first second : Term) (x : Slot) (ss rest : List Slot) (b : Bool) → same first x.0 ≡ b → cond b (Some ss) (slots_behind ss first) ≡ Some rest → IsSome (objects_of rest second) → first ≢ key → second ≢ key
    → (ComesBefore ss first second → ComesBefore (without ss key) first second) → ComesBefore (without (x ∷ ss) key) first second
before-step key first second x ss rest true f h i n m ih =
    let is : rest ≡ ss = cc in
    before-here key first second x ss (same key x.0) refl f (subst (λ (l : List Slot). IsSome (objects_of l second)) is i) n m
before-step key first second x ss rest false f h i n m ih =
    let s : ComesBefore ss first second = record { rest = rest; is = h; has = i } in
    before-later key first second x ss (same key x.0) f s (ih s)

-- The removal of another slot keeps the order of two slots.
pub before-without : (key first second : Term) (ss : List Slot) → first ≢ key → second ≢ key → ComesBefore ss first second → ComesBefore (without ss key) first second
before-without key first second [] n m b = absurd (let e : None ≡ Some b.rest = b.is in cc)
before-without key first second (x ∷ ss) n m b = before-step key first second x ss b.rest (same first x.0) refl b.is b.has n m (before-without key first second ss n m)

with-on : (key first : Term) (x : Slot) (ss : List Slot) (w : List Term) (b : Bool) → slots_behind (cond b ((x.0, w) ∷ ss) (x ∷ with_objects ss key w)) first ≡ cond (same first x.0) (Some (cond b ss (with_objects ss key w))) (slots_behind (cond b ss (with_objects ss key w)) first)
with-on key first x ss w true = refl
with-on key first x ss w false = refl

has-on : (key second : Term) (x : Slot) (ss : List Slot) (w : List Term) (b c : Bool) → is_some (objects_of ss second) ≡ is_some (objects_of (with_objects ss key w) second)
    → is_some (cond c (Some x.1) (objects_of ss second)) ≡ is_some (cond c (Some (cond b w x.1)) (objects_of (cond b ss (with_objects ss key w)) second))
has-on key second x ss w true true ih = refl
has-on key second x ss w true false ih = refl
has-on key second x ss w false true ih = refl
has-on key second x ss w false false ih = ih

has-at : (key second : Term) (x : Slot) (ss : List Slot) (w : List Term) (b : Bool) → objects_of (cond b ((x.0, w) ∷ ss) (x ∷ with_objects ss key w)) second ≡ cond (same second x.0) (Some (cond b w x.1)) (objects_of (cond b ss (with_objects ss key w)) second)
has-at key second x ss w true = refl
has-at key second x ss w false = refl

-- A replacement of objects keeps the slot.
pub has-with : (key second : Term) (ss : List Slot) (w : List Term) → is_some (objects_of ss second) ≡ is_some (objects_of (with_objects ss key w) second)
has-with key second [] w = refl
has-with key second (x ∷ ss) w = has-on key second x ss w (same key x.0) (same second x.0) (has-with key second ss w) ∙ sym (ap is_some (has-at key second x ss w (same key x.0)))

with-here : (key first second : Term) (x : Slot) (ss : List Slot) (w : List Term) (b : Bool) → IsSome (objects_of ss second) → IsSome (objects_of (cond b ss (with_objects ss key w)) second)
with-here key first second x ss w true i = i
with-here key first second x ss w false i = sym (has-with key second ss w) ∙ i

with-later : (key first second : Term) (ss : List Slot) (w : List Term) (b : Bool) → ComesBefore ss first second → ComesBefore (with_objects ss key w) first second → ComesBefore (cond b ss (with_objects ss key w)) first second
with-later key first second ss w true s t = s
with-later key first second ss w false s t = t

with-step : (key first second : Term) (x : Slot) (ss rest : List Slot) (w : List Term) (b : Bool) → same first x.0 ≡ b → cond b (Some ss) (slots_behind ss first) ≡ Some rest → IsSome (objects_of rest second)
    → (ComesBefore ss first second → ComesBefore (with_objects ss key w) first second) → ComesBefore (with_objects (x ∷ ss) key w) first second
with-step key first second x ss rest w true f h i ih =
    let is : rest ≡ ss = cc in
    let now : List Slot = cond (same key x.0) ss (with_objects ss key w) in
    record {
      rest = now;
      is = with-on key first x ss w (same key x.0) ∙ ap (λ (b : Bool). cond b (Some now) (slots_behind now first)) f;
      has = with-here key first second x ss w (same key x.0) (subst (λ (l : List Slot). IsSome (objects_of l second)) is i);
    }
with-step key first second x ss rest w false f h i ih =
    let s : ComesBefore ss first second = record { rest = rest; is = h; has = i } in
    let now : List Slot = cond (same key x.0) ss (with_objects ss key w) in
    let t : ComesBefore now first second = with-later key first second ss w (same key x.0) s (ih s) in
    record {
      rest = t.rest;
      is = with-on key first x ss w (same key x.0) ∙ (ap (λ (b : Bool). cond b (Some now) (slots_behind now first)) f ∙ t.is);
      has = t.has;
    }

-- A replacement of objects keeps the order of two slots.
pub before-with : (key first second : Term) (ss : List Slot) (w : List Term) → ComesBefore ss first second → ComesBefore (with_objects ss key w) first second
before-with key first second [] w b = absurd (let e : None ≡ Some b.rest = b.is in cc)
before-with key first second (x ∷ ss) w b = with-step key first second x ss b.rest w (same first x.0) refl b.is b.has (before-with key first second ss w)

-- One row only.
pub one-distinct : (row : Slot) → HasDistinctKeys (row ∷ [])
unfolding IsDistinct
one-distinct row = (tt, tt)
