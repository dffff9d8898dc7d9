-- What calls on a key read and leave of slots, with slots without this key before and after them.
use Rattle.std.proofs.Common.{◌≡◌, ℕ, ◌+◌, Bool, true, false, ◌||◌, not, cond, List, [], ◌∷◌, ◌++◌, Option, None, Some, unwrap_or, refl, sym, ap, subst, ◌∙◌, append_assoc, arith}
use Rattle.std.specs.Prelude.{MatchOption}
use Rattle.std.specs.List.{AllByRecursion}
use Rattle.ets_term.specs.declared.term.Term.{Term}
use Rattle.ets_term.specs.Order.{same}
use Rattle.bucket_table.specs.Slots.{Slot, Enters, objects_of, with_objects, has_objects, object_count}
use Rattle.table_ops.specs.declared.kind.Kind.{Kind}
use Rattle.table_ops.specs.Content.{objects_under, key_of, is_present}
use Rattle.table_ops.specs.Drop.{Which, objects_left, after_drop}
use Rattle.table_ops.specs.Put.{add, SetsObjects, Puts, PutsAll}
use Rattle.table_ops.proofs.DropLaws.{KeepsOthers, none-dropped}
use Rattle.table_ops.proofs.SlotLaws.{set_value-absent}

-- ---- slots before these
passed : {X : Type 0} (b : Bool) (x : X) (o p q : Option X) → cond b (Some x) o ≡ None → (o ≡ None → p ≡ q) → cond b (Some x) p ≡ q
passed true x o p q h k = cc
passed false x o p q h k = k h

objects-behind : (front rest : List Slot) (key : Term) → objects_of front key ≡ None → objects_of (front ++ rest) key ≡ objects_of rest key
objects-behind [] rest key h = refl
objects-behind (s ∷ front) rest key h =
    passed (same key s.0) s.1 (objects_of front key) (objects_of (front ++ rest) key) (objects_of rest key) h (objects-behind front rest key)

unset : (b : Bool) (s : Slot) (os : List Term) (o : Option (List Term)) (xs ys zs : List Slot) → cond b (Some s.1) o ≡ None → (o ≡ None → ys ≡ zs) → cond b ((s.0, os) ∷ xs) (s ∷ ys) ≡ s ∷ zs
unset true s os o xs ys zs h k = cc
unset false s os o xs ys zs h k = ap (λ l. s ∷ l) (k h)

set-behind : (front rest : List Slot) (key : Term) (os : List Term) → objects_of front key ≡ None → with_objects (front ++ rest) key os ≡ front ++ with_objects rest key os
set-behind [] rest key os h = refl
set-behind (s ∷ front) rest key os h =
    unset (same key s.0) s os (objects_of front key) (front ++ rest) (with_objects (front ++ rest) key os) (front ++ with_objects rest key os) h (set-behind front rest key os)

-- ---- slots after these
objects-before : (mine back : List Slot) (key : Term) → objects_of back key ≡ None → objects_of (mine ++ back) key ≡ objects_of mine key
objects-before [] back key h = h
objects-before (s ∷ mine) back key h = ap (cond (same key s.0) (Some s.1)) (objects-before mine back key h)

set-at : (b : Bool) (s : Slot) (os : List Term) (xs ys zs back : List Slot) → ys ≡ zs ++ back → cond b ((s.0, os) ∷ (xs ++ back)) (s ∷ ys) ≡ cond b ((s.0, os) ∷ xs) (s ∷ zs) ++ back
set-at true s os xs ys zs back e = refl
set-at false s os xs ys zs back e = ap (λ l. s ∷ l) e

set-before : (mine back : List Slot) (key : Term) (os : List Term) → objects_of back key ≡ None → with_objects (mine ++ back) key os ≡ with_objects mine key os ++ back
set-before [] back key os h = set_value-absent (same key) back os h
set-before (s ∷ mine) back key os h =
    set-at (same key s.0) s os mine (with_objects (mine ++ back) key os) (with_objects mine key os) back (set-before mine back key os h)

dropped-parts : (hold : Bool) (which : Which) (xs ys : List Slot) → after_drop hold which (xs ++ ys) ≡ after_drop hold which xs ++ after_drop hold which ys
dropped-parts hold which [] ys = refl
dropped-parts hold which (s ∷ xs) ys =
    dropped-at (hold || has_objects (objects_left which s) || not (has_objects s.1)) (s.0, objects_left which s) (after_drop hold which (xs ++ ys)) (after_drop hold which xs) (after_drop hold which ys) (dropped-parts hold which xs ys)
  where
    dropped-at : (b : Bool) (s : Slot) (l xs ys : List Slot) → l ≡ xs ++ ys → cond b (s ∷ l) l ≡ cond b (s ∷ xs) xs ++ ys
    dropped-at true s l xs ys e = ap (λ l. s ∷ l) e
    dropped-at false s l xs ys e = e

pub count-parts : (xs ys : List Slot) → object_count (xs ++ ys) ≡ object_count xs + object_count ys
count-parts [] ys = omega arith
count-parts (x ∷ xs) ys = omega (arith, count-parts xs ys)

module _ (front back : List Slot) where
  -- these slots, between the others
  abbrev pub around : List Slot → List Slot
  around mine = front ++ (mine ++ back)

  -- the others have no slot of this key
  pub record IsApart (key : Term) : Type 0 where
    pub before : objects_of front key ≡ None
    pub behind : objects_of back key ≡ None

  pub count-around : (mine : List Slot) → object_count (around mine) ≡ object_count front + (object_count mine + object_count back)
  count-around mine = omega (arith, count-parts front (mine ++ back), count-parts mine back)

  pub enters-around : (mine next : List Slot) (key : Term) (os : List Term) → Enters mine key os next → Enters (around mine) key os (around next)
  enters-around mine next key os e = record {
    front = front ++ e.front;
    back = e.back ++ back;
    before = ap around e.before ∙ simp append_assoc;
    after = ap around e.after ∙ simp append_assoc;
  }

  module _ (key : Term) (apart : IsApart key) where
    pub objects-around : (mine : List Slot) → objects_of (around mine) key ≡ objects_of mine key
    objects-around mine = objects-behind front (mine ++ back) key apart.before ∙ objects-before mine back key apart.behind

    pub under-around : (mine : List Slot) → objects_under (around mine) key ≡ objects_under mine key
    under-around mine = ap (λ o. unwrap_or o []) (objects-around mine)

    pub present-around : (mine : List Slot) → is_present (around mine) key ≡ is_present mine key
    present-around mine = ap has_objects (under-around mine)

    pub set-around : (mine : List Slot) (os : List Term) → with_objects (around mine) key os ≡ around (with_objects mine key os)
    set-around mine os = set-behind front (mine ++ back) key os apart.before ∙ ap (λ l. front ++ l) (set-before mine back key os apart.behind)

    sets-at : (o : Option (List Term)) (mine next : List Slot) (os : List Term) → MatchOption o (Enters mine key os next) (λ _. next ≡ with_objects mine key os)
        → MatchOption o (Enters (around mine) key os (around next)) (λ _. around next ≡ with_objects (around mine) key os)
    sets-at None mine next os h = enters-around mine next key os h
    sets-at (Some was) mine next os h = ap around h ∙ sym (set-around mine os)

    pub sets-around : (mine next : List Slot) (os : List Term) → SetsObjects mine key os next → SetsObjects (around mine) key os (around next)
    sets-around mine next os h =
        subst (λ o. MatchOption o (Enters (around mine) key os (around next)) (λ _. around next ≡ with_objects (around mine) key os)) (sym (objects-around mine))
        (sets-at (objects_of mine key) mine next os h)

    pub puts-around : (kind : Kind) (mine next : List Slot) (object : Term) → Puts kind mine key object next → Puts kind (around mine) key object (around next)
    puts-around kind mine next object h =
        subst (λ os. SetsObjects (around mine) key (add kind os object) (around next)) (sym (under-around mine)) (sets-around mine next (add kind (objects_under mine key) object) h)

    -- these objects go, all of this key
    pub dropped-around : (hold : Bool) (which : Which) (mine : List Slot) → KeepsOthers which key front → KeepsOthers which key back
        → after_drop hold which (around mine) ≡ around (after_drop hold which mine)
    dropped-around hold which mine before behind =
        dropped-parts hold which front (mine ++ back)
        ∙ (ap (λ l. l ++ after_drop hold which (mine ++ back)) (none-dropped hold which front key before apart.before)
        ∙ ap (λ l. front ++ l) (dropped-parts hold which mine back ∙ ap (λ l. after_drop hold which mine ++ l) (none-dropped hold which back key behind apart.behind)))

  -- the others have no slot of the key of any of these objects
  abbrev pub AreApart : ℕ → List Term → Type 0
  AreApart keypos objects = AllByRecursion (λ object. (key : Term) → key_of keypos object ≡ Some key → IsApart key) objects

  pub all-around : (kind : Kind) (keypos : ℕ) (objects : List Term) (mine next : List Slot) → AreApart keypos objects → PutsAll kind keypos mine objects next → PutsAll kind keypos (around mine) objects (around next)
  all-around kind keypos [] mine next apart h = ap around h
  all-around kind keypos (object ∷ objects) mine next apart h =
      (h.0, h.1, (around h.2.0, puts-around h.0 (apart.0 h.0 h.1) kind mine h.2.0 object h.2.1, all-around kind keypos objects h.2.0 next apart.1 h.2.2))
