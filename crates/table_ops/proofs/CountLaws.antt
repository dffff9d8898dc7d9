-- The number of objects after each change of slots.
use Rattle.std.proofs.Common.{◌≡◌, ◌+◌, ◌≤◌, Bool, true, false, cond, List, [], ◌∷◌, ◌++◌, Option, None, Some, unwrap_or, refl, sym, ap, length, arith}
use Rattle.std.proofs.lemmas.List.{append-nil}
use Rattle.std.specs.Prelude.{MatchOption}
use Rattle.std.specs.Map.{lookup, set_value, remove_entry}
use Rattle.ets_term.specs.declared.term.Term.{Term}
use Rattle.ets_term.specs.Order.{same}
use Rattle.bucket_table.specs.Slots.{Slot, objects_of, with_objects, without_tombstones, has_objects, object_count, Enters}
use Rattle.table_ops.specs.Content.{objects_under}
use Rattle.table_ops.specs.Put.{SetsObjects}

module _ (k : Term → Bool) where
  set_at : (b : Bool) (s : Slot) (ss : List Slot) (c w : List Term) → cond b (Some s.1) (lookup k ss) ≡ Some c → (lookup k ss ≡ Some c → object_count (set_value k ss w) + length c ≡ object_count ss + length w)
      → object_count (cond b ((s.0, w) ∷ ss) (s ∷ set_value k ss w)) + length c ≡ object_count (s ∷ ss) + length w
  set_at true s ss c w h ih = let e : s.1 ≡ c = cc in omega (arith, ap length e)
  set_at false s ss c w h ih = omega (arith, ih h)

  pub count-set : (ss : List Slot) (c w : List Term) → lookup k ss ≡ Some c → object_count (set_value k ss w) + length c ≡ object_count ss + length w
  count-set [] c w h = cc
  count-set (s ∷ ss) c w h = set_at (k s.0) s ss c w h (count-set ss c w)

  gone_at : (b : Bool) (s : Slot) (ss : List Slot) (c : List Term) → cond b (Some s.1) (lookup k ss) ≡ Some c → (lookup k ss ≡ Some c → object_count (remove_entry k ss) + length c ≡ object_count ss) → object_count (cond b ss (s ∷ remove_entry k ss)) + length c ≡ length s.1 + object_count ss
  gone_at true s ss c h ih = let e : s.1 ≡ c = cc in omega (arith, ap length e)
  gone_at false s ss c h ih = omega (arith, ih h)

  pub count-removed : (ss : List Slot) (c : List Term) → lookup k ss ≡ Some c → object_count (remove_entry k ss) + length c ≡ object_count ss
  count-removed [] c h = cc
  count-removed (s ∷ ss) c h = gone_at (k s.0) s ss c h (count-removed ss c)

purge_at : (s : Slot) (ss : List Slot) (os : List Term) → s.1 ≡ os → object_count (without_tombstones ss) ≡ object_count ss → object_count (cond (has_objects os) (s ∷ without_tombstones ss) (without_tombstones ss)) ≡ object_count (s ∷ ss)
purge_at s ss [] e ih = omega (arith, ap length e, ih)
purge_at s ss (o ∷ os) e ih = omega (arith, ih)

pub count-purged : (ss : List Slot) → object_count (without_tombstones ss) ≡ object_count ss
count-purged [] = refl
count-purged (s ∷ ss) = purge_at s ss s.1 refl (count-purged ss)

count-between : (front back : List Slot) (key : Term) (objects : List Term) → object_count (front ++ (key, objects) ∷ back) ≡ object_count (front ++ back) + length objects
count-between [] back key objects = omega arith
count-between (s ∷ front) back key objects = omega (arith, count-between front back key objects)

pub count-enters : (old new : List Slot) (key : Term) (objects : List Term) → Enters old key objects new → object_count new ≡ object_count old + length objects
count-enters old new key objects w = omega (arith, ap object_count w.after, ap object_count w.before, count-between w.front w.back key objects)

-- the number of objects before and after the objects of a key are set
writes_at : (o : Option (List Term)) (old new : List Slot) (key : Term) (objects : List Term) → objects_of old key ≡ o → MatchOption o (Enters old key objects new) (λ _. new ≡ with_objects old key objects)
    → object_count new + length (unwrap_or o []) ≡ object_count old + length objects
writes_at None old new key objects e w = omega (arith, count-enters old new key objects w)
writes_at (Some c) old new key objects e w = rw w (count-set (same key) old c objects e)

pub count-writes : (old new : List Slot) (key : Term) (objects : List Term) → SetsObjects old key objects new → object_count new + length (objects_under old key) ≡ object_count old + length objects
count-writes old new key objects w = writes_at (objects_of old key) old new key objects refl w

written_at : (o : Option (List Term)) (old : List Slot) (key : Term) (objects : List Term) → (new : List Slot) × MatchOption o (Enters old key objects new) (λ _. new ≡ with_objects old key objects)
written_at None old key objects = (old ++ (key, objects) ∷ [], record { front = old; back = []; before = sym (append-nil old); after = refl })
written_at (Some c) old key objects = (with_objects old key objects, refl)

-- the objects of a key can always be set
pub written : (old : List Slot) (key : Term) (objects : List Term) → (new : List Slot) × SetsObjects old key objects new
written old key objects = written_at (objects_of old key) old key objects

-- a key has at most as many objects as the table
pub within : (slots : List Slot) (key : Term) → length (objects_under slots key) ≤ object_count slots
within slots key = let w = written slots key [] in omega (arith, count-writes slots w.0 key [] w.1)

pub ruleset counts = (count-set, count-removed, count-purged)
