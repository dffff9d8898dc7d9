-- The keys of slots after changes: those before, and those of new objects.
use Rattle.std.proofs.Common.{◌≡◌, ℕ, Bool, true, false, ◌||◌, not, cond, List, [], ◌∷◌, ◌++◌, Option, None, Some, sym, subst}
use Rattle.std.specs.Prelude.{MatchOption}
use Rattle.std.specs.List.{AllByRecursion}
use Rattle.ets_term.specs.declared.term.Term.{Term}
use Rattle.ets_term.specs.Order.{same}
use Rattle.bucket_table.specs.Slots.{Slot, Enters, objects_of, with_objects, has_objects}
use Rattle.table_ops.specs.declared.kind.Kind.{Kind}
use Rattle.table_ops.specs.Content.{objects_under, key_of}
use Rattle.table_ops.specs.Drop.{Which, objects_left, after_drop}
use Rattle.table_ops.specs.Put.{add, SetsObjects, PutsAll}

module _ (Q : Term → Type 0) where
  -- it holds of the key of each slot
  abbrev pub HasKeys : List Slot → Type 0
  HasKeys slots = AllByRecursion (λ slot. Q slot.0) slots

  either-has : (b : Bool) (xs ys : List Slot) → HasKeys xs → HasKeys ys → HasKeys (cond b xs ys)
  either-has true xs ys h k = h
  either-has false xs ys h k = k

  set-has : (slots : List Slot) (key : Term) (os : List Term) → HasKeys slots → HasKeys (with_objects slots key os)
  set-has [] key os h = tt
  set-has (s ∷ ss) key os h =
      either-has (same key s.0) ((s.0, os) ∷ ss) (s ∷ with_objects ss key os) h (h.0, set-has ss key os h.1)

  between : (front back : List Slot) (s : Slot) → Q s.0 → HasKeys (front ++ back) → HasKeys (front ++ s ∷ back)
  between [] back s own h = (own, h)
  between (f ∷ front) back s own h = (h.0, between front back s own h.1)

  sets-at : (o : Option (List Term)) (old new : List Slot) (key : Term) (os : List Term) → Q key → HasKeys old
      → MatchOption o (Enters old key os new) (λ _. new ≡ with_objects old key os) → HasKeys new
  sets-at None old new key os own h e = subst HasKeys (sym e.after) (between e.front e.back (key, os) own (subst HasKeys e.before h))
  sets-at (Some was) old new key os own h e = subst HasKeys (sym e) (set-has old key os h)

  pub sets-have : (old new : List Slot) (key : Term) (os : List Term) → Q key → HasKeys old → SetsObjects old key os new → HasKeys new
  sets-have old new key os own h e = sets-at (objects_of old key) old new key os own h e

  pub replaced-has : (old : List Slot) (key : Term) (os : List Term) → HasKeys old → HasKeys (with_objects old key os)
  replaced-has = set-has

  pub all-have : (kind : Kind) (keypos : ℕ) (objects : List Term) (old new : List Slot)
      → AllByRecursion (λ object. (key : Term) → key_of keypos object ≡ Some key → Q key) objects → HasKeys old → PutsAll kind keypos old objects new → HasKeys new
  all-have kind keypos [] old new own h e = subst HasKeys (sym e) h
  all-have kind keypos (object ∷ objects) old new own h e =
      all-have kind keypos objects e.2.0 new own.1 (sets-have old e.2.0 e.0 (add kind (objects_under old e.0) object) (own.0 e.0 e.1) h e.2.1) e.2.2

  pub dropped-has : (hold : Bool) (which : Which) (slots : List Slot) → HasKeys slots → HasKeys (after_drop hold which slots)
  dropped-has hold which [] h = tt
  dropped-has hold which (s ∷ ss) h =
      let rest = dropped-has hold which ss h.1 in
      either-has (hold || has_objects (objects_left which s) || not (has_objects s.1)) ((s.0, objects_left which s) ∷ after_drop hold which ss) (after_drop hold which ss) (h.0, rest) rest
