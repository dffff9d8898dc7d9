-- To read, set and remove the slot of a key.
use Rattle.std.proofs.Common.{◌≡◌, Bool, true, false, cond, List, [], ◌∷◌, ◌++◌, None, Some, refl, sym, ap, ◌∙◌}
use Rattle.std.specs.Map.{lookup, set_value, remove_entry}
use Rattle.ets_term.specs.declared.term.Term.{Term}
use Rattle.ets_term.specs.Order.{same}
use Rattle.ets_term.specs.laws.Same.{same-refl}
use Rattle.bucket_table.specs.Slots.{Slot, objects_of, Enters}
use Rattle.bucket_table.specs.Rows.{without}

module _ {K X : Type 0} (t : K → Bool) where
  twice_at : (b : Bool) (e : K × X) (es : List (K × X)) (v w : X) → set_value t (set_value t es v) w ≡ set_value t es w → t e.0 ≡ b → set_value t (cond b ((e.0, v) ∷ es) (e ∷ set_value t es v)) w ≡ cond b ((e.0, w) ∷ es) (e ∷ set_value t es w)
  twice_at true e es v w ih at = rw at
  twice_at false e es v w ih at = rw at (ap (λ l. e ∷ l) ih)

  pub set_value-twice : (es : List (K × X)) (v w : X) → set_value t (set_value t es v) w ≡ set_value t es w
  set_value-twice [] v w = refl
  set_value-twice (e ∷ es) v w = twice_at (t e.0) e es v w (set_value-twice es v w) refl

  same_at : (b : Bool) (e : K × X) (es : List (K × X)) (v : X) → (lookup t es ≡ Some v → set_value t es v ≡ es) → cond b (Some e.1) (lookup t es) ≡ Some v → cond b ((e.0, v) ∷ es) (e ∷ set_value t es v) ≡ e ∷ es
  same_at true e es v ih h = let e1 : e.1 ≡ v = cc in λ i. (e.0, sym e1 i) ∷ es
  same_at false e es v ih h = ap (λ l. e ∷ l) (ih h)

  pub set_value-same : (es : List (K × X)) (v : X) → lookup t es ≡ Some v → set_value t es v ≡ es
  set_value-same [] v h = cc
  set_value-same (e ∷ es) v h = same_at (t e.0) e es v (set_value-same es v) h

  read_at : (b : Bool) (e : K × X) (es : List (K × X)) (v w : X) → (lookup t es ≡ Some v → lookup t (set_value t es w) ≡ Some w) → t e.0 ≡ b → cond b (Some e.1) (lookup t es) ≡ Some v → lookup t (cond b ((e.0, w) ∷ es) (e ∷ set_value t es w)) ≡ Some w
  read_at true e es v w ih at h = rw at
  read_at false e es v w ih at h = rw at (ih h)

  pub lookup-set_value : (es : List (K × X)) (v w : X) → lookup t es ≡ Some v → lookup t (set_value t es w) ≡ Some w
  lookup-set_value [] v w h = cc
  lookup-set_value (e ∷ es) v w h = read_at (t e.0) e es v w (lookup-set_value es v w) refl h

  absent_at : (b : Bool) (e : K × X) (es : List (K × X)) (w : X) → cond b (Some e.1) (lookup t es) ≡ None → (lookup t es ≡ None → set_value t es w ≡ es) → cond b ((e.0, w) ∷ es) (e ∷ set_value t es w) ≡ e ∷ es
  absent_at true e es w p ih = cc
  absent_at false e es w p ih = ap (λ l. e ∷ l) (ih p)

  pub set_value-absent : (es : List (K × X)) (w : X) → lookup t es ≡ None → set_value t es w ≡ es
  set_value-absent [] w h = refl
  set_value-absent (e ∷ es) w h = absent_at (t e.0) e es w h (set_value-absent es w)

  none_at : (b : Bool) (e : K × X) (es : List (K × X)) → cond b (Some e.1) (lookup t es) ≡ None → (lookup t es ≡ None → remove_entry t es ≡ es) → cond b es (e ∷ remove_entry t es) ≡ e ∷ es
  none_at true e es h ih = cc
  none_at false e es h ih = ap (λ l. e ∷ l) (ih h)

  pub remove_entry-absent : (es : List (K × X)) → lookup t es ≡ None → remove_entry t es ≡ es
  remove_entry-absent [] h = refl
  remove_entry-absent (e ∷ es) h = none_at (t e.0) e es h (remove_entry-absent es)

  gone_at : (b : Bool) (e : K × X) (f r : List (K × X)) → cond b (Some e.1) (lookup t (f ++ r)) ≡ None → (k : K) (c : X) → (lookup t (f ++ r) ≡ None → remove_entry t (f ++ (k, c) ∷ r) ≡ f ++ r) → cond b (f ++ (k, c) ∷ r) (e ∷ remove_entry t (f ++ (k, c) ∷ r)) ≡ e ∷ f ++ r
  gone_at true e f r p k c ih = cc
  gone_at false e f r p k c ih = ap (λ l. e ∷ l) (ih p)

  pub remove_entry-added : (f r : List (K × X)) (k : K) (c : X) → t k ≡ true → lookup t (f ++ r) ≡ None → remove_entry t (f ++ (k, c) ∷ r) ≡ f ++ r
  remove_entry-added [] r k c here h = rw here
  remove_entry-added (e ∷ f) r k c here h = gone_at (t e.0) e f r h k c (remove_entry-added f r k c here)

  remove_set_at : (b : Bool) (e : K × X) (es : List (K × X)) (v : X) → remove_entry t (set_value t es v) ≡ remove_entry t es → t e.0 ≡ b → remove_entry t (cond b ((e.0, v) ∷ es) (e ∷ set_value t es v)) ≡ cond b es (e ∷ remove_entry t es)
  remove_set_at true e es v ih at = rw at
  remove_set_at false e es v ih at = rw at (ap (λ l. e ∷ l) ih)

  pub remove_entry-set_value : (es : List (K × X)) (v : X) → remove_entry t (set_value t es v) ≡ remove_entry t es
  remove_entry-set_value [] v = refl
  remove_entry-set_value (e ∷ es) v = remove_set_at (t e.0) e es v (remove_entry-set_value es v) refl

-- to insert and then remove a slot restores the slots
pub without-Enters : (old new : List Slot) (k : Term) (c : List Term) → Enters old k c new → objects_of old k ≡ None → without new k ≡ old
without-Enters old new k c a h =
    ap (remove_entry (same k)) a.after
    ∙ remove_entry-added (same k) a.front a.back k c (same-refl k) (ap (lookup (same k)) (sym a.before) ∙ h)
    ∙ sym a.before

pub ruleset slot_laws = (set_value-twice, set_value-same, lookup-set_value, set_value-absent, remove_entry-absent, without-Enters)
