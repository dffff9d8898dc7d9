-- A key without a slot has none after the insertion of another key.
use Rattle.std.proofs.Common.{◌≡◌, refl, List, [], ◌∷◌, ◌++◌, Some, None, Bool, false, cond, sym, ◌∙◌, ap, subst}
use Rattle.std.specs.List.{IsDistinct, AllByRecursion}
use Rattle.std.specs.Map.{lookup, keys_of}
use Rattle.ets_term.specs.declared.term.Term.{Term}
use Rattle.ets_term.specs.Order.{same}
use Rattle.bucket_table.specs.Slots.{Slot, Enters, objects_of}
use Rattle.bucket_table.specs.Rows.{HasDistinctKeys, AreNew}
use Rattle.bucket_table.proofs.list.Content.{same-sym}
use Rattle.bucket_table.proofs.slots.Distinct.{first-missed}

absent-between : (other key : Term) (objects : List Term) (front back : List Slot) → lookup (same other) (front ++ back) ≡ None → same other key ≡ false → lookup (same other) (front ++ (key, objects) ∷ back) ≡ None
absent-between other key objects [] back h e = ap (λ (b : Bool). cond b (Some objects) (lookup (same other) back)) e ∙ h
absent-between other key objects (s ∷ front) back h e =
    let m = first-missed other s (front ++ back) (same other s.0) refl h in
    ap (λ (b : Bool). cond b (Some s.1) (lookup (same other) (front ++ (key, objects) ∷ back))) m.here ∙ absent-between other key objects front back m.later e

absent-entered : (old new : List Slot) (key other : Term) (objects : List Term) → Enters old key objects new → objects_of old other ≡ None → same other key ≡ false → objects_of new other ≡ None
absent-entered old new key other objects a h e =
    let P : List Slot → Type 0 = λ ss. lookup (same other) ss ≡ None in
    subst P (sym a.after) (absent-between other key objects a.front a.back (subst P a.before h) e)

pub new-still : (old new : List Slot) (key : Term) (objects : List Term) (rows : List Slot) → Enters old key objects new → AreNew old rows → AllByRecursion (λ t. same key t ≡ false) (keys_of rows) → AreNew new rows
new-still old new key objects [] a n d = tt
new-still old new key objects (row ∷ rows) a n d = (absent-entered old new key row.0 objects a n.0 (same-sym row.0 key ∙ d.0), new-still old new key objects rows a n.1 d.1)

pub distinct-rest : (row : Slot) (rows : List Slot) → HasDistinctKeys (row ∷ rows) → AllByRecursion (λ t. same row.0 t ≡ false) (keys_of rows) × HasDistinctKeys rows
unfolding IsDistinct
distinct-rest row rows d = d
