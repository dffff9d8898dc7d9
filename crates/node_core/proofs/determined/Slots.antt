-- The slots of a table in another order: what calls read of them, and what changes leave of them.
use Rattle.std.proofs.Common.{◌≡◌, ℕ, ◌+◌, Bool, true, false, ◌||◌, not, cond, List, [], ◌∷◌, Option, None, Some, unwrap_or, refl, sym, ap, subst, subst₂, ◌∙◌, length, arith}
use Rattle.std.specs.Prelude.{is_some, filter_map, MatchOption}
use Rattle.std.specs.List.{cons_option, IsDistinct}
use Rattle.std.proofs.lemmas.Map.{keys-set_value}
use Rattle.ets_term.specs.declared.term.Term.{Term}
use Rattle.ets_term.specs.Order.{same}
use Rattle.ets_term.specs.laws.Same.{same-exact}
use Rattle.bucket_table.specs.Slots.{Slot, Enters, objects_of, with_objects, has_objects, object_count, without_tombstones, slots_behind}
use Rattle.bucket_table.specs.Rows.{HasDistinctKeys}
use Rattle.bucket_table.proofs.list.Content.{same-sym}
use Rattle.bucket_table.proofs.slots.Distinct.{distinct-added}
use Rattle.table_ops.specs.Content.{objects_under, key_of}
use Rattle.table_ops.specs.Drop.{Which, objects_left, after_drop}
use Rattle.table_ops.specs.Put.{add, SetsObjects, Puts, PutsAll}
use Rattle.table_ops.specs.Read.{all_objects}
use Rattle.table_ops.specs.declared.kind.Kind.{Kind}
use Rattle.node_core.proofs.determined.Shuffles.{Shuffled, swap, keep, join, put-shuffled, filter-shuffled, flat-shuffled, found-shuffled, distinct-shuffled, lookup-shuffled, set-shuffled}
use Rattle.node_core.proofs.determined.Shuffles as shuffles

abbrev pub SameSlots : List Slot → List Slot → Type 0
SameSlots xs ys = Shuffled Slot xs ys

one-key : (key x y : Term) → same key x ≡ true → same key y ≡ true → same x y ≡ true
one-key key x y p q = subst (λ (t : Term). same t y ≡ true) (same-exact key x p) q

-- ---- reading
behind-swapped : (b c : Bool) (one other xs : List Slot) (o : Option (List Slot))
    → is_some (cond b (Some one) (cond c (Some xs) o)) ≡ is_some (cond c (Some other) (cond b (Some xs) o))
behind-swapped true true one other xs o = refl
behind-swapped true false one other xs o = refl
behind-swapped false true one other xs o = refl
behind-swapped false false one other xs o = refl

behind-kept : (b : Bool) (xs ys : List Slot) (o p : Option (List Slot)) → is_some o ≡ is_some p → is_some (cond b (Some xs) o) ≡ is_some (cond b (Some ys) p)
behind-kept true xs ys o p e = refl
behind-kept false xs ys o p e = e

-- whether a key has a slot
pub behind-same : (key : Term) (xs ys : List Slot) → SameSlots xs ys → is_some (slots_behind xs key) ≡ is_some (slots_behind ys key)
behind-same key _ _ (shuffles.same xs) = refl
behind-same key _ _ (keep x xs ys h) = behind-kept (same key x.0) xs ys (slots_behind xs key) (slots_behind ys key) (behind-same key xs ys h)
behind-same key _ _ (swap x y xs) = behind-swapped (same key x.0) (same key y.0) (y ∷ xs) (x ∷ xs) xs (slots_behind xs key)
behind-same key _ _ (join xs ys zs h k) = behind-same key xs ys h ∙ behind-same key ys zs k

pub count-same : (xs ys : List Slot) → SameSlots xs ys → object_count xs ≡ object_count ys
count-same _ _ (shuffles.same xs) = refl
count-same _ _ (keep x xs ys h) = ap (λ n. length x.1 + n) (count-same xs ys h)
count-same _ _ (swap x y xs) = omega arith
count-same _ _ (join xs ys zs h k) = count-same xs ys h ∙ count-same ys zs k

pub objects-shuffled : (xs ys : List Slot) → SameSlots xs ys → Shuffled Term (all_objects xs) (all_objects ys)
objects-shuffled xs ys h = flat-shuffled (λ (s : Slot). s.1) xs ys h

module _ (xs ys : List Slot) (h : SameSlots xs ys) where
  pub apart : HasDistinctKeys xs → HasDistinctKeys ys
  apart d = distinct-shuffled same same-sym xs ys h d

  module _ (d : HasDistinctKeys xs) (key : Term) where
    pub objects-same : objects_of xs key ≡ objects_of ys key
    objects-same = lookup-shuffled same same-sym (same key) (one-key key) xs ys h d

    pub under-same : objects_under xs key ≡ objects_under ys key
    under-same = ap (λ o. unwrap_or o []) objects-same

    pub filled-same : (os : List Term) → SameSlots (with_objects xs key os) (with_objects ys key os)
    filled-same os = set-shuffled same same-sym (same key) (one-key key) os xs ys h d

  pub entered-same : (key : Term) (os : List Term) (xs' ys' : List Slot) → Enters xs key os xs' → Enters ys key os ys' → SameSlots xs' ys'
  entered-same key os xs' ys' e f =
      subst₂ SameSlots (sym e.after) (sym f.after) (put-shuffled e.front e.back f.front f.back (key, os) (subst₂ SameSlots e.before f.before h))

-- ---- removal
-- what a deletion leaves of a slot
module _ (hold : Bool) (which : Which) where
  abbrev stays : Slot → Bool
  stays s = hold || has_objects (objects_left which s) || not (has_objects s.1)

  abbrev left : Slot → Option Slot
  left s = cond (stays s) (Some (s.0, objects_left which s)) None

  one-left : (b : Bool) (s : Slot) (rest : List Slot) → cond b (s ∷ rest) rest ≡ cons_option (cond b (Some s) None) rest
  one-left true s rest = refl
  one-left false s rest = refl

  dropped : (xs : List Slot) → after_drop hold which xs ≡ filter_map left xs
  dropped [] = refl
  dropped (s ∷ xs) =
      one-left (stays s) (s.0, objects_left which s) (after_drop hold which xs) ∙ ap (cons_option (left s)) (dropped xs)

  pub dropped-same : (xs ys : List Slot) → SameSlots xs ys → SameSlots (after_drop hold which xs) (after_drop hold which ys)
  dropped-same xs ys h = subst₂ SameSlots (sym (dropped xs)) (sym (dropped ys)) (found-shuffled left xs ys h)

pub without_tombstones-same : (xs ys : List Slot) → SameSlots xs ys → SameSlots (without_tombstones xs) (without_tombstones ys)
without_tombstones-same xs ys h = filter-shuffled (λ (s : Slot). has_objects s.1) xs ys h

-- ---- objects are put
sets-at : (o : Option (List Term)) (xs ys xs' ys' : List Slot) (key : Term) (os : List Term) → SameSlots xs ys → HasDistinctKeys xs
    → MatchOption o (Enters xs key os xs') (λ _. xs' ≡ with_objects xs key os) → MatchOption o (Enters ys key os ys') (λ _. ys' ≡ with_objects ys key os) → SameSlots xs' ys'
sets-at None xs ys xs' ys' key os h d e f = entered-same xs ys h key os xs' ys' e f
sets-at (Some was) xs ys xs' ys' key os h d e f = subst₂ SameSlots (sym e) (sym f) (filled-same xs ys h d key os)

pub sets-same : (xs ys xs' ys' : List Slot) (key : Term) (os : List Term) → SameSlots xs ys → HasDistinctKeys xs → SetsObjects xs key os xs' → SetsObjects ys key os ys' → SameSlots xs' ys'
sets-same xs ys xs' ys' key os h d e f =
    sets-at (objects_of xs key) xs ys xs' ys' key os h d e
    (subst (λ o. MatchOption o (Enters ys key os ys') (λ _. ys' ≡ with_objects ys key os)) (sym (objects-same xs ys h d key)) f)

apart-at : (o : Option (List Term)) (xs xs' : List Slot) (key : Term) (os : List Term) → objects_of xs key ≡ o → HasDistinctKeys xs → MatchOption o (Enters xs key os xs') (λ _. xs' ≡ with_objects xs key os) → HasDistinctKeys xs'
apart-at None xs xs' key os absent d e = distinct-added xs xs' key os e absent d
apart-at (Some was) xs xs' key os at d e = subst HasDistinctKeys (sym e) (subst (IsDistinct same) (sym (keys-set_value (same key) xs os)) d)

sets-apart : (xs xs' : List Slot) (key : Term) (os : List Term) → HasDistinctKeys xs → SetsObjects xs key os xs' → HasDistinctKeys xs'
sets-apart xs xs' key os d e = apart-at (objects_of xs key) xs xs' key os refl d e

module _ (kind : Kind) (keypos : ℕ) where
  same-put : (object k l : Term) (ys ys' : List Slot) → key_of keypos object ≡ Some k → key_of keypos object ≡ Some l → Puts kind ys l object ys' → Puts kind ys k object ys'
  same-put object k l ys ys' p q put = let is : l ≡ k = cc in subst (λ (key : Term). Puts kind ys key object ys') is put

  pub all-same : (objects : List Term) (xs ys xs' ys' : List Slot) → SameSlots xs ys → HasDistinctKeys xs
      → PutsAll kind keypos xs objects xs' → PutsAll kind keypos ys objects ys' → SameSlots xs' ys'
  all-same [] xs ys xs' ys' h d e f = subst₂ SameSlots (sym e) (sym f) h
  all-same (object ∷ objects) xs ys xs' ys' h d e f =
      let key = e.0 in
      let other : Puts kind ys key object f.2.0 = same-put object e.0 f.0 ys f.2.0 e.1 f.1 f.2.1 in
      let put : SetsObjects ys key (add kind (objects_under xs key) object) f.2.0 =
      subst (λ (os : List Term). SetsObjects ys key (add kind os object) f.2.0) (sym (under-same xs ys h d key)) other in
      all-same objects e.2.0 f.2.0 xs' ys'
      (sets-same xs ys e.2.0 f.2.0 key (add kind (objects_under xs key) object) h d e.2.1 put)
      (sets-apart xs e.2.0 key (add kind (objects_under xs key) object) d e.2.1) e.2.2 f.2.2
