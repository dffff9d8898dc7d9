-- The insertion of one object, and how it is undone.
use Rattle.std.proofs.Common.{◌≡◌, ℕ, ◌+◌, ◌≤◌, Bool, true, false, List, [], ◌∷◌, ◌++◌, Option, None, Some, is_some, unwrap_or, Result, Ok, Err, refl, sym, ap, subst, ◌∙◌, length, true≢false, ◌||◌, if◌then◌else◌, arith, length-append}
use Rattle.std.proofs.lemmas.Grind.{common_steps}
use Rattle.std.specs.Prelude.{MatchOption}
use Rattle.std.specs.List.{list_any}
use Rattle.ets_term.specs.declared.term.Term.{Term}
use Rattle.ets_term.specs.Order.{same}
use Rattle.bucket_table.specs.Slots.{Slot, objects_of, with_objects, has_objects, object_count, Enters}
use Rattle.bucket_table.specs.Rows.{without}
use Rattle.bucket_table.specs.Entries.{objects_in, with_objects_in}
use Rattle.table_ops.specs.declared.kind.Kind.{Kind}
use Rattle.table_ops.specs.declared.kind.Kind.TheVariants.{Set, Bag, DuplicateBag}
use Rattle.table_ops.specs.declared.refusal.Refusal.{Refusal}
use Rattle.table_ops.specs.declared.refusal.Refusal.TheVariants.{Badarg, SystemLimit, Memory}
use Rattle.table_ops.specs.declared.undo.Undo.{Undo}
use Rattle.table_ops.specs.declared.undo.Undo.TheVariants.{NewSlot, Objects, LastObject, Nothing}
use Rattle.table_ops.specs.Content.{objects_under}
use Rattle.table_ops.specs.Put.{add, SetsObjects}
use Rattle.table_ops.specs.inside.Undo.{ForKey, but_last, added_to, PutsOne}
use Rattle.table_ops.proofs.CountLaws.{count-enters, count-set}
use Rattle.table_ops.proofs.SlotLaws.{set_value-twice, set_value-same, lookup-set_value, remove_entry-set_value, without-Enters}

-- properties of the key of a place, if it has a key
pub at-key : (o : Option Term) (P : Term → Type 0) → is_some o ≡ true → ((key : Term) → o ≡ Some key → P key) → ForKey o P
at-key None P h f = absurd (true≢false (sym h))
at-key (Some key) P h f = f key refl

pub key-there : (o : Option Term) (P : Term → Type 0) → ForKey o P → is_some o ≡ true
key-there None P h = absurd h
key-there (Some key) P h = refl

pub of-key : (o : Option Term) (P : Term → Type 0) (key : Term) → ForKey o P → o ≡ Some key → P key
of-key None P key h e = absurd h
of-key (Some own) P key h e = let is : own ≡ key = cc in subst P is h

pub map-key : (o : Option Term) (P Q : Term → Type 0) → ((key : Term) → o ≡ Some key → P key → Q key) → ForKey o P → ForKey o Q
map-key None P Q f h = h
map-key (Some key) P Q f h = f key refl h

pub to-key : (o : Option Term) (P : Term → Type 0) (key : Term) → o ≡ Some key → P key → ForKey o P
to-key None P key e h = cc
to-key (Some own) P key e h = let is : own ≡ key = cc in subst P (sym is) h

pub under-some : (slots : List Slot) (key : Term) (c : List Term) → objects_of slots key ≡ Some c → objects_under slots key ≡ c
under-some slots key c h = ap (λ o. unwrap_or o []) h

pub add-none : (kind : Kind) (object : Term) → add kind [] object ≡ object ∷ []
add-none Set object = refl
add-none Bag object = refl
add-none DuplicateBag object = refl

writes-new-at : (o : Option (List Term)) (old new : List Slot) (key : Term) (objects : List Term) → o ≡ None → Enters old key objects new → MatchOption o (Enters old key objects new) (λ _. new ≡ with_objects old key objects)
writes-new-at None old new key objects h e = e
writes-new-at (Some c) old new key objects h e = cc

writes-own-at : (o : Option (List Term)) (old new : List Slot) (key : Term) (c objects : List Term) → o ≡ Some c → new ≡ with_objects old key objects → MatchOption o (Enters old key objects new) (λ _. new ≡ with_objects old key objects)
writes-own-at None old new key c objects h e = cc
writes-own-at (Some d) old new key c objects h e = e

writes-new : (old new : List Slot) (key : Term) (objects : List Term) → objects_of old key ≡ None → Enters old key objects new → SetsObjects old key objects new
writes-new old new key objects h e = writes-new-at (objects_of old key) old new key objects h e

writes-own : (old new : List Slot) (key : Term) (c objects : List Term) → objects_of old key ≡ Some c → new ≡ with_objects old key objects → SetsObjects old key objects new
writes-own old new key c objects h e = writes-own-at (objects_of old key) old new key c objects h e

under-none : (slots : List Slot) (key : Term) → objects_of slots key ≡ None → objects_under slots key ≡ []
under-none slots key h = ap (λ o. unwrap_or o []) h

-- insertion under a key without slot
pub new-put : (below_limit : Bool) (kind : Kind) (key object : Term) (old new : List Slot) → objects_of old key ≡ None → below_limit ≡ true → Enters old key (object ∷ []) new → PutsOne below_limit kind key object old (Ok NewSlot) new
new-put below_limit kind key object old new none some e =
    let added : add kind (objects_under old key) object ≡ object ∷ [] = ap (λ l. add kind l object) (under-none old key none) ∙ add-none kind object in (
      subst (λ l. SetsObjects old key l new) (sym added) (writes-new old new key (object ∷ []) none e),
      without-Enters old new key (object ∷ []) e none,
      count-enters old new key (object ∷ []) e,
      λ f. absurd (true≢false (sym some ∙ f)),
    )

pub new-full : (below_limit : Bool) (kind : Kind) (key object : Term) (old : List Slot) → objects_of old key ≡ None → below_limit ≡ false → PutsOne below_limit kind key object old (Err SystemLimit) old
new-full below_limit kind key object old none full =
    let under = under-none old key none in
    let added : add kind (objects_under old key) object ≡ object ∷ [] = ap (λ l. add kind l object) under ∙ add-none kind object in
    (refl, full, ap length added ∙ sym (ap (λ l. length l + 1) under))

count-own : (old : List Slot) (key : Term) (c w : List Term) → objects_of old key ≡ Some c → object_count (with_objects old key w) + length c ≡ object_count old + length w
count-own old key c w h = count-set (same key) old c w h

-- to set the old objects again undoes a change of a slot
undo-own : (old new : List Slot) (key : Term) (c w : List Term) → objects_of old key ≡ Some c → new ≡ with_objects old key w → with_objects new key c ≡ old
undo-own old new key c w h e = ap (λ l. with_objects l key c) e ∙ set_value-twice (same key) old w c ∙ set_value-same (same key) old c h

gains-one : (c : List Term) (n m : ℕ) → length c ≤ 1 → m + length c ≡ n + 1 → m ≡ n + added_to c
gains-one [] n m few e = omega (arith, e)
gains-one (x ∷ []) n m few e = omega (arith, e)
gains-one (x ∷ y ∷ zs) n m few e = absurd (omega (arith, few))

-- an object of a set replaces another
pub set-put : (below_limit : Bool) (key object : Term) (old new : List Slot) (c : List Term) → objects_of old key ≡ Some c → length c ≤ 1 → (below_limit ≡ false → added_to c ≡ 0) → new ≡ with_objects old key (object ∷ []) → PutsOne below_limit Set key object old (Ok (Objects c)) new
set-put below_limit key object old new c own few full e = (
  writes-own old new key c (object ∷ []) own e,
  undo-own old new key c (object ∷ []) own e,
  gains-one c (object_count old) (object_count new) few (ap (λ l. object_count l + length c) e ∙ count-own old key c (object ∷ []) own),
  full,
)

pub set-full : (below_limit : Bool) (key object : Term) (old : List Slot) → below_limit ≡ false → objects_under old key ≡ [] → PutsOne below_limit Set key object old (Err SystemLimit) old
set-full below_limit key object old full none = (refl, full, sym (ap (λ l. length l + 1) none))

but_last-append : (c : List Term) (object : Term) → but_last (c ++ object ∷ []) ≡ c
but_last-append c object = grind (arith, common_steps)

-- an object is appended
pub last-put : (below_limit : Bool) (key object : Term) (old new : List Slot) (c : List Term) → objects_of old key ≡ Some c → below_limit ≡ true → new ≡ with_objects old key (c ++ object ∷ []) → PutsOne below_limit DuplicateBag key object old (Ok LastObject) new
last-put below_limit key object old new c own some e =
    let w = c ++ object ∷ [] in
    let under : objects_under old key ≡ c = under-some old key c own in
    let read : objects_under new key ≡ w = ap (λ l. objects_under l key) e ∙ under-some (with_objects old key w) key w (lookup-set_value (same key) old c w own) in
    let back : but_last (objects_under new key) ≡ c = ap but_last read ∙ but_last-append c object in
    let count : object_count new + length c ≡ object_count old + length w = ap (λ l. object_count l + length c) e ∙ count-own old key c w own in (
      subst (λ l. SetsObjects old key (l ++ object ∷ []) new) (sym under) (writes-own old new key c w own e),
      ap (with_objects new key) back ∙ undo-own old new key c w own e,
      omega (arith, count, length-append c (object ∷ [])),
      λ f. absurd (true≢false (sym some ∙ f)),
    )

pub last-full : (below_limit : Bool) (key object : Term) (old : List Slot) → below_limit ≡ false → PutsOne below_limit DuplicateBag key object old (Err SystemLimit) old
last-full below_limit key object old full = (refl, full, length-append (objects_under old key) (object ∷ []))

-- a bag without the object inserts it as a duplicate bag does
pub bag-put : (below_limit : Bool) (key object : Term) (old new : List Slot) (r : Result Undo Refusal) → list_any (same object) (objects_under old key) ≡ false → PutsOne below_limit DuplicateBag key object old r new → PutsOne below_limit Bag key object old r new
bag-put below_limit key object old new (Ok undo) free p = (subst (λ (b : Bool). SetsObjects old key (if b then objects_under old key else objects_under old key ++ object ∷ []) new) (sym free) p.0, p.1, p.2, p.3)
bag-put below_limit key object old new (Err Badarg) free p = absurd p
bag-put below_limit key object old new (Err SystemLimit) free p = (p.0, p.1, subst (λ (b : Bool). length (if b then objects_under old key else objects_under old key ++ object ∷ []) ≡ length (objects_under old key) + 1) (sym free) p.2)
bag-put below_limit key object old new (Err Memory) free p = p

-- a bag with the object does not change
pub bag-contains : (below_limit : Bool) (key object : Term) (old : List Slot) (c : List Term) → objects_of old key ≡ Some c → list_any (same object) c ≡ true → PutsOne below_limit Bag key object old (Ok Nothing) old
bag-contains below_limit key object old c own has =
    let under : objects_under old key ≡ c = under-some old key c own in
    let yes : list_any (same object) (objects_under old key) ≡ true = ap (list_any (same object)) under ∙ has in
    let kept : old ≡ with_objects old key (objects_under old key) = sym (ap (with_objects old key) under ∙ set_value-same (same key) old c own) in (
      subst (λ (b : Bool). SetsObjects old key (if b then objects_under old key else objects_under old key ++ object ∷ []) old) (sym yes) (writes-own old old key c (objects_under old key) own kept),
      refl,
      omega arith,
      λ f. refl,
    )

-- if a full table may insert an object of a set, the object replaces another
pub fills : (below_limit : Bool) (c : List Term) → (below_limit || has_objects c) ≡ true → below_limit ≡ false → added_to c ≡ 0
fills below_limit [] may full = absurd (true≢false (sym may ∙ ap (λ (b : Bool). b || false) full))
fills below_limit (x ∷ xs) may full = refl

pub no-fill : (below_limit : Bool) (c : List Term) → (below_limit || has_objects c) ≡ false → (below_limit ≡ false) × (c ≡ [])
no-fill true c h = absurd (true≢false h)
no-fill false [] h = (refl, refl)
no-fill false (x ∷ xs) h = absurd (true≢false h)

-- the objects at a place are those of its key
pub own-in : (old : List Slot) (o : Option Term) (key : Term) (c : List Term) → o ≡ Some key → objects_in old o ≡ Some c → objects_of old key ≡ Some c
own-in old o key c is h = ap (objects_in old) (sym is) ∙ h

-- to set the objects at a place sets those of its key
pub set-in : (old new : List Slot) (o : Option Term) (key : Term) (w : List Term) → o ≡ Some key → new ≡ with_objects_in old o w → new ≡ with_objects old key w
set-in old new o key w is h = h ∙ ap (λ k. with_objects_in old k w) is

-- a chain is taken out and put back
pub twice-in : (old mid new : List Slot) (o own : Option Term) (key : Term) (v w : List Term) → o ≡ Some key → mid ≡ with_objects_in old o v → own ≡ o → new ≡ with_objects_in mid own w → new ≡ with_objects old key w
twice-in old mid new o own key v w is first same_place second =
    set-in mid new own key w (same_place ∙ is) second ∙ ap (λ l. with_objects l key w) (set-in old mid o key v is first) ∙ set_value-twice (same key) old v w

-- a chain is taken out and its slot is removed
pub out-in : (old mid new : List Slot) (o own : Option Term) (key taken : Term) (v : List Term) → o ≡ Some key → mid ≡ with_objects_in old o v → own ≡ o → own ≡ Some taken → new ≡ without mid taken → new ≡ without old key
out-in old mid new o own key taken v is first same_place its removed =
    let one : Some taken ≡ Some key = sym its ∙ same_place ∙ is in
    let equal : taken ≡ key = cc in
    removed ∙ ap (without mid) equal ∙ ap (λ l. without l key) (set-in old mid o key v is first) ∙ remove_entry-set_value (same key) old v

pub popped : (r : Option Term) (old new : List Term) → MatchOption r ((old ≡ []) × (new ≡ [])) (λ last. old ≡ new ++ last ∷ []) → new ≡ but_last old
popped None old new h = h.1 ∙ sym (ap but_last h.0)
popped (Some last) old new h = sym (ap but_last h ∙ but_last-append new last)
