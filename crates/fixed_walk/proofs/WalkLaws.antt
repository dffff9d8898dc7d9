-- Traversals of a table that keeps its keys are exact.
use Rattle.std.proofs.Common.{◌≡◌, ◌⊎◌, inl, inr, suc, Bool, true, false, cond, List, [], ◌∷◌, Option, None, Some, option_map, unwrap_or, refl, sym, subst, ap, ◌∙◌, true≢false, arith}
use Rattle.std.specs.List.{AllByRecursion, IsDistinct, Contains}
use Rattle.std.specs.Map.{keys_of, lookup}
use Rattle.std.proofs.lemmas.Bool.{cases_Bool}
use Rattle.ets_term.specs.declared.term.Term.{Term}
use Rattle.ets_term.specs.Order.{same}
use Rattle.ets_term.specs.laws.Same.{same-exact, same-refl}
use Rattle.bucket_table.specs.Slots.{Slot, has_objects, slots_behind}
use Rattle.bucket_table.specs.Rows.{HasDistinctKeys}
use Rattle.table_ops.specs.Content.{is_present}
use Rattle.table_ops.proofs.InvariantLaws.{turned}
use Rattle.fixed_walk.specs.Walk.{first_key, next_key}
use Rattle.fixed_walk.specs.laws.Kept.{IsSubsequence}
use Rattle.fixed_walk.specs.laws.Walks.{MomentsKeepKeys, walk_answer, IsWalk, SlotWalksAreWhole}
use Rattle.fixed_walk.proofs.Subsequences.{sub-on, sub-same, sub-tail, sub-further, sub-distinct, behind-apart, sub-join}

-- ---- one moment
found-here : (s : Slot) (ss : List Slot) (x : Term) → same x s.0 ≡ true → is_present (s ∷ ss) x ≡ has_objects s.1
found-here s ss x h = ap (λ (b : Bool). has_objects (unwrap_or (cond b (Some s.1) (lookup (same x) ss)) [])) h

found-on : (s : Slot) (ss : List Slot) (x : Term) → same x s.0 ≡ false → is_present (s ∷ ss) x ≡ is_present ss x
found-on s ss x h = ap (λ (b : Bool). has_objects (unwrap_or (cond b (Some s.1) (lookup (same x) ss)) [])) h

first-here : (s : Slot) (ss : List Slot) → has_objects s.1 ≡ true → first_key (s ∷ ss) ≡ Some s.0
first-here s ss h = ap (λ (b : Bool). cond b (Some s.0) (first_key ss)) h

first-on : (s : Slot) (ss : List Slot) → has_objects s.1 ≡ false → first_key (s ∷ ss) ≡ first_key ss
first-on s ss h = ap (λ (b : Bool). cond b (Some s.0) (first_key ss)) h

behind-here : (s : Slot) (ss : List Slot) (k : Term) → same k s.0 ≡ true → slots_behind (s ∷ ss) k ≡ Some ss
behind-here s ss k h = ap (λ (b : Bool). cond b (Some ss) (slots_behind ss k)) h

behind-on : (s : Slot) (ss : List Slot) (k : Term) → same k s.0 ≡ false → slots_behind (s ∷ ss) k ≡ slots_behind ss k
behind-on s ss k h = ap (λ (b : Bool). cond b (Some ss) (slots_behind ss k)) h

present-in : (ss : List Slot) (x : Term) → is_present ss x ≡ true → IsSubsequence (x ∷ []) (keys_of ss)
present-in [] x p = absurd (true≢false (sym p))
present-in (s ∷ ss) x p =
    elim (cases_Bool (same x s.0)) [
      | inl hit ↦ inl (same-exact x s.0 hit, tt)
      | inr miss ↦ inr (present-in ss x (sym (found-on s ss x miss) ∙ p))
    ]

-- if a key has objects, the first key is that key or an earlier one
record Before (ss : List Slot) (x : Term) : Type 0 where
  key : Term
  first : first_key ss ≡ Some key
  order : (key ≡ x) ⊎ IsSubsequence (key ∷ x ∷ []) (keys_of ss)

before : (ss : List Slot) (x : Term) → is_present ss x ≡ true → Before ss x
before [] x p = absurd (true≢false (sym p))
before (s ∷ ss) x p =
    elim (cases_Bool (has_objects s.1)) [
      | inl some ↦
          elim (cases_Bool (same x s.0)) [
            | inl hit ↦ record { key = s.0; first = first-here s ss some; order = inl (sym (same-exact x s.0 hit)) }
            | inr miss ↦ record { key = s.0; first = first-here s ss some; order = inr (inl (refl, present-in ss x (sym (found-on s ss x miss) ∙ p))) }
          ]
      | inr none ↦
          elim (cases_Bool (same x s.0)) [
            | inl hit ↦ absurd (true≢false (sym p ∙ (found-here s ss x hit ∙ none)))
            | inr miss ↦
                let rest = before ss x (sym (found-on s ss x miss) ∙ p) in
                record { key = rest.key; first = first-on s ss none ∙ rest.first; order = later rest.key rest.order }
          ]
    ]
  where
    later : (k : Term) → (k ≡ x) ⊎ IsSubsequence (k ∷ x ∷ []) (keys_of ss) → (k ≡ x) ⊎ IsSubsequence (k ∷ x ∷ []) (keys_of (s ∷ ss))
    later k (inl e) = inl e
    later k (inr o) = inr (inr o)

-- a key with objects after another key
record Behind (ss : List Slot) (k x : Term) : Type 0 where
  slots : List Slot
  is : slots_behind ss k ≡ Some slots
  present : is_present slots x ≡ true
  within : IsSubsequence (keys_of slots) (keys_of ss)

behind : (ss : List Slot) (k x : Term) → HasDistinctKeys ss → IsSubsequence (k ∷ x ∷ []) (keys_of ss) → is_present ss x ≡ true → Behind ss k x
unfolding IsDistinct
behind [] k x d o p = absurd o
behind (s ∷ ss) k x d (inl o) p =
    let hit : same k s.0 ≡ true = ap (λ (t : Term). same t s.0) o.0 ∙ same-refl s.0 in
    let miss : same x s.0 ≡ false = turned s.0 x (behind-apart s.0 x [] (keys_of ss) d o.1) in
    record { slots = ss; is = behind-here s ss k hit; present = sym (found-on s ss x miss) ∙ p; within = sub-on (keys_of ss) (keys_of ss) s.0 (sub-same (keys_of ss)) }
behind (s ∷ ss) k x d (inr o) p =
    let miss : same x s.0 ≡ false = turned s.0 x (behind-apart s.0 x [] (keys_of ss) d (sub-tail k (x ∷ []) (keys_of ss) o)) in
    let other : same k s.0 ≡ false = turned s.0 k (behind-apart s.0 k (x ∷ []) (keys_of ss) d o) in
    let rest = behind ss k x d.1 o (sym (found-on s ss x miss) ∙ p) in
    record { slots = rest.slots; is = behind-on s ss k other ∙ rest.is; present = rest.present; within = sub-on (keys_of rest.slots) (keys_of ss) s.0 rest.within }

-- the key that first or next returns is in the table
first-in : (ss : List Slot) (k : Term) → first_key ss ≡ Some k → IsSubsequence (k ∷ []) (keys_of ss)
first-in [] k e = cc
first-in (s ∷ ss) k e =
    elim (cases_Bool (has_objects s.1)) [
      | inl some ↦ let is : Some s.0 ≡ Some k = sym (first-here s ss some) ∙ e in let key : k ≡ s.0 = cc in inl (key, tt)
      | inr none ↦ inr (first-in ss k (sym (first-on s ss none) ∙ e))
    ]

next-in : (ss : List Slot) (k : Term) (o : Option Term) → next_key ss k ≡ Some o → IsSubsequence (k ∷ []) (keys_of ss)
next-in [] k o e = cc
next-in (s ∷ ss) k o e =
    elim (cases_Bool (same k s.0)) [
      | inl hit ↦ inl (same-exact k s.0 hit, tt)
      | inr miss ↦ inr (next-in ss k o (sym (ap (option_map first_key) (behind-on s ss k miss)) ∙ e))
    ]

next-behind : (ss : List Slot) (k next : Term) → next_key ss k ≡ Some (Some next) → IsSubsequence (k ∷ next ∷ []) (keys_of ss)
next-behind [] k next e = cc
next-behind (s ∷ ss) k next e =
    elim (cases_Bool (same k s.0)) [
      | inl hit ↦
          let is : Some (first_key ss) ≡ Some (Some next) = sym (ap (option_map first_key) (behind-here s ss k hit)) ∙ e in
          let first : first_key ss ≡ Some next = cc in
          inl (same-exact k s.0 hit, first-in ss next first)
      | inr miss ↦ inr (next-behind ss k next (sym (ap (option_map first_key) (behind-on s ss k miss)) ∙ e))
    ]

-- ---- one moment after another
latest : List Slot → List (List Slot) → List Slot
latest now [] = now
latest now (next ∷ later) = latest next later

last-distinct : (now : List Slot) (later : List (List Slot)) → MomentsKeepKeys (now ∷ later) → HasDistinctKeys (latest now later)
unfolding latest
last-distinct now [] kept = kept
last-distinct now (next ∷ later) kept = last-distinct next later kept.2

last-keeps : (now : List Slot) (later : List (List Slot)) → MomentsKeepKeys (now ∷ later) → IsSubsequence (keys_of now) (keys_of (latest now later))
unfolding latest
last-keeps now [] kept = sub-same (keys_of now)
last-keeps now (next ∷ later) kept = sub-further (keys_of now) (keys_of next) (keys_of (latest next later)) kept.1 (last-keeps next later kept.2)

now-distinct : (now : List Slot) (later : List (List Slot)) → MomentsKeepKeys (now ∷ later) → HasDistinctKeys now
now-distinct now [] kept = kept
now-distinct now (next ∷ later) kept = kept.0

-- the keys of a traversal are among those of its last moment, in the same order
walked-last : (now : List Slot) (later : List (List Slot)) (k : Term) (keys : List Term) → MomentsKeepKeys (now ∷ later) → IsWalk (Some k) (now ∷ later) keys → IsSubsequence (k ∷ keys) (keys_of (latest now later))
unfolding latest
walked-last now [] k [] kept w = next-in now k None w.0
walked-last now (next ∷ later) k [] kept w = cc
walked-last now [] k (key ∷ keys) kept w = absurd w.1
walked-last now (next ∷ later) k (key ∷ keys) kept w =
    let last = latest next later in
    let pair = sub-further (k ∷ key ∷ []) (keys_of now) (keys_of last) (next-behind now k key w.0) (last-keeps now (next ∷ later) kept) in
    sub-join (keys_of last) k key keys (last-distinct next later kept.2) pair (walked-last next later key keys kept.2 w.1)

here : (key x : Term) (keys : List Term) → key ≡ x → Contains (key ∷ keys) x
here key x keys e = (0, omega arith, e)

further : (key x : Term) (keys : List Term) → Contains keys x → Contains (key ∷ keys) x
further key x keys c = (suc c.0, omega (arith, c.1), c.2)

-- a key comes if it has objects at every moment and is after the last key that came
comes : (now : List Slot) (later : List (List Slot)) (k x : Term) (keys : List Term) → MomentsKeepKeys (now ∷ later) → IsWalk (Some k) (now ∷ later) keys
    → AllByRecursion (λ slots. is_present slots x ≡ true) (now ∷ later) → IsSubsequence (k ∷ x ∷ []) (keys_of now) → Contains keys x
comes now later k x [] kept w p o =
    let rest = behind now k x (now-distinct now later kept) o p.0 in
    let first = before rest.slots x rest.present in
    let key_is : next_key now k ≡ Some (Some first.key) = ap (option_map first_key) rest.is ∙ ap Some first.first in
    let none : Some None ≡ Some (Some first.key) = sym w.0 ∙ key_is in
    cc
comes now [] k x (key ∷ keys) kept w p o = absurd w.1
comes now (next ∷ later) k x (key ∷ keys) kept w p o =
    let rest = behind now k x kept.0 o p.0 in
    let first = before rest.slots x rest.present in
    let key_is : next_key now k ≡ Some (Some first.key) = ap (option_map first_key) rest.is ∙ ap Some first.first in
    let both : Some (Some key) ≡ Some (Some first.key) = sym w.0 ∙ key_is in
    let is : first.key ≡ key = cc in
    by first.key rest.slots first.order is rest.within (λ q. comes next later key x keys kept.2 w.1 p.1 q)
  where
    by : (first : Term) (slots : List Slot) → (first ≡ x) ⊎ IsSubsequence (first ∷ x ∷ []) (keys_of slots) → first ≡ key → IsSubsequence (keys_of slots) (keys_of now)
        → (IsSubsequence (key ∷ x ∷ []) (keys_of next) → Contains keys x) → Contains (key ∷ keys) x
    by first slots (inl e) is within on = here key x keys (sym is ∙ e)
    by first slots (inr q) is within on =
        let at_next = sub-further (first ∷ x ∷ []) (keys_of now) (keys_of next) (sub-further (first ∷ x ∷ []) (keys_of slots) (keys_of now) q within) kept.1 in
        further key x keys (on (subst (λ (t : Term). IsSubsequence (t ∷ x ∷ []) (keys_of next)) is at_next))

-- ---- the whole traversal
first-answer : (now : List Slot) (key : Term) → walk_answer None now ≡ Some (Some key) → first_key now ≡ Some key
first-answer now key e = cc

once-at : (now : List Slot) (later : List (List Slot)) (key : Term) (keys : List Term) → MomentsKeepKeys (now ∷ later) → IsWalk None (now ∷ later) (key ∷ keys) → IsDistinct same (key ∷ keys)
once-at now [] key keys kept w = absurd w.1
once-at now (next ∷ later) key keys kept w =
    sub-distinct (key ∷ keys) (keys_of (latest next later)) (walked-last next later key keys kept.2 w.1) (last-distinct next later kept.2)

all-at : (now : List Slot) (later : List (List Slot)) (keys : List Term) → MomentsKeepKeys (now ∷ later) → IsWalk None (now ∷ later) keys
    → (x : Term) → AllByRecursion (λ slots. is_present slots x ≡ true) (now ∷ later) → Contains keys x
all-at now later [] kept w x p =
    let first = before now x p.0 in
    let none : Some (first_key now) ≡ Some None = w.0 in
    let some : first_key now ≡ Some first.key = first.first in
    cc
all-at now [] (key ∷ keys) kept w x p = absurd w.1
all-at now (next ∷ later) (key ∷ keys) kept w x p =
    let first = before now x p.0 in
    let key_is : first_key now ≡ Some key = first-answer now key w.0 in
    let some : first_key now ≡ Some first.key = first.first in
    let is : first.key ≡ key = cc in
    by first.key first.order is (λ q. comes next later key x keys kept.2 w.1 p.1 q)
  where
    by : (first : Term) → (first ≡ x) ⊎ IsSubsequence (first ∷ x ∷ []) (keys_of now) → first ≡ key → (IsSubsequence (key ∷ x ∷ []) (keys_of next) → Contains keys x) → Contains (key ∷ keys) x
    by first (inl e) is on = here key x keys (sym is ∙ e)
    by first (inr q) is on = further key x keys (on (subst (λ (t : Term). IsSubsequence (t ∷ x ∷ []) (keys_of next)) is (sub-further (first ∷ x ∷ []) (keys_of now) (keys_of next) q kept.1)))

pub whole : SlotWalksAreWhole
unfolding IsDistinct
whole [] keys kept w = absurd w
whole (now ∷ later) [] kept w = record { once = tt; all = all-at now later [] kept w }
whole (now ∷ later) (key ∷ keys) kept w = record { once = once-at now later key keys kept w; all = all-at now later (key ∷ keys) kept w }
