-- The slots from one on, by the steps of a traversal.
use Rattle.std.proofs.Common.{◌≡◌, inl, inr, ℕ, ◌≤◌, Bool, true, false, ◌==◌, cond, List, [], ◌∷◌, Option, None, Some, option_map, IsSome, length, refl, sym, subst, ap, ◌∙◌, arith}
use Rattle.std.specs.List.{IsDistinct}
use Rattle.std.specs.Map.{keys_of, lookup}
use Rattle.std.proofs.lemmas.Bool.{cases_Bool}
use Rattle.std.proofs.lemmas.Bool.Decides.{nat_tests}
use Rattle.ets_term.specs.declared.term.Term.{Term}
use Rattle.ets_term.specs.Order.{same}
use Rattle.ets_term.specs.laws.Same.{same-exact, same-refl}
use Rattle.bucket_table.specs.Slots.{Slot, objects_of, has_objects, slots_behind}
use Rattle.bucket_table.specs.Rows.{HasDistinctKeys}
use Rattle.bucket_table.specs.Walks.{IsFirstPlace, IsNextPlace, behind_in}
use Rattle.bucket_table.proofs.list.Content.{behind-absent}
use Rattle.table_ops.proofs.InvariantLaws.{turned}
use Rattle.fixed_walk.specs.Walk.{first_key, next_key, first_slot, next_slot}
use Rattle.fixed_walk.specs.laws.Kept.{IsSubsequence}
use Rattle.fixed_walk.specs.inside.From.{from_key, from_key_if_any, slots_from, HasSlotAt}
use Rattle.fixed_walk.proofs.Subsequences.{behind-apart}

from-here : (s : Slot) (ss : List Slot) (k : Term) → same k s.0 ≡ true → from_key (s ∷ ss) k ≡ s ∷ ss
from-here s ss k h = ap (λ (b : Bool). cond b (s ∷ ss) (from_key ss k)) h

from-on : (s : Slot) (ss : List Slot) (k : Term) → same k s.0 ≡ false → from_key (s ∷ ss) k ≡ from_key ss k
from-on s ss k h = ap (λ (b : Bool). cond b (s ∷ ss) (from_key ss k)) h

behind-here : (s : Slot) (ss : List Slot) (k : Term) → same k s.0 ≡ true → slots_behind (s ∷ ss) k ≡ Some ss
behind-here s ss k h = ap (λ (b : Bool). cond b (Some ss) (slots_behind ss k)) h

behind-on : (s : Slot) (ss : List Slot) (k : Term) → same k s.0 ≡ false → slots_behind (s ∷ ss) k ≡ slots_behind ss k
behind-on s ss k h = ap (λ (b : Bool). cond b (Some ss) (slots_behind ss k)) h

objects-here : (s : Slot) (ss : List Slot) (k : Term) → same k s.0 ≡ true → objects_of (s ∷ ss) k ≡ Some s.1
objects-here s ss k h = ap (λ (b : Bool). cond b (Some s.1) (lookup (same k) ss)) h

objects-on : (s : Slot) (ss : List Slot) (k : Term) → same k s.0 ≡ false → objects_of (s ∷ ss) k ≡ objects_of ss k
objects-on s ss k h = ap (λ (b : Bool). cond b (Some s.1) (lookup (same k) ss)) h

from-own : (s : Slot) (ss : List Slot) → from_key (s ∷ ss) s.0 ≡ s ∷ ss
from-own s ss = from-here s ss s.0 (same-refl s.0)

-- the slot of a key, and all after it
from-split : (ss rest : List Slot) (k : Term) (objects : List Term) → slots_behind ss k ≡ Some rest → objects_of ss k ≡ Some objects → from_key ss k ≡ (k, objects) ∷ rest
from-split [] rest k objects b o = cc
from-split (s ∷ ss) rest k objects b o =
    elim (cases_Bool (same k s.0)) [
      | inl hit ↦
          let tail : Some ss ≡ Some rest = sym (behind-here s ss k hit) ∙ b in
          let has : Some s.1 ≡ Some objects = sym (objects-here s ss k hit) ∙ o in
          let is : ss ≡ rest = cc in
          let own : s.1 ≡ objects = cc in
          let key : k ≡ s.0 = same-exact k s.0 hit in
          from-here s ss k hit ∙ (λ i. (sym key i, own i) ∷ is i)
      | inr miss ↦ from-on s ss k miss ∙ from-split ss rest k objects (sym (behind-on s ss k miss) ∙ b) (sym (objects-on s ss k miss) ∙ o)
    ]

behind-in : (ss : List Slot) (k : Term) (next : Slot) (rest : List Slot) → slots_behind ss k ≡ Some (next ∷ rest) → IsSubsequence (next.0 ∷ []) (keys_of ss)
behind-in [] k next rest b = cc
behind-in (s ∷ ss) k next rest b =
    elim (cases_Bool (same k s.0)) [
      | inl hit ↦
          let tail : Some ss ≡ Some (next ∷ rest) = sym (behind-here s ss k hit) ∙ b in
          let is : next ∷ rest ≡ ss = cc in
          inr (subst (λ (zs : List Slot). IsSubsequence (next.0 ∷ []) (keys_of zs)) is (inl (refl, tt)))
      | inr miss ↦ inr (behind-in ss k next rest (sym (behind-on s ss k miss) ∙ b))
    ]

-- the slots after a key are those from the next key on
from-behind : (ss : List Slot) (k : Term) (next : Slot) (rest : List Slot) → HasDistinctKeys ss → slots_behind ss k ≡ Some (next ∷ rest) → from_key ss next.0 ≡ next ∷ rest
unfolding IsDistinct
from-behind [] k next rest d b = cc
from-behind (s ∷ ss) k next rest d b =
    elim (cases_Bool (same k s.0)) [
      | inl hit ↦
          let tail : Some ss ≡ Some (next ∷ rest) = sym (behind-here s ss k hit) ∙ b in
          let is : next ∷ rest ≡ ss = cc in
          let in_ss : IsSubsequence (next.0 ∷ []) (keys_of ss) = subst (λ (zs : List Slot). IsSubsequence (next.0 ∷ []) (keys_of zs)) is (inl (refl, tt)) in
          from-on s ss next.0 (turned s.0 next.0 (behind-apart s.0 next.0 [] (keys_of ss) d in_ss)) ∙ (ap (λ (zs : List Slot). from_key zs next.0) (sym is) ∙ from-own next rest)
      | inr miss ↦
          let on : slots_behind ss k ≡ Some (next ∷ rest) = sym (behind-on s ss k miss) ∙ b in
          from-on s ss next.0 (turned s.0 next.0 (behind-apart s.0 next.0 [] (keys_of ss) d (behind-in ss k next rest on))) ∙ from-behind ss k next rest d.1 on
    ]

module _ (key_at : ℕ → Option Term) where
  -- from the first slot on
  pub from-first : (ss : List Slot) (o : Option ℕ) → IsFirstPlace key_at ss o → slots_from key_at ss o ≡ ss
  from-first ss None f = sym f
  from-first ss (Some p) f = ap (from_key_if_any ss) f.key ∙ (ap (λ (zs : List Slot). from_key zs f.slot.0) f.is ∙ (from-own f.slot f.rest ∙ sym f.is))

  pub first-has-slot : (ss : List Slot) (o : Option ℕ) → IsFirstPlace key_at ss o → HasSlotAt key_at o
  first-has-slot ss None f = tt
  first-has-slot ss (Some p) f = subst (λ (k : Option Term). IsSome k) (sym f.key) refl

  next-at : (ss rest : List Slot) (k : Term) (o : Option ℕ) → HasDistinctKeys ss → slots_behind ss k ≡ Some rest → IsFirstPlace key_at rest o → slots_from key_at ss o ≡ rest
  next-at ss rest k None d b f = sym f
  next-at ss rest k (Some p) d b f =
      let at : slots_behind ss k ≡ Some (f.slot ∷ f.rest) = b ∙ ap Some f.is in
      ap (from_key_if_any ss) f.key ∙ (from-behind ss k f.slot f.rest d at ∙ sym f.is)

  -- from the slot after that of a key on
  pub from-next : (ss : List Slot) (k : Term) (here : Option Term) (o : Option ℕ) → HasDistinctKeys ss → here ≡ Some k → IsNextPlace key_at ss here o → slots_behind ss k ≡ Some (slots_from key_at ss o)
  from-next ss k here o d e n =
      let at : slots_behind ss k ≡ Some n.rest = sym (ap (behind_in ss) e) ∙ n.is in
      at ∙ ap Some (sym (next-at ss n.rest k o d at n.first))

  pub next-has-slot : (ss : List Slot) (here : Option Term) (o : Option ℕ) → IsNextPlace key_at ss here o → HasSlotAt key_at o
  next-has-slot ss here o n = first-has-slot n.rest o n.first

  -- one step
  pub from-step : (ss : List Slot) (p : ℕ) (k : Term) (objects : List Term) (o : Option ℕ) → HasDistinctKeys ss → key_at p ≡ Some k → objects_of ss k ≡ Some objects → IsNextPlace key_at ss (key_at p) o
      → slots_from key_at ss (Some p) ≡ (k, objects) ∷ slots_from key_at ss o
  from-step ss p k objects o d e h n = ap (from_key_if_any ss) e ∙ from-split ss (slots_from key_at ss o) k objects (from-next ss k (key_at p) o d e n) h

  pub from-here-first : (ss : List Slot) (p : ℕ) (k : Term) (objects : List Term) → key_at p ≡ Some k → objects_of ss k ≡ Some objects → has_objects objects ≡ true → first_slot (slots_from key_at ss (Some p)) ≡ Some (k, objects)
  from-here-first ss p k objects e h some = ap (λ (o : Option Term). first_slot (from_key_if_any ss o)) e ∙ go ss h
    where
      go : (ss : List Slot) → objects_of ss k ≡ Some objects → first_slot (from_key ss k) ≡ Some (k, objects)
      go [] h = cc
      go (s ∷ ss) h =
          elim (cases_Bool (same k s.0)) [
            | inl hit ↦
                let has : Some s.1 ≡ Some objects = sym (objects-here s ss k hit) ∙ h in
                let own : s.1 ≡ objects = cc in
                let key : s.0 ≡ k = sym (same-exact k s.0 hit) in
                ap first_slot (from-here s ss k hit) ∙ (ap (λ (b : Bool). cond b (Some s) (first_slot ss)) (ap has_objects own ∙ some) ∙ (λ i. Some (key i, own i)))
            | inr miss ↦ ap first_slot (from-on s ss k miss) ∙ go ss (sym (objects-on s ss k miss) ∙ h)
          ]

from-short : (ss : List Slot) (k : Term) → length (from_key ss k) ≤ length ss
from-short [] k = omega arith
from-short (s ∷ ss) k =
    elim (cases_Bool (same k s.0)) [
      | inl hit ↦ let e = ap length (from-here s ss k hit) in omega (arith, e)
      | inr miss ↦ let e = ap length (from-on s ss k miss) in let rest = from-short ss k in omega (arith, e, rest)
    ]

answer-short : (ss : List Slot) (k : Option Term) → length (from_key_if_any ss k) ≤ length ss
answer-short ss None = omega arith
answer-short ss (Some k) = from-short ss k

-- they are not more than all slots
pub slots-short : (key_at : ℕ → Option Term) (ss : List Slot) (o : Option ℕ) → length (slots_from key_at ss o) ≤ length ss
slots-short key_at ss None = omega arith
slots-short key_at ss (Some p) = answer-short ss (key_at p)

-- the code's test for a tombstone
pub none-left : (objects : List Term) → (length objects == 0) ≡ true → has_objects objects ≡ false
none-left [] h = refl
none-left (o ∷ os) h = let none : length (o ∷ os) ≡ 0 = grind (arith, nat_tests) in absurd (omega (arith, none))

pub some-left : (objects : List Term) → (length objects == 0) ≡ false → has_objects objects ≡ true
some-left [] h = cc
some-left (o ∷ os) h = refl

pub first-of : (k : Term) (objects : List Term) (rest : List Slot) → has_objects objects ≡ false → first_slot ((k, objects) ∷ rest) ≡ first_slot rest
first-of k objects rest h = ap (λ (b : Bool). cond b (Some (k, objects)) (first_slot rest)) h

pub next-answer : (key_at : ℕ → Option Term) (ss : List Slot) (k : Term) (here : Option Term) (o : Option ℕ) → HasDistinctKeys ss → here ≡ Some k → IsNextPlace key_at ss here o → next_slot ss k ≡ Some (first_slot (slots_from key_at ss o))
next-answer key_at ss k here o d e n = ap (option_map first_slot) (from-next key_at ss k here o d e n)

pub next-absent : (ss : List Slot) (k : Term) → objects_of ss k ≡ None → next_slot ss k ≡ None
next-absent ss k h = ap (option_map first_slot) (behind-absent k ss h)

-- ---- the key of the slot that a step returns
abbrev pub key_in : Option Slot → Option Term
key_in o = option_map (λ (slot : Slot). slot.0) o

first-key-at : (b : Bool) (s : Slot) (ss : List Slot) → key_in (first_slot ss) ≡ first_key ss → key_in (cond b (Some s) (first_slot ss)) ≡ cond b (Some s.0) (first_key ss)
first-key-at true s ss rest = refl
first-key-at false s ss rest = rest

pub first-key : (ss : List Slot) → key_in (first_slot ss) ≡ first_key ss
first-key [] = refl
first-key (s ∷ ss) = first-key-at (has_objects s.1) s ss (first-key ss)

pub next-key : (ss : List Slot) (k : Term) → option_map key_in (next_slot ss k) ≡ next_key ss k
next-key ss k = at (slots_behind ss k)
  where
    at : (o : Option (List Slot)) → option_map key_in (option_map first_slot o) ≡ option_map first_key o
    at None = refl
    at (Some rest) = ap Some (first-key rest)

-- the slot after a key determines the key after it
pub next-key-is : (ss : List Slot) (k : Term) (found : Option Slot) → next_slot ss k ≡ Some found → next_key ss k ≡ Some (key_in found)
next-key-is ss k found e = sym (next-key ss k) ∙ ap (option_map key_in) e

pub next-key-none : (ss : List Slot) (k : Term) → next_slot ss k ≡ None → next_key ss k ≡ None
next-key-none ss k e = sym (next-key ss k) ∙ ap (option_map key_in) e
