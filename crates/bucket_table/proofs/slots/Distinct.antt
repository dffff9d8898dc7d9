-- Keys stay distinct, and a new item adds one slot.
use Rattle.std.proofs.Common.{◌≡◌, ℕ, inl, inr, List, [], ◌∷◌, ◌++◌, Option, Some, None, Bool, true, false, cond, refl, sym, ◌∙◌, ap, subst}
use Rattle.std.specs.List.{IsDistinct, AllByRecursion}
use Rattle.std.specs.Map.{lookup, remove_entry, set_value, keys_of}
use Rattle.std.proofs.lemmas.Bool.{cases_lt}
use Rattle.std.proofs.lemmas.Map.{keys-set_value}
use Rattle.ets_term.specs.declared.term.Term.{Term}
use Rattle.ets_term.specs.Order.{same}
use Rattle.node_list.specs.declared.node.Item.{Item}
use Rattle.node_list.specs.Cells.{Cell, new_cell, new_item}
use Rattle.node_list.specs.Changes.{put_cell}
use Rattle.node_list.proofs.CellLaws.{put-past, put-on}
use Rattle.bucket_table.specs.Slots.{Slot, Enters}
use Rattle.bucket_table.specs.Rows.{HasDistinctKeys}
use Rattle.bucket_table.specs.inside.Nodes.{slots_of, with_slot}
use Rattle.bucket_table.proofs.list.Content.{same-sym}

-- ---- an insertion

pub slots-put-dummy : (at key : ℕ) (cs : List Cell) → slots_of (put_cell (new_cell at key None) cs) ≡ slots_of cs
slots-put-dummy at key [] = refl
slots-put-dummy at key (c ∷ cs) =
    elim (cases_lt key c.split_key) [
      | inl past ↦ ap slots_of (put-past (new_cell at key None) c cs past)
      | inr on ↦ ap slots_of (put-on (new_cell at key None) c cs on) ∙ ap (with_slot c.item) (slots-put-dummy at key cs)
    ]

pub added-behind : (o : Option Item) (old new : List Slot) (key : Term) (objects : List Term) → Enters old key objects new → Enters (with_slot o old) key objects (with_slot o new)
added-behind None old new key objects a = a
added-behind (Some item) old new key objects a = record {
  front = (item.term, item.chain) ∷ a.front;
  back = a.back;
  before = ap (λ (ss : List Slot). (item.term, item.chain) ∷ ss) a.before;
  after = ap (λ (ss : List Slot). (item.term, item.chain) ∷ ss) a.after;
}

pub slots-put-item : (at key : ℕ) (term : Term) (chain : List Term) (cs : List Cell) → Enters (slots_of cs) term chain (slots_of (put_cell (new_cell at key (Some (new_item term chain))) cs))
slots-put-item at key term chain [] = record { front = []; back = []; before = refl; after = refl }
slots-put-item at key term chain (c ∷ cs) =
    let P : List Cell → Type 0 = λ zs. Enters (slots_of (c ∷ cs)) term chain (slots_of zs) in
    elim (cases_lt key c.split_key) [
      | inl past ↦ subst P (sym (put-past (new_cell at key (Some (new_item term chain))) c cs past)) (record { front = []; back = slots_of (c ∷ cs); before = refl; after = refl })
      | inr on ↦
          subst P (sym (put-on (new_cell at key (Some (new_item term chain))) c cs on))
          (added-behind c.item (slots_of cs) (slots_of (put_cell (new_cell at key (Some (new_item term chain))) cs)) term chain (slots-put-item at key term chain cs))
    ]

-- ---- distinct keys

pub record FirstMissed (key : Term) (s : Slot) (ss : List Slot) : Type 0 where
  pub here : same key s.0 ≡ false
  pub later : lookup (same key) ss ≡ None

pub first-missed : (key : Term) (s : Slot) (ss : List Slot) (b : Bool) → same key s.0 ≡ b → cond b (Some s.1) (lookup (same key) ss) ≡ None → FirstMissed key s ss
first-missed key s ss true e h = absurd (cc)
first-missed key s ss false e h = record { here = e; later = h }

none-like : (key : Term) (ss : List Slot) → lookup (same key) ss ≡ None → AllByRecursion (λ t. same key t ≡ false) (keys_of ss)
none-like key [] h = tt
none-like key (s ∷ ss) h = let m = first-missed key s ss (same key s.0) refl h in (m.here, none-like key ss m.later)

module _ (P : Term → Type 0) (key : Term) (objects : List Term) where
  all-added : (front back : List Slot) → P key → AllByRecursion P (keys_of (front ++ back)) → AllByRecursion P (keys_of (front ++ (key, objects) ∷ back))
  all-added [] back k a = (k, a)
  all-added (s ∷ front) back k a = (a.0, all-added front back k a.1)

all-removed : (P : Term → Type 0) (test : Term → Bool) (ss : List Slot) → AllByRecursion P (keys_of ss) → AllByRecursion P (keys_of (remove_entry test ss))
all-removed P test [] a = tt
all-removed P test (s ∷ ss) a =
    elim (test s.0) as (λ b. AllByRecursion P (keys_of (cond b ss (s ∷ remove_entry test ss)))) [ true ↦ a.1 | false ↦ (a.0, all-removed P test ss a.1) ]

distinct-between : (key : Term) (objects : List Term) (front back : List Slot) → lookup (same key) (front ++ back) ≡ None → HasDistinctKeys (front ++ back) → HasDistinctKeys (front ++ (key, objects) ∷ back)
unfolding IsDistinct
distinct-between key objects [] back h d = (none-like key back h, d)
distinct-between key objects (s ∷ front) back h d =
    let m = first-missed key s (front ++ back) (same key s.0) refl h in
    (all-added (λ t. same s.0 t ≡ false) key objects front back (same-sym s.0 key ∙ m.here) d.0, distinct-between key objects front back m.later d.1)

pub distinct-added : (old new : List Slot) (key : Term) (objects : List Term) → Enters old key objects new → lookup (same key) old ≡ None → HasDistinctKeys old → HasDistinctKeys new
distinct-added old new key objects a h d =
    let P : List Slot → Type 0 = λ ss. HasDistinctKeys ss in
    subst P (sym a.after) (distinct-between key objects a.front a.back (sym (ap (lookup (same key)) a.before) ∙ h) (subst P a.before d))

pub distinct-removed : (test : Term → Bool) (ss : List Slot) → HasDistinctKeys ss → HasDistinctKeys (remove_entry test ss)
unfolding IsDistinct
distinct-removed test [] d = tt
distinct-removed test (s ∷ ss) d =
    elim (test s.0) as (λ b. HasDistinctKeys (cond b ss (s ∷ remove_entry test ss))) [ true ↦ d.1 | false ↦ (all-removed (λ t. same s.0 t ≡ false) test ss d.0, distinct-removed test ss d.1) ]

pub distinct-set : (test : Term → Bool) (ss : List Slot) (w : List Term) → HasDistinctKeys ss → HasDistinctKeys (set_value test ss w)
distinct-set test ss w d = let P : List Term → Type 0 = λ ks. IsDistinct same ks in subst P (sym (keys-set_value test ss w)) d

-- ---- a key that has no slot

pub remove-absent : (key : Term) (ss : List Slot) → lookup (same key) ss ≡ None → remove_entry (same key) ss ≡ ss
remove-absent key [] h = refl
remove-absent key (s ∷ ss) h =
    let m = first-missed key s ss (same key s.0) refl h in
    ap (λ (b : Bool). cond b ss (s ∷ remove_entry (same key) ss)) m.here ∙ ap (λ (zs : List Slot). s ∷ zs) (remove-absent key ss m.later)

pub set-absent : (key : Term) (ss : List Slot) (w : List Term) → lookup (same key) ss ≡ None → set_value (same key) ss w ≡ ss
set-absent key [] w h = refl
set-absent key (s ∷ ss) w h =
    let m = first-missed key s ss (same key s.0) refl h in
    ap (λ (b : Bool). cond b ((s.0, w) ∷ ss) (s ∷ set_value (same key) ss w)) m.here ∙ ap (λ (zs : List Slot). s ∷ zs) (set-absent key ss w m.later)
