-- The dummies of a list through its changes.
use Rattle.std.proofs.Common.{◌≡◌, ◌≢◌, ℕ, ◌%◌, ◌<◌, ◌≤◌, inl, inr, List, [], ◌∷◌, ◌++◌, length, get_or, Some, None, refl, sym, ◌∙◌, ap, subst, arith}
use Rattle.std.proofs.lemmas.Bool.{cases_lt, cases_eq}
use Rattle.std.proofs.lemmas.List.{get_or_push, get_or_append_left, get_or_read_under, length-append}
use Rattle.std.proofs.lemmas.Nat.{mod_below, pow_pos}
use Rattle.split_key.specs.Keys.{rev, key_of_dummy, IsPowerOfTwo}
use Rattle.node_list.specs.Cells.{Cell, new_cell}
use Rattle.node_list.specs.Places.{IsFresh, HasSplitKeyAtMost, from, first_place}
use Rattle.node_list.specs.Changes.{put_cell}
use Rattle.node_list.proofs.CellLaws.{from-on}
use Rattle.node_list.proofs.CallerLaws.{put-from_new, put-from_other}
use Rattle.bench_layers.specs.Buckets.{IsDummyOf, HasDummies}

-- a fresh place differs from the place of each node
pub fresh-differs : (place at : ℕ) (cs : List Cell) (d : Cell) (ds : List Cell) → IsFresh place cs → from at cs ≡ d ∷ ds → place ≢ at
fresh-differs place at [] d ds f e = absurd (cc)
fresh-differs place at (c ∷ cs) d ds f e =
    elim (cases_eq c.at at) [
      | inl here ↦ λ same. f.0 (here ∙ sym same)
      | inr other ↦ fresh-differs place at cs d ds f.1 (sym (from-on at c cs other) ∙ e)
    ]

-- a dummy is before the keys that are not below its own
pub dummy-has_key_at_most : (bucket at key : ℕ) (cs : List Cell) → IsDummyOf bucket at cs → key_of_dummy bucket ≤ key → HasSplitKeyAtMost key at cs
dummy-has_key_at_most bucket at key cs d h = record { cell = new_cell at (key_of_dummy bucket) None; later = d.later; is = d.is; up_to = h }

-- so is a dummy whose place was read from the directory
pub read-has_key_at_most : (bucket at n key : ℕ) (places : List ℕ) (cs : List Cell) → at ≡ get_or places bucket at → bucket < n → n ≡ length places → HasDummies places cs → key_of_dummy bucket ≤ key → HasSplitKeyAtMost key at cs
read-has_key_at_most bucket at n key places cs read below len h before =
    let P : ℕ → Type 0 = λ p. HasSplitKeyAtMost key p cs in
    let within : bucket < length places = omega (arith, below, len) in
    subst P (sym (get_or_read_under places bucket n at 0 read below len)) (dummy-has_key_at_most bucket (get_or places bucket 0) key cs (h bucket within) before)

-- the bucket of a hash is one of the buckets
pub bucket-below : (hash size bucket n : ℕ) → bucket ≡ hash % size → size ≡ n → IsPowerOfTwo n → bucket < n
bucket-below hash size bucket n e s p =
    let P : ℕ → Type 0 = λ z. 0 < z in
    let Q : ℕ → Type 0 = λ z. z < size in
    let some : 0 < size = subst P (sym (s ∙ p.1)) (pow_pos p.0) in
    let below : bucket < size = subst Q (sym e) (mod_below hash size some) in
    omega (arith, below, s)

-- an insertion at a fresh place keeps each dummy where it is
pub put-keeps_dummies : (x : Cell) (places : List ℕ) (old new : List Cell) → IsFresh x.at old → new ≡ put_cell x old → HasDummies places old → HasDummies places new
put-keeps_dummies x places old new f e h bucket below =
    let d = h bucket below in
    let kept = put-from_other x old (get_or places bucket 0) (new_cell (get_or places bucket 0) (key_of_dummy bucket) None) d.later (fresh-differs x.at (get_or places bucket 0) old (new_cell (get_or places bucket 0) (key_of_dummy bucket) None) d.later f d.is) d.is in
    record { later = kept.0; is = ap (from (get_or places bucket 0)) e ∙ kept.1 }

-- an insertion of a dummy, and of its place at the end of the directory, adds one
pub push-adds_dummy : (at : ℕ) (places : List ℕ) (old new : List Cell) → IsFresh at old → new ≡ put_cell (new_cell at (key_of_dummy (length places)) None) old → HasDummies places old → HasDummies (places ++ at ∷ []) new
push-adds_dummy at places old new f e h bucket below =
    let P : ℕ → Type 0 = λ p. IsDummyOf bucket p new in
    elim (cases_lt bucket (length places)) [
      | inl earlier ↦
          subst P (sym (get_or_append_left places (at ∷ []) 0 bucket earlier)) (put-keeps_dummies (new_cell at (key_of_dummy (length places)) None) places old new f e h bucket earlier)
      | inr last ↦
          let here : length places ≡ bucket = omega (arith, below, last, length-append places (at ∷ [])) in
          let s = put-from_new (new_cell at (key_of_dummy (length places)) None) old f in
          let is : from at new ≡ new_cell at (key_of_dummy (length places)) None ∷ s.0 = ap (from at) e ∙ s.1 in
          let Q : ℕ → Type 0 = λ b. IsDummyOf b at new in
          subst P (sym (get_or_push places at 0 bucket here)) (subst Q here (record { later = s.0; is = is }))
    ]

key_of_first : key_of_dummy 0 ≡ 0
unfolding rev
key_of_first = refl

-- the first node of a new list is the dummy of bucket 0
pub first-dummy : (at : ℕ) (cs : List Cell) → cs ≡ new_cell 0 0 None ∷ [] → first_place cs ≡ Some at → HasDummies (at ∷ []) cs
first-dummy at cs e h bucket below =
    let first : first_place (new_cell 0 0 None ∷ []) ≡ Some at = sym (ap first_place e) ∙ h in
    let zero : 0 ≡ at = cc first in
    let none : 0 ≡ bucket = grind (arith, below) in
    let P : ℕ → Type 0 = λ b. IsDummyOf b (get_or (at ∷ []) b 0) cs in
    let Q : ℕ → Type 0 = λ a. from a cs ≡ new_cell a (key_of_dummy 0) None ∷ [] in
    let is : from 0 cs ≡ new_cell 0 (key_of_dummy 0) None ∷ [] = ap (from 0) e ∙ ap (λ (k : ℕ). new_cell 0 k None ∷ []) (sym key_of_first) in
    subst P none (record { later = []; is = subst Q zero is })
