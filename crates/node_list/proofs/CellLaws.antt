-- Laws of lists of cells.
use Rattle.std.proofs.Common.{◌≡◌, ◌≢◌, ℕ, ◌+◌, ◌<◌, ◌≤◌, inl, inr, List, [], ◌∷◌, length, Option, Some, None, Bool, true, false, nat_lt, ◌||◌, if◌then◌else◌, refl, sym, ◌∙◌, ap, subst, arith}
use Rattle.std.proofs.lemmas.Bool.{cases_lt, cases_eq}
use Rattle.std.proofs.lemmas.Bool.Decides.{nat_tests}
use Rattle.std.proofs.Math.Nat.{le_of_lt}
use Rattle.ets_term.specs.declared.term.Term.{Term}
use Rattle.node_list.specs.Cells.{Cell, Sorted, StartsFrom}
use Rattle.slab.specs.Slab.{Slab, get}
use Rattle.node_list.specs.declared.node.ListNode.{ListNode}
use Rattle.node_list.specs.inside.Slots.{HoldsAt}
use Rattle.node_list.specs.Places.{from}
use Rattle.node_list.specs.Search.{is_it, holds, place_of, visited_cells}
use Rattle.node_list.specs.Changes.{put_cell, without}
use Rattle.node_list.specs.inside.Walks.{last_not_above_in, HasPlace}

-- ---- one step of each function
pub last_not_above_in-past : (key last : ℕ) (c : Cell) (cs : List Cell) → key < c.split_key → last_not_above_in key last (c ∷ cs) ≡ last
last_not_above_in-past key last c cs h = grind (arith, nat_tests)

pub last_not_above_in-on : (key last : ℕ) (c : Cell) (cs : List Cell) → c.split_key ≤ key → last_not_above_in key last (c ∷ cs) ≡ last_not_above_in key c.at cs
last_not_above_in-on key last c cs h = grind (arith, nat_tests)

pub put-past : (x c : Cell) (cs : List Cell) → x.split_key < c.split_key → put_cell x (c ∷ cs) ≡ x ∷ c ∷ cs
put-past x c cs h = grind (arith, nat_tests)

pub put-on : (x c : Cell) (cs : List Cell) → c.split_key ≤ x.split_key → put_cell x (c ∷ cs) ≡ c ∷ put_cell x cs
put-on x c cs h = grind (arith, nat_tests)

pub from-here : (at : ℕ) (c : Cell) (cs : List Cell) → c.at ≡ at → from at (c ∷ cs) ≡ c ∷ cs
from-here at c cs h = grind (arith, nat_tests)

pub from-on : (at : ℕ) (c : Cell) (cs : List Cell) → c.at ≢ at → from at (c ∷ cs) ≡ from at cs
from-on at c cs h = grind (arith, nat_tests)

pub without-here : (at : ℕ) (c : Cell) (cs : List Cell) → c.at ≡ at → without at (c ∷ cs) ≡ cs
without-here at c cs h = grind (arith, nat_tests)

pub without-on : (at : ℕ) (c : Cell) (cs : List Cell) → c.at ≢ at → without at (c ∷ cs) ≡ c ∷ without at cs
without-on at c cs h = grind (arith, nat_tests)

-- ---- lengths
pub length-put : (x : Cell) (cs : List Cell) → length (put_cell x cs) ≡ length cs + 1
length-put x [] = omega arith
length-put x (c ∷ cs) =
    elim (cases_lt x.split_key c.split_key) [
      | inl past ↦ rw (put-past x c cs past) (omega arith)
      | inr on ↦ rw (put-on x c cs on) (omega (arith, length-put x cs))
    ]

pub length-from : (at : ℕ) (cs : List Cell) → length (from at cs) ≤ length cs
length-from at [] = omega arith
length-from at (c ∷ cs) =
    elim (cases_eq c.at at) [
      | inl here ↦ rw (from-here at c cs here) (omega arith)
      | inr other ↦ rw (from-on at c cs other) (omega (arith, length-from at cs))
    ]

pub length-without : (at : ℕ) (cs : List Cell) → HasPlace at cs → length (without at cs) + 1 ≡ length cs
length-without at [] h = absurd h
length-without at (c ∷ cs) h =
    elim (cases_eq c.at at) [
      | inl here ↦ rw (without-here at c cs here) (omega arith)
      | inr other ↦
          let later : HasPlace at cs = elim h [ inl here ↦ absurd (other here) | inr later ↦ later ] in
          rw (without-on at c cs other) (omega (arith, length-without at cs later))
    ]

-- ---- order
starts-put : (bound : ℕ) (x : Cell) (cs : List Cell) → bound ≤ x.split_key → StartsFrom bound cs → StartsFrom bound (put_cell x cs)
starts-put bound x [] h s = h
starts-put bound x (c ∷ cs) h s =
    let P : List Cell → Type 0 = λ zs. StartsFrom bound zs in
    elim (cases_lt x.split_key c.split_key) [
      | inl past ↦ subst P (sym (put-past x c cs past)) h
      | inr on ↦ subst P (sym (put-on x c cs on)) s
    ]

-- an insertion keeps the order
pub sorted-put : (x : Cell) (cs : List Cell) → Sorted cs → Sorted (put_cell x cs)
sorted-put x [] o = (tt, tt)
sorted-put x (c ∷ cs) o =
    let P : List Cell → Type 0 = λ zs. Sorted zs in
    elim (cases_lt x.split_key c.split_key) [
      | inl past ↦ subst P (sym (put-past x c cs past)) (le_of_lt past, o)
      | inr on ↦ subst P (sym (put-on x c cs on)) (starts-put c.split_key x cs on o.0, sorted-put x cs o.1)
    ]

starts-later : (bound : ℕ) (c : Cell) (cs : List Cell) → bound ≤ c.split_key → StartsFrom c.split_key cs → StartsFrom bound cs
starts-later bound c [] h s = tt
starts-later bound c (d ∷ ds) h s = omega (arith, h, s)

starts-without : (bound at : ℕ) (cs : List Cell) → Sorted cs → StartsFrom bound cs → StartsFrom bound (without at cs)
starts-without bound at [] o s = s
starts-without bound at (c ∷ cs) o s =
    let P : List Cell → Type 0 = λ zs. StartsFrom bound zs in
    elim (cases_eq c.at at) [
      | inl here ↦ subst P (sym (without-here at c cs here)) (starts-later bound c cs s o.0)
      | inr other ↦ subst P (sym (without-on at c cs other)) s
    ]

-- a removal keeps the order
pub sorted-without : (at : ℕ) (cs : List Cell) → Sorted cs → Sorted (without at cs)
sorted-without at [] o = o
sorted-without at (c ∷ cs) o =
    let P : List Cell → Type 0 = λ zs. Sorted zs in
    elim (cases_eq c.at at) [
      | inl here ↦ subst P (sym (without-here at c cs here)) o.1
      | inr other ↦ subst P (sym (without-on at c cs other)) (starts-without c.split_key at cs o.1 o.0, sorted-without at cs o.1)
    ]

pub at-most-from : (at bound : ℕ) (cs : List Cell) (d : Cell) (ds : List Cell) → StartsFrom bound cs → Sorted cs → from at cs ≡ d ∷ ds → bound ≤ d.split_key
at-most-from at bound [] d ds b o e = absurd (cc)
at-most-from at bound (c ∷ cs) d ds b o e =
    elim (cases_eq c.at at) [
      | inl here ↦
          let same : c ≡ d = cc (sym (from-here at c cs here) ∙ e) in
          let k : c.split_key ≡ d.split_key = ap (λ (z : Cell). z.split_key) same in
          omega arith
      | inr other ↦
          let lower : c.split_key ≤ d.split_key = at-most-from at c.split_key cs d ds o.0 o.1 (sym (from-on at c cs other) ∙ e) in
          omega arith
    ]

pub sorted-from : (at : ℕ) (cs : List Cell) → Sorted cs → Sorted (from at cs)
sorted-from at [] o = o
sorted-from at (c ∷ cs) o =
    let P : List Cell → Type 0 = λ zs. Sorted zs in
    elim (cases_eq c.at at) [
      | inl here ↦ subst P (sym (from-here at c cs here)) o
      | inr other ↦ subst P (sym (from-on at c cs other)) (sorted-from at cs o.1)
    ]

-- ---- search
place_of-on : (key : ℕ) (term : Term) (c : Cell) (cs : List Cell) → is_it key term c ≡ false → place_of key term (c ∷ cs) ≡ place_of key term cs
place_of-on key term c cs h = ap (λ (b : Bool). if b then Some c.at else place_of key term cs) h

not_it-past : (key : ℕ) (term : Term) (c : Cell) → key < c.split_key → is_it key term c ≡ false
not_it-past key term c h = grind (arith, nat_tests)

place_of-beyond : (key bound : ℕ) (term : Term) (cs : List Cell) → key < bound → StartsFrom bound cs → Sorted cs → place_of key term cs ≡ None
place_of-beyond key bound term [] h s o = refl
place_of-beyond key bound term (c ∷ cs) h s o =
    let past : key < c.split_key = omega (arith, h, s) in
    place_of-on key term c cs (not_it-past key term c past) ∙ place_of-beyond key c.split_key term cs past o.0 o.1

-- what a search finds and passes, if the first node ends it and if not
pub record Ends (key : ℕ) (term : Term) (c : Cell) (cs : List Cell) (answer : Option ℕ) : Type 0 where
  pub found : place_of key term (c ∷ cs) ≡ answer
  pub passed : length (visited_cells key term (c ∷ cs)) ≡ 1

visited_cells-last : (key : ℕ) (term : Term) (c : Cell) (cs : List Cell) → (nat_lt key c.split_key || is_it key term c) ≡ true → length (visited_cells key term (c ∷ cs)) ≡ 1
visited_cells-last key term c cs h = ap (λ (b : Bool). length (if b then c ∷ [] else c ∷ visited_cells key term cs)) h

visited_cells-more : (key : ℕ) (term : Term) (c : Cell) (cs : List Cell) → (nat_lt key c.split_key || is_it key term c) ≡ false → length (visited_cells key term (c ∷ cs)) ≡ length (visited_cells key term cs) + 1
visited_cells-more key term c cs h = ap (λ (b : Bool). length (if b then c ∷ [] else c ∷ visited_cells key term cs)) h ∙ omega arith

either-past : (key : ℕ) (c : Cell) (b : Bool) → key < c.split_key → (nat_lt key c.split_key || b) ≡ true
either-past key c b h = grind (arith, nat_tests)

either-it : (a b : Bool) → b ≡ true → (a || b) ≡ true
either-it true b h = refl
either-it false b h = h

neither : (key : ℕ) (c : Cell) (b : Bool) → c.split_key ≤ key → b ≡ false → (nat_lt key c.split_key || b) ≡ false
neither key c b h e = grind (arith, nat_tests)

pub search-past : (key : ℕ) (term : Term) (c : Cell) (cs : List Cell) → Sorted (c ∷ cs) → key < c.split_key → Ends key term c cs None
search-past key term c cs o h = record {
  found = place_of-on key term c cs (not_it-past key term c h) ∙ place_of-beyond key c.split_key term cs h o.0 o.1;
  passed = visited_cells-last key term c cs (either-past key c (is_it key term c) h);
}

is_it-here : (key : ℕ) (term : Term) (c : Cell) → c.split_key ≡ key → holds term c.item ≡ true → is_it key term c ≡ true
is_it-here key term c e h = grind (arith, nat_tests)

pub search-here : (key : ℕ) (term : Term) (c : Cell) (cs : List Cell) → c.split_key ≡ key → holds term c.item ≡ true → Ends key term c cs (Some c.at)
search-here key term c cs e h =
    let it : is_it key term c ≡ true = is_it-here key term c e h in
    record {
      found = ap (λ (b : Bool). if b then Some c.at else place_of key term cs) it;
      passed = visited_cells-last key term c cs (either-it (nat_lt key c.split_key) (is_it key term c) it);
    }

pub record GoesOn (key : ℕ) (term : Term) (c : Cell) (cs : List Cell) : Type 0 where
  pub found : place_of key term (c ∷ cs) ≡ place_of key term cs
  pub passed : length (visited_cells key term (c ∷ cs)) ≡ length (visited_cells key term cs) + 1

pub search-on : (key : ℕ) (term : Term) (c : Cell) (cs : List Cell) → c.split_key ≤ key → is_it key term c ≡ false → GoesOn key term c cs
search-on key term c cs h e = record {
  found = place_of-on key term c cs e;
  passed = visited_cells-more key term c cs (neither key c (is_it key term c) h e);
}

pub not_it-held : (key : ℕ) (term : Term) (c : Cell) → holds term c.item ≡ false → is_it key term c ≡ false
not_it-held key term c h = grind (arith, nat_tests)

pub not_it-other : (key : ℕ) (term : Term) (c : Cell) → (c.split_key ≡ key → ⊥) → is_it key term c ≡ false
not_it-other key term c h = grind (arith, nat_tests)

-- what the answer says of the node that was read
pub held : (s : Slab ListNode) (at : ℕ) (term : Term) (node : ListNode) (answer says : Bool) → get s at ≡ Some node → HoldsAt s at term answer → answer ≡ says → holds term node.item ≡ says
held s at term node answer says is h e =
    let same : node ≡ h.node = cc (is, h.is) in
    ap (λ (n : ListNode). holds term n.item) same ∙ (sym h.holds ∙ e)
