-- What callers of a `NodeList` need: the nodes after a change, and the length of a search.
use Rattle.std.proofs.Common.{◌≡◌, ◌≢◌, ℕ, ◌+◌, ◌<◌, ◌≤◌, inl, inr, List, [], ◌∷◌, length, Some, None, is_some, Bool, true, false, cond, nat_lt, count_by, ◌&&◌, ◌||◌, refl, sym, ◌∙◌, ap, subst, arith}
use Rattle.std.proofs.lemmas.Bool.{cases_lt, cases_eq}
use Rattle.std.proofs.lemmas.Bool.Decides.{nat_tests}
use Rattle.std.proofs.lemmas.List.Sums.{sum_by-cons}
use Rattle.ets_term.specs.declared.term.Term.{Term}
use Rattle.node_list.specs.declared.node.Item.{Item}
use Rattle.node_list.specs.Cells.{Cell, Sorted, StartsWithDummy, new_cell}
use Rattle.node_list.specs.Places.{IsFresh, IsPlaceOf, HasSplitKeyAtMost, HasItem, from, cells_after, all_but_first, first_place}
use Rattle.node_list.specs.Search.{is_it, place_of, visited_cells}
use Rattle.node_list.specs.Changes.{put_cell, without}
use Rattle.node_list.proofs.CellLaws.{put-past, put-on, from-here, from-on, without-here, without-on, at-most-from, search-past, search-on}
use Rattle.node_list.proofs.PlaceLaws.{from-has, fresh-other}

-- the key of the head is at most every key
pub head-has_key_at_most : (at key : ℕ) (cs : List Cell) → first_place cs ≡ Some at → StartsWithDummy cs → HasSplitKeyAtMost key at cs
head-has_key_at_most at key [] e d = absurd d
head-has_key_at_most at key (c ∷ cs) e d =
    let same : c.at ≡ at = cc in
    let zero : c.split_key ≡ 0 = d.0 in
    record { cell = c; later = cs; is = from-here at c cs same; up_to = omega arith }

pub head-is_place : (at : ℕ) (cs : List Cell) → first_place cs ≡ Some at → StartsWithDummy cs → IsPlaceOf at cs
head-is_place at cs e d = let s = head-has_key_at_most at 0 cs e d in record { cell = s.cell; later = s.later; is = s.is }

pub item-is_place : (at : ℕ) (cs : List Cell) → HasItem at cs → IsPlaceOf at cs
item-is_place at cs h = record { cell = h.cell; later = h.later; is = h.is }

-- every item is after the head
pub item-after_head : (head at : ℕ) (cs : List Cell) → first_place cs ≡ Some head → StartsWithDummy cs → HasItem at cs → HasItem at (cells_after head cs)
item-after_head head at [] e d h = absurd d
item-after_head head at (c ∷ cs) e d h =
    let first : c.at ≡ head = cc in
    let P : List Cell → Type 0 = λ zs. HasItem at (all_but_first zs) in
    elim (cases_eq c.at at) [
      | inl here ↦
          let same : c ≡ h.cell = cc (sym (from-here at c cs here) ∙ h.is) in
          let has : c.item ≡ Some h.item = ap (λ (z : Cell). z.item) same ∙ h.has in
          let none : c.item ≡ None = d.1 in
          absurd (cc (has, none))
      | inr other ↦
          subst P (sym (from-here head c cs first)) (record { cell = h.cell; later = h.later; item = h.item; is = sym (from-on at c cs other) ∙ h.is; has = h.has })
    ]

-- ---- after an insertion

pub put-from_new : (x : Cell) (cs : List Cell) → IsFresh x.at cs → (later : List Cell) × (from x.at (put_cell x cs) ≡ x ∷ later)
put-from_new x [] f = ([], from-here x.at x [] refl)
put-from_new x (c ∷ cs) f =
    let P : List Cell → Type 0 = λ zs. (later : List Cell) × (from x.at zs ≡ x ∷ later) in
    elim (cases_lt x.split_key c.split_key) [
      | inl past ↦ subst P (sym (put-past x c cs past)) (c ∷ cs, from-here x.at x (c ∷ cs) refl)
      | inr on ↦
          let later = put-from_new x cs f.1 in
          subst P (sym (put-on x c cs on)) (later.0, from-on x.at c (put_cell x cs) f.0 ∙ later.1)
    ]

pub put-has_item : (at key : ℕ) (item : Item) (old new : List Cell) → new ≡ put_cell (new_cell at key (Some item)) old → IsFresh at old → HasItem at new
put-has_item at key item old new e f =
    let P : List Cell → Type 0 = λ zs. HasItem at zs in
    let s = put-from_new (new_cell at key (Some item)) old f in
    subst P (sym e) (record { cell = new_cell at key (Some item); later = s.0; item = item; is = s.1; has = refl })

pub put-from_other : (x : Cell) (cs : List Cell) (at : ℕ) (d : Cell) (ds : List Cell) → x.at ≢ at → from at cs ≡ d ∷ ds → (later : List Cell) × (from at (put_cell x cs) ≡ d ∷ later)
put-from_other x [] at d ds n e = absurd (cc)
put-from_other x (c ∷ cs) at d ds n e =
    let P : List Cell → Type 0 = λ zs. (later : List Cell) × (from at zs ≡ d ∷ later) in
    elim (cases_lt x.split_key c.split_key) [
      | inl past ↦ subst P (sym (put-past x c cs past)) (ds, from-on at x (c ∷ cs) n ∙ e)
      | inr on ↦
          subst P (sym (put-on x c cs on))
          (elim (cases_eq c.at at) [
            | inl here ↦
                let same : c ≡ d = cc (sym (from-here at c cs here) ∙ e) in
                (put_cell x cs, from-here at c (put_cell x cs) here ∙ ap (λ (z : Cell). z ∷ put_cell x cs) same)
            | inr other ↦
                let later = put-from_other x cs at d ds n (sym (from-on at c cs other) ∙ e) in
                (later.0, from-on at c (put_cell x cs) other ∙ later.1)
          ])
    ]

-- an insertion keeps an item at its place
pub put-keeps_item : (at : ℕ) (x : Cell) (old new : List Cell) → new ≡ put_cell x old → IsFresh x.at old → HasItem at old → HasItem at new
put-keeps_item at x old new e f h =
    let P : List Cell → Type 0 = λ zs. HasItem at zs in
    let s = put-from_other x old at h.cell h.later (fresh-other at x.at old (from-has at old h.cell h.later h.is) f) h.is in
    subst P (sym e) (record { cell = h.cell; later = s.0; item = h.item; is = s.1; has = h.has })

pub put-fresh : (x : Cell) (cs : List Cell) (at : ℕ) → x.at ≢ at → IsFresh at cs → IsFresh at (put_cell x cs)
put-fresh x [] at n f = (n, tt)
put-fresh x (c ∷ cs) at n f =
    let P : List Cell → Type 0 = λ zs. IsFresh at zs in
    elim (cases_lt x.split_key c.split_key) [
      | inl past ↦ subst P (sym (put-past x c cs past)) (n, f)
      | inr on ↦ subst P (sym (put-on x c cs on)) (f.0, put-fresh x cs at n f.1)
    ]

-- ---- after a removal

pub without-from_other : (gone : ℕ) (cs : List Cell) (at : ℕ) (d : Cell) (ds : List Cell) → gone ≢ at → from at cs ≡ d ∷ ds → (later : List Cell) × (from at (without gone cs) ≡ d ∷ later)
without-from_other gone [] at d ds n e = absurd (cc)
without-from_other gone (c ∷ cs) at d ds n e =
    let P : List Cell → Type 0 = λ zs. (later : List Cell) × (from at zs ≡ d ∷ later) in
    elim (cases_eq c.at gone) [
      | inl here ↦
          let other : c.at ≢ at = λ same. n (sym here ∙ same) in
          subst P (sym (without-here gone c cs here)) (ds, sym (from-on at c cs other) ∙ e)
      | inr stays ↦
          subst P (sym (without-on gone c cs stays))
          (elim (cases_eq c.at at) [
            | inl here ↦
                let same : c ≡ d = cc (sym (from-here at c cs here) ∙ e) in
                (without gone cs, from-here at c (without gone cs) here ∙ ap (λ (z : Cell). z ∷ without gone cs) same)
            | inr other ↦
                let later = without-from_other gone cs at d ds n (sym (from-on at c cs other) ∙ e) in
                (later.0, from-on at c (without gone cs) other ∙ later.1)
          ])
    ]

-- ---- search

not_it-lower : (key : ℕ) (term : Term) (c : Cell) → c.split_key < key → is_it key term c ≡ false
not_it-lower key term c h = grind (arith, nat_tests)

-- a search from a node of a lower key finds what a search of the whole list finds
pub place_of-from : (key : ℕ) (term : Term) (start : ℕ) (cs : List Cell) (d : Cell) (ds : List Cell) → Sorted cs → from start cs ≡ d ∷ ds → d.split_key < key → place_of key term cs ≡ place_of key term (d ∷ ds)
place_of-from key term start [] d ds o e h = absurd (cc)
place_of-from key term start (c ∷ cs) d ds o e h =
    elim (cases_eq c.at start) [
      | inl here ↦ ap (place_of key term) (sym (from-here start c cs here) ∙ e)
      | inr other ↦
          let later : from start cs ≡ d ∷ ds = sym (from-on start c cs other) ∙ e in
          let low : c.split_key ≤ d.split_key = at-most-from start c.split_key cs d ds o.0 o.1 later in
          let no : is_it key term c ≡ false = not_it-lower key term c (omega arith) in
          (search-on key term c cs (omega arith) no).found ∙ place_of-from key term start cs d ds o.1 later h
    ]

-- an item below a key
abbrev pub is_item_below : ℕ → Cell → Bool
is_item_below high c = nat_lt c.split_key high && is_some c.item

-- below this key there are only items
abbrev pub HasOnlyItemsBelow : ℕ → List Cell → Type 0
HasOnlyItemsBelow high [] = Unit {0}
HasOnlyItemsBelow high (c ∷ cs) = (c.split_key < high → is_some c.item ≡ true) × HasOnlyItemsBelow high cs

one-more-at-most : (key : ℕ) (term : Term) (c : Cell) (cs : List Cell) (b : Bool) → (nat_lt key c.split_key || is_it key term c) ≡ b → length (visited_cells key term (c ∷ cs)) ≤ length (visited_cells key term cs) + 1
one-more-at-most key term c cs true e = let P : Bool → Type 0 = λ b. length (cond b (c ∷ []) (c ∷ visited_cells key term cs)) ≤ length (visited_cells key term cs) + 1 in subst P (sym e) (omega arith)
one-more-at-most key term c cs false e = let P : Bool → Type 0 = λ b. length (cond b (c ∷ []) (c ∷ visited_cells key term cs)) ≤ length (visited_cells key term cs) + 1 in subst P (sym e) (omega arith)

count-yes : (p : Cell → Bool) (c : Cell) (cs : List Cell) → p c ≡ true → count_by p (c ∷ cs) ≡ count_by p cs + 1
count-yes p c cs h = sum_by-cons (λ z. cond (p z) 1 0) c cs ∙ rw h (omega arith)

is_item_below-yes : (high : ℕ) (c : Cell) → c.split_key < high → is_some c.item ≡ true → is_item_below high c ≡ true
is_item_below-yes high c h e = grind (arith, nat_tests)

-- a search for a key below `high` passes the items below `high`, and one more node
pub length-passed : (key : ℕ) (term : Term) (high : ℕ) (cs : List Cell) → Sorted cs → key < high → HasOnlyItemsBelow high cs → length (visited_cells key term cs) ≤ count_by (is_item_below high) cs + 1
length-passed key term high [] o h b = omega arith
length-passed key term high (c ∷ cs) o h b =
    elim (cases_lt c.split_key high) [
      | inl low ↦
          omega (arith, one-more-at-most key term c cs (nat_lt key c.split_key || is_it key term c) refl, length-passed key term high cs o.1 h b.1, count-yes (is_item_below high) c cs (is_item_below-yes high c low (b.0 low)))
      | inr past ↦ let far : key < c.split_key = omega arith in omega (arith, (search-past key term c cs o far).passed)
    ]
