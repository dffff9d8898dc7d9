-- The number of nodes that a search passes, compared with the slots.
use Rattle.std.proofs.Common.{◌≡◌, ◌≢◌, ℕ, ◌+◌, ◌%◌, ◌<◌, ◌≤◌, inl, inr, List, [], ◌∷◌, length, Option, Some, None, Bool, true, false, cond, nat_eq, count_by, refl, sym, ◌∙◌, ap, subst, arith}
use Rattle.std.proofs.lemmas.Bool.{cases_lt, cases_eq, cases_Bool}
use Rattle.std.proofs.lemmas.Bool.Decides.{nat_tests}
use Rattle.std.proofs.lemmas.List.Sums.{sum_by-cons}
use Rattle.ets_term.specs.declared.term.Term.{Term}
use Rattle.split_key.specs.Keys.{key_of_item}
use Rattle.node_list.specs.declared.node.Item.{Item}
use Rattle.node_list.specs.Cells.{Cell, Sorted, StartsFrom}
use Rattle.node_list.specs.Places.{from, HasDistinctPlaces}
use Rattle.node_list.specs.Search.{is_it, place_of, visited_cells}
use Rattle.node_list.proofs.CellLaws.{from-here, from-on, at-most-from, search-on}
use Rattle.node_list.proofs.CallerLaws.{is_item_below}
use Rattle.bucket_table.specs.Slots.{Slot}
use Rattle.bucket_table.specs.inside.Nodes.{slots_of, with_slot}
use Rattle.bucket_table.specs.inside.Directory.{HasSplitKey, HaveSplitKeys}
use Rattle.bucket_table.specs.Visits.{hash_keys, bucket_keys}
use Rattle.bucket_table.proofs.list.Content.{item-cases, placed-key}

-- ---- counts of slots, a node at a time

pub count-dummy : (p : Slot → Bool) (c : Cell) (cs : List Cell) → c.item ≡ None → count_by p (slots_of (c ∷ cs)) ≡ count_by p (slots_of cs)
count-dummy p c cs e = ap (λ (o : Option Item). count_by p (with_slot o (slots_of cs))) e

abbrev one_if : Bool → ℕ
one_if true = 1
one_if false = 0

one-if : (b : Bool) → one_if b ≡ cond b 1 0
one-if true = refl
one-if false = refl

count-item : (p : Slot → Bool) (c : Cell) (cs : List Cell) (item : Item) → c.item ≡ Some item → count_by p (slots_of (c ∷ cs)) ≡ one_if (p (item.term, item.chain)) + count_by p (slots_of cs)
count-item p c cs item e = ap (λ (o : Option Item). count_by p (with_slot o (slots_of cs))) e ∙ (sum_by-cons (λ z. cond (p z) 1 0) (item.term, item.chain) (slots_of cs) ∙ ap (λ (n : ℕ). n + count_by p (slots_of cs)) (sym (one-if (p (item.term, item.chain)))))

count-out : (p : Slot → Bool) (c : Cell) (cs : List Cell) (item : Item) → c.item ≡ Some item → p (item.term, item.chain) ≡ false → count_by p (slots_of (c ∷ cs)) ≡ count_by p (slots_of cs)
count-out p c cs item e out = let f : one_if (p (item.term, item.chain)) ≡ 0 = ap one_if out in omega (arith, count-item p c cs item e, f)

count-in : (p : Slot → Bool) (c : Cell) (cs : List Cell) (item : Item) → c.item ≡ Some item → p (item.term, item.chain) ≡ true → count_by p (slots_of (c ∷ cs)) ≡ count_by p (slots_of cs) + 1
count-in p c cs item e out = let f : one_if (p (item.term, item.chain)) ≡ 1 = ap one_if out in omega (arith, count-item p c cs item e, f)

pub record OneMore (p : Slot → Bool) (c : Cell) (cs : List Cell) : Type 0 where
  pub least : count_by p (slots_of cs) ≤ count_by p (slots_of (c ∷ cs))
  pub most : count_by p (slots_of (c ∷ cs)) ≤ count_by p (slots_of cs) + 1

pub one-more : (p : Slot → Bool) (c : Cell) (cs : List Cell) → OneMore p c cs
one-more p c cs =
    elim (item-cases c.item) [
      | inl none ↦ let e = count-dummy p c cs none in record { least = omega (arith, e); most = omega (arith, e) }
      | inr some ↦
          elim (cases_Bool (p (some.0.term, some.0.chain))) [
            | inl counts ↦ let e = count-in p c cs some.0 some.1 counts in record { least = omega (arith, e); most = omega (arith, e) }
            | inr out ↦ let e = count-out p c cs some.0 some.1 out in record { least = omega (arith, e); most = omega (arith, e) }
          ]
    ]

-- The nodes from a place on have at most as many.
pub count-from : (p : Slot → Bool) (at : ℕ) (cs : List Cell) → count_by p (slots_of (from at cs)) ≤ count_by p (slots_of cs)
count-from p at [] = omega arith
count-from p at (c ∷ cs) =
    let P : List Cell → Type 0 = λ zs. count_by p (slots_of zs) ≤ count_by p (slots_of (c ∷ cs)) in
    elim (cases_eq c.at at) [
      | inl here ↦ subst P (sym (from-here at c cs here)) (omega arith)
      | inr other ↦ subst P (sym (from-on at c cs other)) (omega (arith, count-from p at cs, (one-more p c cs).least))
    ]

-- ---- a list from a place on

pub placed-from : (hash_of : Term → ℕ) (directory : List (Option ℕ)) (at : ℕ) (cs : List Cell) → HaveSplitKeys hash_of directory cs → HaveSplitKeys hash_of directory (from at cs)
placed-from hash_of directory at [] p = p
placed-from hash_of directory at (c ∷ cs) p =
    let P : List Cell → Type 0 = λ zs. HaveSplitKeys hash_of directory zs in
    elim (cases_eq c.at at) [
      | inl here ↦ subst P (sym (from-here at c cs here)) p
      | inr other ↦ subst P (sym (from-on at c cs other)) (placed-from hash_of directory at cs p.1)
    ]

pub apart-from : (at : ℕ) (cs : List Cell) → HasDistinctPlaces cs → HasDistinctPlaces (from at cs)
apart-from at [] a = a
apart-from at (c ∷ cs) a =
    let P : List Cell → Type 0 = λ zs. HasDistinctPlaces zs in
    elim (cases_eq c.at at) [
      | inl here ↦ subst P (sym (from-here at c cs here)) a
      | inr other ↦ subst P (sym (from-on at c cs other)) (apart-from at cs a.1)
    ]

-- ---- the keys of one hash

not-equal : (a b : ℕ) → a ≢ b → nat_eq a b ≡ false
not-equal a b h = grind (arith, nat_tests)

pub equal : (a b : ℕ) → a ≡ b → nat_eq a b ≡ true
equal a b h = grind (arith, nat_tests)

module _ (hash_of : Term → ℕ) (directory : List (Option ℕ)) (key hash : ℕ) (is : key ≡ key_of_item hash) where
  -- An item of another split key has another hash.
  pub other-hasher : (c : Cell) (cs : List Cell) → HasSplitKey hash_of directory c.at c.split_key c.item → c.split_key ≢ key → hash_keys hash_of hash (slots_of (c ∷ cs)) ≡ hash_keys hash_of hash (slots_of cs)
  other-hasher c cs p n =
      elim (item-cases c.item) [
        | inl none ↦ count-dummy (λ s. nat_eq (hash_of s.0) hash) c cs none
        | inr some ↦
            let differs : hash_of some.0.term ≢ hash = λ e. n (placed-key hash_of directory c.at c.split_key c.item some.0 some.1 p ∙ (ap key_of_item e ∙ sym is)) in
            count-out (λ s. nat_eq (hash_of s.0) hash) c cs some.0 some.1 (not-equal (hash_of some.0.term) hash differs)
      ]

  hash-beyond : (bound : ℕ) (cs : List Cell) → key < bound → StartsFrom bound cs → Sorted cs → HaveSplitKeys hash_of directory cs → hash_keys hash_of hash (slots_of cs) ≡ 0
  hash-beyond bound [] h s o p = refl
  hash-beyond bound (c ∷ cs) h s o p =
      let past : key < c.split_key = omega (arith, h, s) in
      let differs : c.split_key ≢ key = λ e. (let f : c.split_key ≡ key = e in absurd (omega arith)) in
      other-hasher c cs p.0 differs ∙ hash-beyond c.split_key cs past o.0 o.1 p.1

  -- A search that finds nothing passes all of them.
  pub hash-passed : (term : Term) (cs : List Cell) → Sorted cs → HaveSplitKeys hash_of directory cs → place_of key term cs ≡ None → hash_keys hash_of hash (slots_of cs) ≤ length (visited_cells key term cs)
  hash-passed term [] o p e = omega arith
  hash-passed term (c ∷ cs) o p e =
      elim (cases_lt key c.split_key) [
        | inl past ↦
            let differs : c.split_key ≢ key = λ e. (let f : c.split_key ≡ key = e in absurd (omega arith)) in
            omega (arith, other-hasher c cs p.0 differs, hash-beyond c.split_key cs past o.0 o.1 p.1)
        | inr on ↦
            elim (cases_Bool (is_it key term c)) [
              | inl hit ↦
                  let here : place_of key term (c ∷ cs) ≡ Some c.at = ap (λ (b : Bool). cond b (Some c.at) (place_of key term cs)) hit in
                  absurd (cc)
              | inr miss ↦
                  let g = search-on key term c cs on miss in
                  omega (arith, g.passed, hash-passed term cs o.1 p.1 (sym g.found ∙ e), (one-more (λ s. nat_eq (hash_of s.0) hash) c cs).most)
            ]
      ]

  -- All of them come after a node with a lesser split key.
  pub hash-from : (start : ℕ) (cs : List Cell) (d : Cell) (ds : List Cell) → Sorted cs → HaveSplitKeys hash_of directory cs → from start cs ≡ d ∷ ds → d.split_key < key → hash_keys hash_of hash (slots_of cs) ≡ hash_keys hash_of hash (slots_of (from start cs))
  hash-from start [] d ds o p e h = absurd (cc)
  hash-from start (c ∷ cs) d ds o p e h =
      elim (cases_eq c.at start) [
        | inl here ↦ ap (λ (zs : List Cell). hash_keys hash_of hash (slots_of zs)) (sym (from-here start c cs here))
        | inr other ↦
            let later : from start cs ≡ d ∷ ds = sym (from-on start c cs other) ∙ e in
            let low : c.split_key ≤ d.split_key = at-most-from start c.split_key cs d ds o.0 o.1 later in
            let differs : c.split_key ≢ key = λ e. (let f : c.split_key ≡ key = e in absurd (omega arith)) in
            other-hasher c cs p.0 differs
            ∙ (hash-from start cs d ds o.1 p.1 later h ∙ ap (λ (zs : List Cell). hash_keys hash_of hash (slots_of zs)) (sym (from-on start c cs other)))
      ]

-- ---- the keys of one bucket

not-below : (high : ℕ) (c : Cell) → c.item ≡ None → is_item_below high c ≡ false
not-below high c e = grind (arith, nat_tests)

not-low : (high : ℕ) (c : Cell) → high ≤ c.split_key → is_item_below high c ≡ false
not-low high c e = grind (arith, nat_tests)

count-skip : (p : Cell → Bool) (c : Cell) (cs : List Cell) → p c ≡ false → count_by p (c ∷ cs) ≡ count_by p cs
count-skip p c cs h = sum_by-cons (λ z. cond (p z) 1 0) c cs ∙ rw h (omega arith)

count-most : (p : Cell → Bool) (c : Cell) (cs : List Cell) → count_by p (c ∷ cs) ≤ count_by p cs + 1
count-most p c cs =
    let P : ℕ → Type 0 = λ n. n ≤ count_by p cs + 1 in
    elim (cases_Bool (p c)) [
      | inl counts ↦ subst P (sym (sum_by-cons (λ z. cond (p z) 1 0) c cs)) (rw counts (omega arith))
      | inr out ↦ subst P (sym (count-skip p c cs out)) (omega arith)
    ]

module _ (hash_of : Term → ℕ) (directory : List (Option ℕ)) (n b low high : ℕ) where
  -- The items between two split keys are of one bucket.
  pub below-bucket : ((h : ℕ) → low ≤ key_of_item h → key_of_item h < high → h % n ≡ b) → (cs : List Cell) → StartsFrom low cs → Sorted cs → HaveSplitKeys hash_of directory cs → count_by (is_item_below high) cs ≤ bucket_keys hash_of n b (slots_of cs)
  below-bucket only [] s o p = omega arith
  below-bucket only (c ∷ cs) s o p =
      let near : StartsFrom low cs = starts-later low c cs s o.0 in
      let ih = below-bucket only cs near o.1 p.1 in
      elim (item-cases c.item) [
        | inl none ↦ omega (arith, ih, count-skip (is_item_below high) c cs (not-below high c none), count-dummy (λ t. nat_eq (hash_of t.0 % n) b) c cs none)
        | inr some ↦
            elim (cases_lt c.split_key high) [
              | inl less ↦
                  let k : c.split_key ≡ key_of_item (hash_of some.0.term) = placed-key hash_of directory c.at c.split_key c.item some.0 some.1 p.0 in
                  let P : ℕ → Type 0 = λ z. low ≤ z in
                  let Q : ℕ → Type 0 = λ z. z < high in
                  let is : hash_of some.0.term % n ≡ b = only (hash_of some.0.term) (subst P k s) (subst Q k less) in
                  omega (arith, ih, count-most (is_item_below high) c cs, count-in (λ t. nat_eq (hash_of t.0 % n) b) c cs some.0 some.1 (equal (hash_of some.0.term % n) b is))
              | inr past ↦
                  omega (arith, ih, count-skip (is_item_below high) c cs (not-low high c past), (one-more (λ t. nat_eq (hash_of t.0 % n) b) c cs).least)
            ]
      ]
    where
      starts-later : (low : ℕ) (c : Cell) (cs : List Cell) → low ≤ c.split_key → StartsFrom c.split_key cs → StartsFrom low cs
      starts-later low c [] h s = tt
      starts-later low c (d ∷ ds) h s = omega (arith, h, s)
