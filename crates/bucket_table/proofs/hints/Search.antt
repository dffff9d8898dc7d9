-- A search from the first item of an interval.
use Rattle.std.proofs.Common.{◌≡◌, ◌≢◌, ℕ, ◌+◌, ◌-◌, ◌*◌, ◌/◌, ◌%◌, ◌^◌, ◌<◌, ◌≤◌, ◌⊎◌, inl, inr, List, [], ◌∷◌, length, map, Option, Some, None, is_some, IsSome, MatchOption, Bool, true, false, cond, nat_eq, nat_lt, ◌&&◌, ◌||◌, count_by, get_or, refl, sym, ◌∙◌, ap, subst, arith}
use Rattle.std.specs.Map.{lookup}
use Rattle.std.proofs.lemmas.Bool.{cases_lt, cases_Bool}
use Rattle.std.proofs.lemmas.Bool.Decides.{nat_tests}
use Rattle.std.proofs.lemmas.List.{length-map}
use Rattle.std.proofs.lemmas.Nat.{mod_below, pow_pos, pow-add}
use Rattle.std.proofs.Math.Nat.{div-lt_iff_lt-mul}
use Rattle.std.proofs.Math.Pow.{pow_mono}
use Rattle.ets_term.specs.declared.term.Term.{Term}
use Rattle.ets_term.specs.Order.{same}
use Rattle.split_key.specs.Keys.{rev, key_of_item, key_of_dummy}
use Rattle.split_key.proofs.Intervals.{rev-bucket}
use Rattle.node_list.specs.declared.node.Item.{Item}
use Rattle.node_list.specs.Cells.{Cell, Sorted, StartsFrom}
use Rattle.node_list.specs.Places.{from, HasDistinctPlaces, IsPlaceOf}
use Rattle.node_list.specs.Search.{holds, is_it, place_of, visited_cells}
use Rattle.node_list.specs.Ticks.{ticks}
use Rattle.node_list.proofs.CellLaws.{from-here, from-on, sorted-from}
use Rattle.node_list.proofs.CallerLaws.{is_item_below, HasOnlyItemsBelow, length-passed}
use Rattle.bucket_table.specs.inside.Nodes.{slots_of}
use Rattle.bucket_table.specs.inside.Directory.{HasSplitKey, HaveSplitKeys, IsInDirectory, DirectoryInvariant}
use Rattle.bucket_table.specs.Visits.{hash_keys, bucket_keys, HasLooked}
use Rattle.bucket_table.specs.inside.Intervals.{is_in, first_in, AreSound, HintsInvariant}
use Rattle.bucket_table.specs.inside.Search.{IsFound, CanStartSearch}
use Rattle.bucket_table.proofs.directory.SplitKeys.{bucket_width, IsItemOf, item-of, bucket-of-key, dummy-alone}
use Rattle.bucket_table.proofs.list.Content.{item-cases, is_it-no, Holds, holds-item, placed-key, found, absent, place_of-on, fresh-apart}
use Rattle.bucket_table.proofs.list.Passed.{count-dummy, count-from, placed-from, hash-passed, other-hasher, below-bucket}
use Rattle.bucket_table.proofs.hints.First.{first-here, first-on, First, first-node}

pub is_in-yes : (width f : ℕ) (c : Cell) (item : Item) → c.split_key / width ≡ f → c.item ≡ Some item → is_in width f c ≡ true
is_in-yes width f c item k e = ap (λ (o : Option Item). nat_eq (c.split_key / width) f && is_some o) e ∙ go (c.split_key / width) f k
  where
    go : (a b : ℕ) → a ≡ b → (nat_eq a b && true) ≡ true
    go a b h = grind (arith, nat_tests)

-- A node of an interval.
pub record Inside (width f : ℕ) (c : Cell) : Type 0 where
  pub item : Item
  pub has : c.item ≡ Some item
  pub key : c.split_key / width ≡ f

in-key : (a b : ℕ) (o : Option Item) → (nat_eq a b && is_some o) ≡ true → a ≡ b
in-key a b None h = grind (arith, nat_tests)
in-key a b (Some item) h = grind (arith, nat_tests)

and-none : (a b : ℕ) → (nat_eq a b && false) ≡ false
and-none a b = elim (nat_eq a b) as (λ z. (z && false) ≡ false) [ true ↦ refl | false ↦ refl ]

in-not-none : (width f : ℕ) (c : Cell) → is_in width f c ≡ true → c.item ≡ None → ⊥
in-not-none width f c h e = let out : is_in width f c ≡ false = ap (λ (o : Option Item). nat_eq (c.split_key / width) f && is_some o) e ∙ and-none (c.split_key / width) f in absurd (cc)

pub inside : (width f : ℕ) (c : Cell) → is_in width f c ≡ true → Inside width f c
inside width f c h =
    elim (item-cases c.item) [
      | inl none ↦ absurd (in-not-none width f c h none)
      | inr some ↦ record { item = some.0; has = some.1; key = in-key (c.split_key / width) f c.item h }
    ]

module _ (hash_of : Term → ℕ) (directory : List (Option ℕ)) (term : Term) (width f : ℕ) where
  abbrev key : ℕ
  key = key_of_item (hash_of term)

  module _ (in_f : key / width ≡ f) where
    -- A node of another interval does not match the key.
    miss-it : (c : Cell) → HasSplitKey hash_of directory c.at c.split_key c.item → is_in width f c ≡ false → is_it key term c ≡ false
    miss-it c p out =
        elim (cases_Bool (holds term c.item)) [
          | inl hit ↦
              let h : Holds term c.item = holds-item term c.item hit in
              let k : c.split_key ≡ key = placed-key hash_of directory c.at c.split_key c.item h.item h.is p ∙ ap (λ (t : Term). key_of_item (hash_of t)) h.same_term in
              let here : is_in width f c ≡ true = is_in-yes width f c h.item (ap (λ (z : ℕ). z / width) k ∙ in_f) h.is in
              absurd (cc)
          | inr miss ↦ is_it-no key term c miss
        ]

    miss-hasher : (c : Cell) (cs : List Cell) → HasSplitKey hash_of directory c.at c.split_key c.item → is_in width f c ≡ false → hash_keys hash_of (hash_of term) (slots_of (c ∷ cs)) ≡ hash_keys hash_of (hash_of term) (slots_of cs)
    miss-hasher c cs p out =
        elim (item-cases c.item) [
          | inl none ↦ count-dummy (λ s. nat_eq (hash_of s.0) (hash_of term)) c cs none
          | inr some ↦
              let differs : c.split_key ≢ key = λ k. (let here : is_in width f c ≡ true = is_in-yes width f c some.0 (ap (λ (z : ℕ). z / width) k ∙ in_f) some.1 in absurd (cc)) in
              other-hasher hash_of directory key (hash_of term) refl c cs p differs
        ]

    pub record FromFirst (p : ℕ) (cs : List Cell) : Type 0 where
      pub found : place_of key term cs ≡ place_of key term (from p cs)
      pub hashes : hash_keys hash_of (hash_of term) (slots_of cs) ≡ hash_keys hash_of (hash_of term) (slots_of (from p cs))

    -- The item of the key is the first one or later.
    pub from-first : (p : ℕ) (cs : List Cell) → HaveSplitKeys hash_of directory cs → HasDistinctPlaces cs → first_in width f cs ≡ Some p → FromFirst p cs
    from-first p [] pl a e = absurd (cc)
    from-first p (c ∷ cs) pl a e =
        elim (cases_Bool (is_in width f c)) [
          | inl hit ↦
              let here : c.at ≡ p = some-is c.at p (first_in width f (c ∷ cs)) (first-here width f c cs hit) e in
              let is : c ∷ cs ≡ from p (c ∷ cs) = sym (from-here p c cs here) in
              record { found = ap (place_of key term) is; hashes = ap (λ (zs : List Cell). hash_keys hash_of (hash_of term) (slots_of zs)) is }
          | inr miss ↦
              let later : first_in width f cs ≡ Some p = sym (first-on width f c cs miss) ∙ e in
              let n = first-node width f p cs a.1 later in
              let on : from p (c ∷ cs) ≡ from p cs = from-on p c cs (fresh-apart c.at p cs n.cell n.later a.0 n.is) in
              let ih = from-first p cs pl.1 a.1 later in
              record {
                found = place_of-on key term c cs (miss-it c pl.0 miss) ∙ (ih.found ∙ ap (place_of key term) (sym on));
                hashes = miss-hasher c cs pl.0 miss ∙ (ih.hashes ∙ ap (λ (zs : List Cell). hash_keys hash_of (hash_of term) (slots_of zs)) (sym on));
              }
        ]
      where
        some-is : (a b : ℕ) (o : Option ℕ) → o ≡ Some a → o ≡ Some b → a ≡ b
        some-is a b o e g = cc

    pub record Nothing (cs : List Cell) : Type 0 where
      pub found : place_of key term cs ≡ None
      pub hashes : hash_keys hash_of (hash_of term) (slots_of cs) ≡ 0

    -- An empty interval has no item of the key.
    pub from-empty : (cs : List Cell) → HaveSplitKeys hash_of directory cs → first_in width f cs ≡ None → Nothing cs
    from-empty [] pl e = record { found = refl; hashes = refl }
    from-empty (c ∷ cs) pl e =
        elim (cases_Bool (is_in width f c)) [
          | inl hit ↦ let is : first_in width f (c ∷ cs) ≡ Some c.at = first-here width f c cs hit in absurd (cc)
          | inr miss ↦
              let ih = from-empty cs pl.1 (sym (first-on width f c cs miss) ∙ e) in
              record { found = place_of-on key term c cs (miss-it c pl.0 miss) ∙ ih.found; hashes = miss-hasher c cs pl.0 miss ∙ ih.hashes }
        ]

-- ---- the bound

starts-later : (low : ℕ) (c : Cell) (cs : List Cell) → low ≤ c.split_key → StartsFrom c.split_key cs → StartsFrom low cs
starts-later low c [] h s = tt
starts-later low c (d ∷ ds) h s = omega (arith, h, s)

-- Within a bucket, after its first split key, there is no dummy.
items-above : (hash_of : Term → ℕ) (directory : List (Option ℕ)) (bucket high : ℕ)
    → ((b : ℕ) → b < length directory → key_of_dummy bucket ≤ key_of_dummy b → key_of_dummy b < high → b ≡ bucket)
    → (cs : List Cell) → StartsFrom (key_of_dummy bucket + 1) cs → Sorted cs → HaveSplitKeys hash_of directory cs → HasOnlyItemsBelow high cs
items-above hash_of directory bucket high only [] s o p = tt
items-above hash_of directory bucket high only (c ∷ cs) s o p = (
  λ less.
      elim (item-cases c.item) [
        | inl none ↦
            let P : Option Item → Type 0 = λ z. HasSplitKey hash_of directory c.at c.split_key z in
            let k : IsInDirectory directory c.at c.split_key = subst P none p.0 in
            let H : ℕ → Type 0 = λ z. z < high in
            let low : key_of_dummy bucket + 1 ≤ c.split_key = s in
            let is : c.split_key ≡ key_of_dummy k.bucket = k.is in
            let b : k.bucket ≡ bucket = only k.bucket k.below (omega (arith, low, is)) (subst H k.is less) in
            let same' : key_of_dummy k.bucket ≡ key_of_dummy bucket = ap key_of_dummy b in
            absurd (omega (arith, low, is, same'))
        | inr some ↦ ap is_some some.1
      ],
  items-above hash_of directory bucket high only cs (starts-later (key_of_dummy bucket + 1) c cs s o.0) o.1 p.1,
)

-- Two numbers of one interval are on the same side of each border.
same-side : (m width a b : ℕ) → 0 < width → m * width ≤ a → a / width ≡ b / width → m * width ≤ b
same-side m width a b some low e =
    elim (cases_lt b (m * width)) [
      | inl less ↦
          let q : b / width < m = (div-lt_iff_lt-mul some).1 less in
          let P : ℕ → Type 0 = λ z. z < m in
          let r : a / width < m = subst P (sym e) q in
          let far : a < m * width = (div-lt_iff_lt-mul some).0 r in
          absurd (omega arith)
      | inr most ↦ most
    ]

aligned : (r k s w : ℕ) → k ≡ s * w → 2 * (r * k) ≡ (r * (2 * w)) * s
aligned r k s w e = let m : r * k ≡ r * (s * w) = ap (λ (z : ℕ). r * z) e in omega (arith, m)

-- A bucket has at least four intervals.
pub four : (j interval_bits : ℕ) → interval_bits + j ≤ 31 → 4 * 2 ^ interval_bits ≤ 2 * 2 ^ (32 - j)
four j interval_bits e =
    let most : interval_bits + 1 ≤ 32 - j = omega arith in
    let p : 2 ^ (interval_bits + 1) ≡ 2 ^ interval_bits * 2 ^ 1 = pow-add 2 interval_bits 1 in
    let q : 2 ^ (interval_bits + 1) ≤ 2 ^ (32 - j) = pow_mono most in
    omega (arith, p, q)

-- A bucket's dummy is at the border of an interval.
pub border : (j interval_bits b : ℕ) → interval_bits + j ≤ 32 → b < 2 ^ j → (m : ℕ) × (key_of_dummy b ≡ m * 2 ^ interval_bits)
border j interval_bits b e within =
    let k : 32 - j ≡ interval_bits + (32 - j - interval_bits) = omega arith in
    let full : j + (32 - j) ≡ 32 = omega arith in
    let P : ℕ → Type 0 = λ w. rev w b ≡ rev j b * 2 ^ (32 - j) in
    let r : rev 32 b ≡ rev j b * 2 ^ (32 - j) = subst P full (rev-bucket j (32 - j) b within) in
    let p : 2 ^ (32 - j) ≡ 2 ^ interval_bits * 2 ^ (32 - j - interval_bits) = ap (λ (z : ℕ). 2 ^ z) k ∙ pow-add 2 interval_bits (32 - j - interval_bits) in
    (rev j b * (2 * 2 ^ (32 - j - interval_bits)), ap (λ (z : ℕ). 2 * z) r ∙ aligned (rev j b) (2 ^ (32 - j)) (2 ^ interval_bits) (2 ^ (32 - j - interval_bits)) p)

-- A bucket's dummy is at the border of an interval, and of one twice as wide.
module _ (hash_of : Term → ℕ) (directory : List (Option ℕ)) (cs : List Cell) (term : Term) (interval_bits : ℕ) (current : List (Option (Option ℕ))) (h : HintsInvariant directory interval_bits current cs) where
  within : hash_of term % length directory < 2 ^ h.doublings
  within =
      let same-mod : hash_of term % length directory ≡ hash_of term % 2 ^ h.doublings = ap (λ (n : ℕ). hash_of term % n) h.size in
      let W : ℕ → Type 0 = λ z. z < 2 ^ h.doublings in
      subst W (sym same-mod) (mod_below (hash_of term) (2 ^ h.doublings) (pow_pos h.doublings))

  narrow : interval_bits + 1 + h.doublings ≤ 32
  narrow = let n : interval_bits + h.doublings ≤ 31 = h.narrow in omega arith

  pub own-edge : (m : ℕ) × (key_of_dummy (hash_of term % length directory) ≡ m * 2 ^ interval_bits)
  own-edge = border h.doublings interval_bits (hash_of term % length directory) (omega (arith, narrow)) within

  pub old-edge : (m : ℕ) × (key_of_dummy (hash_of term % length directory) ≡ m * 2 ^ (interval_bits + 1))
  old-edge = border h.doublings (interval_bits + 1) (hash_of term % length directory) narrow within

pub visited_cells-one : (key : ℕ) (term : Term) (c : Cell) (cs : List Cell) (b : Bool) → (nat_lt key c.split_key || is_it key term c) ≡ b → 1 ≤ length (visited_cells key term (c ∷ cs))
visited_cells-one key term c cs true e = let P : Bool → Type 0 = λ b. 1 ≤ length (cond b (c ∷ []) (c ∷ visited_cells key term cs)) in subst P (sym e) (omega arith)
visited_cells-one key term c cs false e = let P : Bool → Type 0 = λ b. 1 ≤ length (cond b (c ∷ []) (c ∷ visited_cells key term cs)) in subst P (sym e) (omega arith)

-- A search from a node after a bucket's dummy passes at most the items of the bucket and one more node.
pub few-above : (hash_of : Term → ℕ) (directory : List (Option ℕ)) (cs : List Cell) (term : Term) (start : ℕ) (cell : Cell) (later : List Cell) → DirectoryInvariant hash_of directory cs → Sorted cs → from start cs ≡ cell ∷ later → key_of_dummy (hash_of term % length directory) + 1 ≤ cell.split_key → length (visited_cells (key_of_item (hash_of term)) term (from start cs)) ≤ bucket_keys hash_of (length directory) (hash_of term % length directory) (slots_of cs) + 1
few-above hash_of directory cs term start cell later i o is above =
    let few : i.doublings ≤ 20 = i.few in
    let full : i.doublings + (32 - i.doublings) ≡ 32 = omega arith in
    let same-mod : hash_of term % length directory ≡ hash_of term % 2 ^ i.doublings = ap (λ (n : ℕ). hash_of term % n) i.size in
    let m : IsItemOf (hash_of term) (hash_of term % length directory) (2 ^ i.doublings) = item-of i.doublings (32 - i.doublings) (hash_of term) (hash_of term % length directory) full same-mod in
    let W : ℕ → Type 0 = λ z. z < 2 ^ i.doublings in
    let within : hash_of term % length directory < 2 ^ i.doublings = subst W (sym same-mod) (mod_below (hash_of term) (2 ^ i.doublings) (pow_pos i.doublings)) in
    let at-least : key_of_dummy (hash_of term % length directory) ≤ cell.split_key = omega (arith, above) in
    let pl = placed-from hash_of directory start cs i.placed in
    let so = sorted-from start cs o in
    let T : List Cell → Type 0 = λ zs. StartsFrom (key_of_dummy (hash_of term % length directory) + 1) zs in
    let U : List Cell → Type 0 = λ zs. StartsFrom (key_of_dummy (hash_of term % length directory)) zs in
    let starts : StartsFrom (key_of_dummy (hash_of term % length directory) + 1) (from start cs) = subst T (sym is) above in
    let starts' : StartsFrom (key_of_dummy (hash_of term % length directory)) (from start cs) = subst U (sym is) at-least in
    let alone : (c : ℕ) → c < length directory → key_of_dummy (hash_of term % length directory) ≤ key_of_dummy c → key_of_dummy c < key_of_dummy (hash_of term % length directory) + bucket_width (2 ^ i.doublings) → c ≡ hash_of term % length directory =
    λ c below l u. (let Q : ℕ → Type 0 = λ z. c < z in dummy-alone i.doublings (32 - i.doublings) (hash_of term % length directory) c full within (subst Q i.size below) l u) in
    let items : HasOnlyItemsBelow (key_of_dummy (hash_of term % length directory) + bucket_width (2 ^ i.doublings)) (from start cs) =
    items-above hash_of directory (hash_of term % length directory) (key_of_dummy (hash_of term % length directory) + bucket_width (2 ^ i.doublings)) alone (from start cs) starts so pl in
    let most : length (visited_cells (key_of_item (hash_of term)) term (from start cs)) ≤ count_by (is_item_below (key_of_dummy (hash_of term % length directory) + bucket_width (2 ^ i.doublings))) (from start cs) + 1 =
    length-passed (key_of_item (hash_of term)) term (key_of_dummy (hash_of term % length directory) + bucket_width (2 ^ i.doublings)) (from start cs) so m.high items in
    let only : (g : ℕ) → key_of_dummy (hash_of term % length directory) ≤ key_of_item g → key_of_item g < key_of_dummy (hash_of term % length directory) + bucket_width (2 ^ i.doublings) → g % length directory ≡ hash_of term % length directory =
    λ g l u. ap (λ (z : ℕ). g % z) i.size ∙ bucket-of-key i.doublings (32 - i.doublings) g (hash_of term % length directory) full within l u in
    let mine : count_by (is_item_below (key_of_dummy (hash_of term % length directory) + bucket_width (2 ^ i.doublings))) (from start cs) ≤ bucket_keys hash_of (length directory) (hash_of term % length directory) (slots_of (from start cs)) =
    below-bucket hash_of directory (length directory) (hash_of term % length directory) (key_of_dummy (hash_of term % length directory)) (key_of_dummy (hash_of term % length directory) + bucket_width (2 ^ i.doublings)) only (from start cs) starts' so pl in
    let part = count-from (λ t. nat_eq (hash_of t.0 % length directory) (hash_of term % length directory)) start cs in
    omega (arith, most, mine, part)

module _ (hash_of : Term → ℕ) (directory : List (Option ℕ)) (cs : List Cell) (term : Term) (interval_bits first m : ℕ) (i : DirectoryInvariant hash_of directory cs) (edge : key_of_dummy (hash_of term % length directory) ≡ m * 2 ^ interval_bits) (o : Sorted cs) (a : HasDistinctPlaces cs)
    (is : first_in (2 ^ interval_bits) (key_of_item (hash_of term) / 2 ^ interval_bits) cs ≡ Some first) where
  pub node : First (2 ^ interval_bits) (key_of_item (hash_of term) / 2 ^ interval_bits) first cs
  node = first-node (2 ^ interval_bits) (key_of_item (hash_of term) / 2 ^ interval_bits) first cs a is

  searched : FromFirst hash_of directory term (2 ^ interval_bits) (key_of_item (hash_of term) / 2 ^ interval_bits) refl first cs
  searched = from-first hash_of directory term (2 ^ interval_bits) (key_of_item (hash_of term) / 2 ^ interval_bits) refl first cs i.placed a is

  pub first-is_place : IsPlaceOf first cs
  first-is_place = record { cell = node.cell; later = node.later; is = node.is }

  pub first-answer : (r : Option ℕ) → r ≡ place_of (key_of_item (hash_of term)) term (from first cs) → MatchOption r (lookup (same term) (slots_of cs) ≡ None) (λ at. IsFound term at cs)
  first-answer None r = absent hash_of directory (key_of_item (hash_of term)) term refl cs i.placed (searched.found ∙ sym r)
  first-answer (Some at) r = found hash_of directory (key_of_item (hash_of term)) term refl at cs i.placed a (searched.found ∙ sym r)

  few-first : length (visited_cells (key_of_item (hash_of term)) term (from first cs)) ≤ bucket_keys hash_of (length directory) (hash_of term % length directory) (slots_of cs) + 1
  few-first =
      let few : i.doublings ≤ 20 = i.few in
      let full : i.doublings + (32 - i.doublings) ≡ 32 = omega arith in
      let same-mod : hash_of term % length directory ≡ hash_of term % 2 ^ i.doublings = ap (λ (n : ℕ). hash_of term % n) i.size in
      let it : IsItemOf (hash_of term) (hash_of term % length directory) (2 ^ i.doublings) = item-of i.doublings (32 - i.doublings) (hash_of term) (hash_of term % length directory) full same-mod in
      let n = node in
      let ins = inside (2 ^ interval_bits) (key_of_item (hash_of term) / 2 ^ interval_bits) n.cell n.inside in
      let low : key_of_dummy (hash_of term % length directory) < key_of_item (hash_of term) = it.low in
      let L : ℕ → Type 0 = λ z. z ≤ key_of_item (hash_of term) in
      let M : ℕ → Type 0 = λ z. z ≤ n.cell.split_key in
      let low' : key_of_dummy (hash_of term % length directory) ≤ key_of_item (hash_of term) = omega arith in
      let at-least : key_of_dummy (hash_of term % length directory) ≤ n.cell.split_key =
      subst M (sym edge) (same-side m (2 ^ interval_bits) (key_of_item (hash_of term)) n.cell.split_key (pow_pos interval_bits) (subst L edge low') (sym ins.key)) in
      let R : List Cell → Type 0 = λ zs. HaveSplitKeys hash_of directory zs in
      let pl = placed-from hash_of directory first cs i.placed in
      let pl' : HaveSplitKeys hash_of directory (n.cell ∷ n.later) = subst R n.is pl in
      let k : n.cell.split_key ≡ key_of_item (hash_of ins.item.term) = placed-key hash_of directory n.cell.at n.cell.split_key n.cell.item ins.item ins.has pl'.0 in
      few-above hash_of directory cs term first n.cell n.later i o n.is (omega (arith, at-least, k))

  pub first-looked : (old new : ℕ) → new ≡ ticks (length (visited_cells (key_of_item (hash_of term)) term (from first cs))) old → HasLooked hash_of (slots_of cs) (map is_some directory) term old new
  first-looked old new t =
      let len : length (map is_some directory) ≡ length directory = length-map directory is_some in
      let n = node in
      let P : ℕ → Type 0 = λ n. length (visited_cells (key_of_item (hash_of term)) term (from first cs)) ≤ bucket_keys hash_of n (hash_of term % n) (slots_of cs) + 1 in
      let few = subst P (sym len) few-first in
      let one : 1 ≤ length (visited_cells (key_of_item (hash_of term)) term (from first cs)) =
      (let Q : List Cell → Type 0 = λ zs. 1 ≤ length (visited_cells (key_of_item (hash_of term)) term zs) in subst Q (sym n.is) (visited_cells-one (key_of_item (hash_of term)) term n.cell n.later (nat_lt (key_of_item (hash_of term)) n.cell.split_key || is_it (key_of_item (hash_of term)) term n.cell) refl)) in
      record {
        nodes = length (visited_cells (key_of_item (hash_of term)) term (from first cs));
        ticked = t;
        present = λ _. one;
        absent = λ gone.
            (let none : place_of (key_of_item (hash_of term)) term (from first cs) ≡ None = none-found gone in
            let m = hash-passed hash_of directory (key_of_item (hash_of term)) (hash_of term) refl term (from first cs) (sorted-from first cs o) (placed-from hash_of directory first cs i.placed) none in
            let e = searched.hashes in omega (arith, m, e));
        bound = λ _. omega (arith, few);
      }
    where
      option-cases : (r : Option ℕ) → (r ≡ None) ⊎ ((at : ℕ) × (r ≡ Some at))
      option-cases None = inl refl
      option-cases (Some at) = inr (at, refl)

      none-found : lookup (same term) (slots_of cs) ≡ None → place_of (key_of_item (hash_of term)) term (from first cs) ≡ None
      none-found gone =
          elim (option-cases (place_of (key_of_item (hash_of term)) term (from first cs))) [
            | inl none ↦ none
            | inr some ↦ let f = first-answer (Some some.0) (sym some.1) in absurd (cc (f.objects, gone))
          ]

  pub own-start : CanStartSearch hash_of directory term first cs
  own-start = record { is_place = first-is_place; finds = first-answer; looks = first-looked }

-- ---- an empty interval

module _ (hash_of : Term → ℕ) (directory : List (Option ℕ)) (cs : List Cell) (term : Term) (width : ℕ) (i : DirectoryInvariant hash_of directory cs) (is : first_in width (key_of_item (hash_of term) / width) cs ≡ None) where
  nothing : Nothing hash_of directory term width (key_of_item (hash_of term) / width) refl cs
  nothing = from-empty hash_of directory term width (key_of_item (hash_of term) / width) refl cs i.placed is

  pub empty-absent : lookup (same term) (slots_of cs) ≡ None
  empty-absent = absent hash_of directory (key_of_item (hash_of term)) term refl cs i.placed nothing.found

  some-none : IsSome (lookup (same term) (slots_of cs)) → ⊥
  some-none s = go (lookup (same term) (slots_of cs)) empty-absent s
    where
      go : (r : Option (List Term)) → r ≡ None → IsSome r → ⊥
      go None e s = absurd (cc)
      go (Some x) e s = absurd (cc)

  no-ticks : (old : ℕ) → old < 2 ^ 64 → old ≡ ticks 0 old
  no-ticks old h = omega arith

  pub empty-looked : (old : ℕ) → old < 2 ^ 64 → HasLooked hash_of (slots_of cs) (map is_some directory) term old old
  empty-looked old h = record {
    nodes = 0;
    ticked = no-ticks old h;
    present = λ s. absurd (some-none s);
    absent = λ _. (let e = nothing.hashes in omega (arith, e));
    bound = λ _. omega arith;
  }

-- A hint that was read is right.
pub hint-says : (width : ℕ) (current : List (Option (Option ℕ))) (cs : List Cell) (k key' : ℕ) (hint : Option (Option ℕ)) (first : Option ℕ) → AreSound width current cs → hint ≡ get_or current (k / width) None → hint ≡ Some first → k ≡ key' → first_in width (key' / width) cs ≡ first
hint-says width current cs k key' hint first h read is e = ap (λ (z : ℕ). first_in width (z / width) cs) (sym e) ∙ h (k / width) first (sym read ∙ is)
