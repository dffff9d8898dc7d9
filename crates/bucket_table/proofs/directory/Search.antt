-- A search from the dummy of a bucket, or of an earlier one.
use Rattle.std.proofs.Common.{◌≡◌, ℕ, ◌+◌, ◌-◌, ◌%◌, ◌^◌, ◌<◌, ◌≤◌, ◌⊎◌, inl, inr, List, [], ◌∷◌, length, map, Option, Some, None, is_some, MatchOption, true, false, nat_eq, count_by, get_or, refl, sym, ◌∙◌, ap, subst, arith}
use Rattle.std.specs.Map.{lookup}
use Rattle.std.proofs.lemmas.List.{length-map}
use Rattle.std.proofs.lemmas.Nat.{mod_below, pow_pos}
use Rattle.std.proofs.Math.ListN.{get_or-map}
use Rattle.ets_term.specs.declared.term.Term.{Term}
use Rattle.ets_term.specs.Order.{same}
use Rattle.split_key.specs.Keys.{key_of_item, key_of_dummy}
use Rattle.node_list.specs.declared.node.Item.{Item}
use Rattle.node_list.specs.Cells.{Cell, Sorted, StartsFrom, new_cell}
use Rattle.node_list.specs.Places.{from, IsFresh, HasDistinctPlaces, IsPlaceOf, HasSplitKeyAtMost}
use Rattle.node_list.specs.Search.{place_of, visited_cells}
use Rattle.node_list.specs.Ticks.{ticks}
use Rattle.node_list.proofs.CellLaws.{sorted-from, search-on}
use Rattle.node_list.proofs.CallerLaws.{is_item_below, HasOnlyItemsBelow, length-passed, place_of-from}
use Rattle.bucket_table.specs.inside.Nodes.{slots_of}
use Rattle.bucket_table.specs.inside.Directory.{HasSplitKey, HaveSplitKeys, IsInDirectory, DummiesAreListed, DirectoryInvariant, IsStartOf}
use Rattle.bucket_table.specs.Visits.{hash_keys, bucket_keys, HasLooked}
use Rattle.bucket_table.proofs.directory.SplitKeys.{bucket_width, IsItemOf, item-of, bucket-of-key, dummy-alone}
use Rattle.bucket_table.proofs.list.Content.{item-cases, is_it-no, found, absent}
use Rattle.bucket_table.specs.inside.Search.{IsFound}
use Rattle.bucket_table.proofs.list.Passed.{count-dummy, count-from, placed-from, apart-from, hash-passed, hash-from, below-bucket}

pub start-is_place : (directory : List (Option ℕ)) (bucket at key : ℕ) (cs : List Cell) → DummiesAreListed directory cs → IsStartOf directory bucket at → key_of_dummy bucket ≤ key → HasSplitKeyAtMost key at cs
start-is_place directory bucket at key cs h s low =
    let d = h s.nearest at s.entry in
    let before : key_of_dummy s.nearest ≤ key_of_dummy bucket = s.before in
    record { cell = new_cell at (key_of_dummy s.nearest) None; later = d.later; is = d.is; up_to = omega arith }

pub start-is : (directory : List (Option ℕ)) (bucket at : ℕ) (cs : List Cell) → DummiesAreListed directory cs → IsStartOf directory bucket at → IsPlaceOf at cs
start-is directory bucket at cs h s =
    let d = h s.nearest at s.entry in
    record { cell = new_cell at (key_of_dummy s.nearest) None; later = d.later; is = d.is }

starts-later : (low : ℕ) (c : Cell) (cs : List Cell) → low ≤ c.split_key → StartsFrom c.split_key cs → StartsFrom low cs
starts-later low c [] h s = tt
starts-later low c (d ∷ ds) h s = omega (arith, h, s)

some-one : (a b : ℕ) (o p : Option ℕ) → o ≡ p → o ≡ Some a → p ≡ Some b → a ≡ b
some-one a b o p q e f = cc

item-some : (o : Option Item) (item : Item) → o ≡ Some item → is_some o ≡ true
item-some o item e = ap is_some e

-- After a bucket's dummy there is no other dummy within its interval.
items-below : (hash_of : Term → ℕ) (directory : List (Option ℕ)) (bucket at low high : ℕ) → get_or directory bucket None ≡ Some at
    → ((b : ℕ) → b < length directory → low ≤ key_of_dummy b → key_of_dummy b < high → b ≡ bucket)
    → (cs : List Cell) → IsFresh at cs → StartsFrom low cs → Sorted cs → HaveSplitKeys hash_of directory cs → HasOnlyItemsBelow high cs
items-below hash_of directory bucket at low high e only [] f s o p = tt
items-below hash_of directory bucket at low high e only (c ∷ cs) f s o p =
    let near : StartsFrom low cs = starts-later low c cs s o.0 in (
      λ less.
          elim (item-cases c.item) [
            | inl none ↦
                let P : Option Item → Type 0 = λ z. HasSplitKey hash_of directory c.at c.split_key z in
                let k : IsInDirectory directory c.at c.split_key = subst P none p.0 in
                let L : ℕ → Type 0 = λ z. low ≤ z in
                let H : ℕ → Type 0 = λ z. z < high in
                let b : k.bucket ≡ bucket = only k.bucket k.below (subst L k.is s) (subst H k.is less) in
                absurd (f.0 (some-one c.at at (get_or directory k.bucket None) (get_or directory bucket None) (ap (λ (z : ℕ). get_or directory z None) b) k.entry e))
            | inr some ↦ item-some c.item some.0 some.1
          ],
      items-below hash_of directory bucket at low high e only cs f.1 near o.1 p.1,
    )

option-cases : (o : Option ℕ) → (o ≡ None) ⊎ ((at : ℕ) × (o ≡ Some at))
option-cases None = inl refl
option-cases (Some at) = inr (at, refl)

module _ (hash_of : Term → ℕ) (directory : List (Option ℕ)) (cs : List Cell) (term : Term) (bucket start : ℕ) (i : DirectoryInvariant hash_of directory cs) (s : IsStartOf directory bucket start) (e : bucket ≡ hash_of term % length directory) where
  abbrev key : ℕ
  key = key_of_item (hash_of term)

  pub in-bucket : IsItemOf (hash_of term) bucket (2 ^ i.doublings)
  in-bucket = let few : i.doublings ≤ 20 = i.few in item-of i.doublings (32 - i.doublings) (hash_of term) bucket (omega arith) (e ∙ ap (λ (n : ℕ). hash_of term % n) i.size)

  strict : key_of_dummy s.nearest < key
  strict = let low : key_of_dummy bucket < key_of_item (hash_of term) = in-bucket.low in let before : key_of_dummy s.nearest ≤ key_of_dummy bucket = s.before in omega arith

  pub bucket-within : bucket < length directory
  bucket-within =
      let P : ℕ → Type 0 = λ z. z < length directory in
      let some : 0 < length directory = (let q : 0 < 2 ^ i.doublings = pow_pos i.doublings in omega (arith, i.size)) in
      subst P (sym e) (mod_below (hash_of term) (length directory) some)

  abbrev first : Cell
  first = new_cell start (key_of_dummy s.nearest) None

  module _ (o : Sorted cs) (a : HasDistinctPlaces cs) where
    -- A search from the start finds what the whole list has.
    pub whole : place_of key term cs ≡ place_of key term (from start cs)
    whole =
        let d = i.listed s.nearest start s.entry in
        place_of-from key term start cs first d.later o d.is strict ∙ ap (place_of key term) (sym d.is)

    pub search-found : (at : ℕ) → place_of key term (from start cs) ≡ Some at → IsFound term at cs
    search-found at h = found hash_of directory key term refl at cs i.placed a (whole ∙ h)

    pub search-absent : place_of key term (from start cs) ≡ None → lookup (same term) (slots_of cs) ≡ None
    search-absent h = absent hash_of directory key term refl cs i.placed (whole ∙ h)

    none-found : lookup (same term) (slots_of cs) ≡ None → place_of key term (from start cs) ≡ None
    none-found h =
        elim (option-cases (place_of key term (from start cs))) [
          | inl none ↦ none
          | inr some ↦ let f = search-found some.0 some.1 in absurd (cc (f.objects, h))
        ]

    first-passed : length (visited_cells key term (from start cs)) ≡ length (visited_cells key term (i.listed s.nearest start s.entry).later) + 1
    first-passed =
        let d = i.listed s.nearest start s.entry in
        let low : first.split_key ≤ key = (let st : key_of_dummy s.nearest < key = strict in omega arith) in
        ap (λ (zs : List Cell). length (visited_cells key term zs)) d.is ∙ (search-on key term first d.later low (is_it-no key term first refl)).passed

    all-passed : lookup (same term) (slots_of cs) ≡ None → hash_keys hash_of (hash_of term) (slots_of cs) ≤ length (visited_cells key term (from start cs))
    all-passed h =
        let d = i.listed s.nearest start s.entry in
        let n = hash-from hash_of directory key (hash_of term) refl start cs first d.later o i.placed d.is strict in
        let m = hash-passed hash_of directory key (hash_of term) refl term (from start cs) (sorted-from start cs o) (placed-from hash_of directory start cs i.placed) (none-found h) in
        omega (arith, n, m)

    few-passed : s.nearest ≡ bucket → length (visited_cells key term (from start cs)) ≤ bucket_keys hash_of (length directory) bucket (slots_of cs) + 2
    few-passed near =
        let d = i.listed s.nearest start s.entry in
        let n = length directory in
        let j = i.doublings in
        let few : i.doublings ≤ 20 = i.few in
        let full : i.doublings + (32 - i.doublings) ≡ 32 = omega arith in
        let W : ℕ → Type 0 = λ z. bucket < z in
        let within : bucket < 2 ^ j = subst W i.size bucket-within in
        let low = key_of_dummy bucket in
        let high = key_of_dummy bucket + bucket_width (2 ^ j) in
        let A : List Cell → Type 0 = λ zs. HasDistinctPlaces zs in
        let S : List Cell → Type 0 = λ zs. Sorted zs in
        let R : List Cell → Type 0 = λ zs. HaveSplitKeys hash_of directory zs in
        let ap' = subst A d.is (apart-from start cs a) in
        let so = subst S d.is (sorted-from start cs o) in
        let pl = subst R d.is (placed-from hash_of directory start cs i.placed) in
        let L : ℕ → Type 0 = λ b. StartsFrom (key_of_dummy b) d.later in
        let starts : StartsFrom (key_of_dummy bucket) d.later = subst L near so.0 in
        let E : ℕ → Type 0 = λ b. get_or directory b None ≡ Some start in
        let alone : (b : ℕ) → b < length directory → key_of_dummy bucket ≤ key_of_dummy b → key_of_dummy b < key_of_dummy bucket + bucket_width (2 ^ i.doublings) → b ≡ bucket =
        λ b below l h. (let Q : ℕ → Type 0 = λ z. b < z in dummy-alone i.doublings (32 - i.doublings) bucket b full within (subst Q i.size below) l h) in
        let items : HasOnlyItemsBelow (key_of_dummy bucket + bucket_width (2 ^ i.doublings)) d.later =
        items-below hash_of directory bucket start (key_of_dummy bucket) (key_of_dummy bucket + bucket_width (2 ^ i.doublings)) (subst E near s.entry) alone d.later ap'.0 starts so.1 pl.1 in
        let most : length (visited_cells key term d.later) ≤ count_by (is_item_below (key_of_dummy bucket + bucket_width (2 ^ i.doublings))) d.later + 1 =
        length-passed key term (key_of_dummy bucket + bucket_width (2 ^ i.doublings)) d.later so.1 in-bucket.high items in
        let only : (h : ℕ) → key_of_dummy bucket ≤ key_of_item h → key_of_item h < key_of_dummy bucket + bucket_width (2 ^ i.doublings) → h % length directory ≡ bucket =
        λ h l u. ap (λ (z : ℕ). h % z) i.size ∙ bucket-of-key i.doublings (32 - i.doublings) h bucket full within l u in
        let mine : count_by (is_item_below (key_of_dummy bucket + bucket_width (2 ^ i.doublings))) d.later ≤ bucket_keys hash_of (length directory) bucket (slots_of d.later) =
        below-bucket hash_of directory (length directory) bucket (key_of_dummy bucket) (key_of_dummy bucket + bucket_width (2 ^ i.doublings)) only d.later starts so.1 pl.1 in
        let part = count-from (λ t. nat_eq (hash_of t.0 % length directory) bucket) start cs in
        let same' = ap (λ (zs : List Cell). bucket_keys hash_of (length directory) bucket (slots_of zs)) d.is in
        let dummy = count-dummy (λ t. nat_eq (hash_of t.0 % length directory) bucket) first d.later refl in
        omega (arith, first-passed, most, mine, part, same', dummy)

    pub looked : (old new : ℕ) → new ≡ ticks (length (visited_cells key term (from start cs))) old → HasLooked hash_of (slots_of cs) (map is_some directory) term old new
    looked old new t =
        let len : length (map is_some directory) ≡ length directory = length-map directory is_some in
        let ready : get_or (map is_some directory) bucket false ≡ is_some (get_or directory bucket None) = get_or-map is_some directory bucket None in
        let P : ℕ → Type 0 = λ n. get_or (map is_some directory) (hash_of term % n) false ≡ true → length (visited_cells key term (from start cs)) ≤ bucket_keys hash_of n (hash_of term % n) (slots_of cs) + 2 in
        let Q : ℕ → Type 0 = λ b. get_or (map is_some directory) b false ≡ true → length (visited_cells key term (from start cs)) ≤ bucket_keys hash_of (length directory) b (slots_of cs) + 2 in
        let bound = λ (h : get_or (map is_some directory) bucket false ≡ true). few-passed (s.own (sym ready ∙ h)) in
        record {
          nodes = length (visited_cells key term (from start cs));
          ticked = t;
          present = λ h. omega (arith, first-passed);
          absent = all-passed;
          bound = subst P (sym len) (subst Q e bound);
        }

    pub answer : (r : Option ℕ) → r ≡ place_of key term (from start cs) → MatchOption r (lookup (same term) (slots_of cs) ≡ None) (λ at. IsFound term at cs)
    answer None r = search-absent (sym r)
    answer (Some at) r = search-found at (sym r)
