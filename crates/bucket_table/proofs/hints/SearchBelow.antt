-- The nodes where a search can start: the first item of its own interval or of a lower one, and the dummy of the
-- nearest ready bucket.
use Rattle.std.proofs.Common.{◌≡◌, ℕ, ◌+◌, ◌*◌, ◌/◌, ◌%◌, ◌^◌, ◌<◌, ◌≤◌, ◌⊎◌, inl, inr, List, ◌∷◌, length, map, Option, Some, None, is_some, IsSome, MatchOption, true, false, nat_lt, ◌||◌, get_or, refl, sym, ◌∙◌, ap, subst, arith}
use Rattle.std.specs.Map.{lookup}
use Rattle.std.proofs.lemmas.Bool.{cases_lt}
use Rattle.std.proofs.lemmas.List.{length-map}
use Rattle.std.proofs.lemmas.Nat.{pow_pos}
use Rattle.std.proofs.Math.Nat.{div-lt_iff_lt-mul}
use Rattle.std.proofs.Math.ListN.{get_or-map}
use Rattle.ets_term.specs.declared.term.Term.{Term}
use Rattle.ets_term.specs.Order.{same}
use Rattle.split_key.specs.Keys.{key_of_item, key_of_dummy}
use Rattle.node_list.specs.Cells.{Cell, Sorted}
use Rattle.node_list.specs.Places.{from, HasDistinctPlaces, IsPlaceOf}
use Rattle.node_list.specs.Search.{is_it, place_of, visited_cells}
use Rattle.node_list.specs.Ticks.{ticks}
use Rattle.node_list.proofs.CellLaws.{sorted-from}
use Rattle.node_list.proofs.CallerLaws.{place_of-from}
use Rattle.bucket_table.specs.inside.Nodes.{slots_of}
use Rattle.bucket_table.specs.inside.Directory.{HaveSplitKeys, DirectoryInvariant, IsNearestReady, IsStartOf, HasKeyBelow}
use Rattle.bucket_table.specs.Visits.{bucket_keys, HasLooked}
use Rattle.bucket_table.specs.inside.Intervals.{first_in, AreSound, HintsInvariant, IsNearestBelow}
use Rattle.bucket_table.specs.inside.Search.{IsFound, CanStartSearch}
use Rattle.bucket_table.proofs.list.Content.{found, absent, placed-key}
use Rattle.bucket_table.proofs.list.Passed.{placed-from, hash-passed, hash-from}
use Rattle.bucket_table.proofs.hints.First.{First, first-node}
use Rattle.bucket_table.proofs.hints.Search.{inside, own-edge, old-edge, few-above, visited_cells-one, own-start}
use Rattle.bucket_table.proofs.hints.Rehash.{part-half}
use Rattle.bucket_table.proofs.hints.Start.{first-lesser}
use Rattle.bucket_table.proofs.directory.Search.{start-is, answer, looked}

-- A search can start at the dummy of the nearest ready bucket.
pub nearest-start : (directory : List (Option ℕ)) (bucket nearest at : ℕ) → IsNearestReady directory bucket nearest at → IsStartOf directory bucket at
nearest-start directory bucket nearest at n = record { nearest = nearest; entry = n.entry; before = n.before; own = n.own }

-- A number of the interval of a border, or of a higher one, is not below the border.
pub from-border : (m width a : ℕ) → 0 < width → (m * width) / width ≤ a / width → m * width ≤ a
from-border m width a some h =
    elim (cases_lt a (m * width)) [
      | inl less ↦
          let q : a / width < m = (div-lt_iff_lt-mul some).1 less in
          let r : (m * width) / width < m = omega (arith, q, h) in
          let far : m * width < m * width = (div-lt_iff_lt-mul some).0 r in
          absurd (omega (arith, far))
      | inr most ↦ most
    ]

option-cases : (r : Option ℕ) → (r ≡ None) ⊎ ((at : ℕ) × (r ≡ Some at))
option-cases None = inl refl
option-cases (Some at) = inr (at, refl)

module _ (hash_of : Term → ℕ) (directory : List (Option ℕ)) (cs : List Cell) (term : Term) (interval_bits bucket start first m : ℕ) (current : List (Option (Option ℕ))) (i : DirectoryInvariant hash_of directory cs) (right : AreSound (2 ^ interval_bits) current cs) (edge : key_of_dummy (hash_of term % length directory) ≡ m * 2 ^ interval_bits) (o : Sorted cs) (a : HasDistinctPlaces cs)
    (n : IsNearestReady directory (hash_of term % length directory) bucket start) (f : IsNearestBelow (key_of_dummy bucket / 2 ^ interval_bits) (key_of_item (hash_of term) / 2 ^ interval_bits) first current) where
  abbrev key : ℕ
  key = key_of_item (hash_of term)

  node : First (2 ^ interval_bits) f.lower first cs
  node = first-node (2 ^ interval_bits) f.lower first cs a (right f.lower (Some first) f.known)

  lesser : HasKeyBelow (key_of_item (hash_of term)) first cs
  lesser = first-lesser (2 ^ interval_bits) (key_of_item (hash_of term)) first cs o a (key_of_dummy bucket / 2 ^ interval_bits) current (pow_pos interval_bits) right f

  below-is_place : IsPlaceOf first cs
  below-is_place = record { cell = lesser.cell; later = lesser.later; is = lesser.is }

  whole : place_of key term cs ≡ place_of key term (from first cs)
  whole = place_of-from key term first cs lesser.cell lesser.later o lesser.is lesser.below ∙ ap (place_of key term) (sym lesser.is)

  below-answer : (r : Option ℕ) → r ≡ place_of key term (from first cs) → MatchOption r (lookup (same term) (slots_of cs) ≡ None) (λ at. IsFound term at cs)
  below-answer None r = absent hash_of directory key term refl cs i.placed (whole ∙ sym r)
  below-answer (Some at) r = found hash_of directory key term refl at cs i.placed a (whole ∙ sym r)

  -- In a ready bucket it comes after the dummy.
  above : IsSome (get_or directory (hash_of term % length directory) None) → key_of_dummy (hash_of term % length directory) + 1 ≤ node.cell.split_key
  above ready =
      let ins = inside (2 ^ interval_bits) f.lower node.cell node.inside in
      let D : ℕ → Type 0 = λ z. key_of_dummy z / 2 ^ interval_bits ≤ f.lower in
      let E : ℕ → Type 0 = λ z. z / 2 ^ interval_bits ≤ f.lower in
      let F : ℕ → Type 0 = λ z. (m * 2 ^ interval_bits) / 2 ^ interval_bits ≤ z in
      let floor = subst E edge (subst D (n.own ready) f.above_floor) in
      let up = from-border m (2 ^ interval_bits) node.cell.split_key (pow_pos interval_bits) (subst F (sym ins.key) floor) in
      let G : ℕ → Type 0 = λ z. z ≤ node.cell.split_key in
      let at-least : key_of_dummy (hash_of term % length directory) ≤ node.cell.split_key = subst G (sym edge) up in
      let R : List Cell → Type 0 = λ zs. HaveSplitKeys hash_of directory zs in
      let pl : HaveSplitKeys hash_of directory (node.cell ∷ node.later) = subst R node.is (placed-from hash_of directory first cs i.placed) in
      let k : node.cell.split_key ≡ key_of_item (hash_of ins.item.term) = placed-key hash_of directory node.cell.at node.cell.split_key node.cell.item ins.item ins.has pl.0 in
      omega (arith, at-least, k)

  none-found : lookup (same term) (slots_of cs) ≡ None → place_of key term (from first cs) ≡ None
  none-found gone =
      elim (option-cases (place_of key term (from first cs))) [
        | inl none ↦ none
        | inr some ↦ let g = below-answer (Some some.0) (sym some.1) in absurd (cc (g.objects, gone))
      ]

  below-looked : (old new : ℕ) → new ≡ ticks (length (visited_cells key term (from first cs))) old → HasLooked hash_of (slots_of cs) (map is_some directory) term old new
  below-looked old new t =
      let len : length (map is_some directory) ≡ length directory = length-map directory is_some in
      let ready : get_or (map is_some directory) (hash_of term % length directory) false ≡ is_some (get_or directory (hash_of term % length directory) None) = get_or-map is_some directory (hash_of term % length directory) None in
      let P : ℕ → Type 0 = λ n. get_or (map is_some directory) (hash_of term % n) false ≡ true → length (visited_cells key term (from first cs)) ≤ bucket_keys hash_of n (hash_of term % n) (slots_of cs) + 2 in
      let bound : get_or (map is_some directory) (hash_of term % length directory) false ≡ true → length (visited_cells key term (from first cs)) ≤ bucket_keys hash_of (length directory) (hash_of term % length directory) (slots_of cs) + 2 =
      λ g. (let w = few-above hash_of directory cs term first node.cell node.later i o node.is (above (sym ready ∙ g)) in omega (arith, w)) in
      let Q : List Cell → Type 0 = λ zs. 1 ≤ length (visited_cells (key_of_item (hash_of term)) term zs) in
      let one : 1 ≤ length (visited_cells (key_of_item (hash_of term)) term (from first cs)) =
      subst Q (sym node.is) (visited_cells-one (key_of_item (hash_of term)) term node.cell node.later (nat_lt (key_of_item (hash_of term)) node.cell.split_key || is_it (key_of_item (hash_of term)) term node.cell) refl) in
      record {
        nodes = length (visited_cells key term (from first cs));
        ticked = t;
        present = λ _. one;
        absent = λ gone.
            (let e = hash-from hash_of directory key (hash_of term) refl first cs lesser.cell lesser.later o i.placed lesser.is lesser.below in
            let m = hash-passed hash_of directory key (hash_of term) refl term (from first cs) (sorted-from first cs o) (placed-from hash_of directory first cs i.placed) (none-found gone) in
            omega (arith, e, m));
        bound = subst P (sym len) bound;
      }

  pub below-start : CanStartSearch hash_of directory term first cs
  below-start = record { is_place = below-is_place; finds = below-answer; looks = below-looked }

-- ---- by current hints, or by previous ones

previous-below : (interval_bits low key at : ℕ) (previous : List (Option (Option ℕ))) → IsNearestBelow (low / 2 ^ interval_bits / 2) (key / 2 ^ interval_bits / 2) at previous → IsNearestBelow (low / 2 ^ (interval_bits + 1)) (key / 2 ^ (interval_bits + 1)) at previous
previous-below interval_bits low key at previous f =
    let P : ℕ → Type 0 = λ z. IsNearestBelow z (key / 2 ^ interval_bits / 2) at previous in
    let Q : ℕ → Type 0 = λ z. IsNearestBelow (low / 2 ^ (interval_bits + 1)) z at previous in
    subst Q (sym (part-half interval_bits key)) (subst P (sym (part-half interval_bits low)) f)

pub either-lesser : (interval_bits key at floor : ℕ) (cs : List Cell) (current previous : List (Option (Option ℕ))) → Sorted cs → HasDistinctPlaces cs → AreSound (2 ^ interval_bits) current cs → AreSound (2 ^ (interval_bits + 1)) previous cs
    → IsNearestBelow floor (key / 2 ^ interval_bits) at current ⊎ IsNearestBelow (floor / 2) (key / 2 ^ interval_bits / 2) at previous → HasKeyBelow key at cs
either-lesser interval_bits key at floor cs current previous o a h old f =
    elim f [
      | inl g ↦ first-lesser (2 ^ interval_bits) key at cs o a floor current (pow_pos interval_bits) h g
      | inr g ↦ (let Q : ℕ → Type 0 = λ z. IsNearestBelow (floor / 2) z at previous in first-lesser (2 ^ (interval_bits + 1)) key at cs o a (floor / 2) previous (pow_pos (interval_bits + 1)) old (subst Q (sym (part-half interval_bits key)) g))
    ]

module _ (hash_of : Term → ℕ) (directory : List (Option ℕ)) (cs : List Cell) (term : Term) (interval_bits bucket start first : ℕ) (current previous : List (Option (Option ℕ))) (i : DirectoryInvariant hash_of directory cs) (h : HintsInvariant directory interval_bits current cs) (old : AreSound (2 ^ (interval_bits + 1)) previous cs) (o : Sorted cs) (a : HasDistinctPlaces cs)
    (n : IsNearestReady directory (hash_of term % length directory) bucket start) (f : IsNearestBelow (key_of_dummy bucket / 2 ^ interval_bits) (key_of_item (hash_of term) / 2 ^ interval_bits) first current ⊎ IsNearestBelow (key_of_dummy bucket / 2 ^ interval_bits / 2) (key_of_item (hash_of term) / 2 ^ interval_bits / 2) first previous) where
  own : (m : ℕ) × (key_of_dummy (hash_of term % length directory) ≡ m * 2 ^ interval_bits)
  own = own-edge hash_of directory cs term interval_bits current h

  width : (m : ℕ) × (key_of_dummy (hash_of term % length directory) ≡ m * 2 ^ (interval_bits + 1))
  width = old-edge hash_of directory cs term interval_bits current h

  pub lower-start : CanStartSearch hash_of directory term first cs
  lower-start =
      elim f [
        | inl g ↦ below-start hash_of directory cs term interval_bits bucket start first own.0 current i h.hints own.1 o a n g
        | inr g ↦ below-start hash_of directory cs term (interval_bits + 1) bucket start first width.0 previous i old width.1 o a n (previous-below interval_bits (key_of_dummy bucket) (key_of_item (hash_of term)) first previous g)
      ]

module _ (hash_of : Term → ℕ) (directory : List (Option ℕ)) (cs : List Cell) (term : Term) (interval_bits first : ℕ) (current : List (Option (Option ℕ))) (i : DirectoryInvariant hash_of directory cs) (h : HintsInvariant directory interval_bits current cs) (o : Sorted cs) (a : HasDistinctPlaces cs)
    (f : (first_in (2 ^ interval_bits) (key_of_item (hash_of term) / 2 ^ interval_bits) cs ≡ Some first) ⊎ (first_in (2 ^ (interval_bits + 1)) (key_of_item (hash_of term) / 2 ^ (interval_bits + 1)) cs ≡ Some first)) where
  own-first : (m : ℕ) × (key_of_dummy (hash_of term % length directory) ≡ m * 2 ^ interval_bits)
  own-first = own-edge hash_of directory cs term interval_bits current h

  width-first : (m : ℕ) × (key_of_dummy (hash_of term % length directory) ≡ m * 2 ^ (interval_bits + 1))
  width-first = old-edge hash_of directory cs term interval_bits current h

  pub first-start : CanStartSearch hash_of directory term first cs
  first-start =
      elim f [
        | inl is ↦ own-start hash_of directory cs term interval_bits first own-first.0 i own-first.1 o a is
        | inr is ↦ own-start hash_of directory cs term (interval_bits + 1) first width-first.0 i width-first.1 o a is
      ]

-- The dummy of the nearest ready bucket.
pub dummy-start : (hash_of : Term → ℕ) (directory : List (Option ℕ)) (cs : List Cell) (term : Term) (nearest start : ℕ) → DirectoryInvariant hash_of directory cs → IsNearestReady directory (hash_of term % length directory) nearest start → Sorted cs → HasDistinctPlaces cs → CanStartSearch hash_of directory term start cs
dummy-start hash_of directory cs term nearest start i n o a =
    let s = nearest-start directory (hash_of term % length directory) nearest start n in
    record {
      is_place = start-is _ _ _ _ i.listed s;
      finds = answer hash_of directory cs term (hash_of term % length directory) start i s refl o a;
      looks = looked hash_of directory cs term (hash_of term % length directory) start i s refl o a;
    }
