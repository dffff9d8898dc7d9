-- The node from which a change starts has a lesser split key.
use Rattle.std.proofs.Common.{◌≡◌, ℕ, ◌*◌, ◌/◌, ◌%◌, ◌<◌, inl, inr, List, ◌∷◌, length, Option, Some, None, IfSome, refl, sym, ◌∙◌, ap, subst, arith}
use Rattle.std.proofs.lemmas.Bool.{cases_lt}
use Rattle.std.proofs.Math.Nat.{div-lt_iff_lt-mul}
use Rattle.ets_term.specs.declared.term.Term.{Term}
use Rattle.split_key.specs.Keys.{key_of_item, key_of_dummy}
use Rattle.node_list.specs.Cells.{Cell, Sorted, new_cell}
use Rattle.node_list.specs.Places.{cells_after, all_but_first, split_key_at, HasDistinctPlaces, HasItem, HasSplitKeyAtMost}
use Rattle.bucket_table.specs.inside.Directory.{HaveSplitKeys, DirectoryInvariant, IsStartOf, HasKeyBelow}
use Rattle.bucket_table.specs.inside.Intervals.{first_in, AreSound, IsNearestBelow}
use Rattle.bucket_table.specs.inside.Search.{IsFound}
use Rattle.bucket_table.proofs.list.Content.{placed-key}
use Rattle.bucket_table.proofs.list.Passed.{placed-from}
use Rattle.bucket_table.proofs.hints.First.{first-node}
use Rattle.bucket_table.proofs.hints.Search.{inside}
use Rattle.bucket_table.proofs.hints.Insert.{node, key-is}
use Rattle.bucket_table.proofs.hints.Invariant.{is-after}
use Rattle.bucket_table.proofs.sweep.PurgeHash.{start-below}

-- A number of a lower interval is less.
less-part : (a b m width : ℕ) → 0 < width → a / width < m → b / width ≡ m → a < b
less-part a b m width some h e =
    let far : a < m * width = (div-lt_iff_lt-mul some).0 h in
    elim (cases_lt b (m * width)) [
      | inl less ↦ let q : b / width < m = (div-lt_iff_lt-mul some).1 less in absurd (omega (arith, q, e))
      | inr most ↦ omega (arith, far, most)
    ]

module _ (width key at : ℕ) (cs : List Cell) (o : Sorted cs) (a : HasDistinctPlaces cs) where
  -- The first item of a lower interval.
  pub first-lesser : (floor : ℕ) (current : List (Option (Option ℕ))) → 0 < width → AreSound width current cs → IsNearestBelow floor (key / width) at current → HasKeyBelow key at cs
  first-lesser floor current some h f =
      let n = first-node width f.lower at cs a (h f.lower (Some at) f.known) in
      let i = inside width f.lower n.cell n.inside in
      let P : ℕ → Type 0 = λ z. z < key / width in
      let l : n.cell.split_key / width < key / width = subst P (sym i.key) f.less in
      record { cell = n.cell; later = n.later; is = n.is; below = less-part n.cell.split_key key (key / width) width some l refl }

  -- The first item of the interval, if its split key is less.
  pub own-lesser : (k : ℕ) → first_in width (key / width) cs ≡ Some at → split_key_at at cs ≡ Some k → k < key → HasKeyBelow key at cs
  own-lesser k is e less =
      let n = node width key at cs o a is in
      let q = key-is width key at cs o a is k e in
      record { cell = n.cell; later = n.later; is = n.is; below = omega (arith, q, less) }

-- The first item of a lower interval, if there is one.
pub below-lesser : (width key : ℕ) (cs : List Cell) (current : List (Option (Option ℕ))) → Sorted cs → HasDistinctPlaces cs → 0 < width → AreSound width current cs → (o : Option ℕ) → IfSome o (λ at. IsNearestBelow 0 (key / width) at current) → IfSome o (λ at. HasKeyBelow key at cs)
below-lesser width key cs current sorted apart some h None f = f
below-lesser width key cs current sorted apart some h (Some at) f = first-lesser width key at cs sorted apart 0 current some h f

-- The dummy from which a search by the hash starts.
pub start-lesser : (hash_of : Term → ℕ) (directory : List (Option ℕ)) (hash start : ℕ) (cs : List Cell) → DirectoryInvariant hash_of directory cs → IsStartOf directory (hash % length directory) start → HasKeyBelow (key_of_item hash) start cs
start-lesser hash_of directory hash start cs i s =
    let d = i.listed s.nearest start s.entry in
    record { cell = new_cell start (key_of_dummy s.nearest) None; later = d.later; is = d.is; below = start-below directory i.doublings hash start i.size i.few s }

-- An item can be inserted from there.
pub lesser-up-to : (key start : ℕ) (cs : List Cell) → HasKeyBelow key start cs → HasSplitKeyAtMost key start cs
lesser-up-to key start cs s = record { cell = s.cell; later = s.later; is = s.is; up_to = omega (arith, s.below) }

-- An item can be removed from there.
pub found-behind : (hash_of : Term → ℕ) (directory : List (Option ℕ)) (term : Term) (hash at start : ℕ) (cs : List Cell) → HaveSplitKeys hash_of directory cs → Sorted cs → IsFound term at cs → key_of_item hash ≡ key_of_item (hash_of term) → HasKeyBelow (key_of_item hash) start cs → HasItem at (cells_after start cs)
found-behind hash_of directory term hash at start cs placed o h e s =
    let P : List Cell → Type 0 = λ zs. HaveSplitKeys hash_of directory zs in
    let p : HaveSplitKeys hash_of directory (h.cell ∷ h.later) = subst P h.is (placed-from hash_of directory at cs placed) in
    let is : h.cell.split_key ≡ key_of_item (hash_of term) = placed-key hash_of directory h.cell.at h.cell.split_key h.cell.item h.item h.has p.0 ∙ ap (λ (t : Term). key_of_item (hash_of t)) h.same_term in
    let H : List Cell → Type 0 = λ zs. HasItem at (all_but_first zs) in
    let B : ℕ → Type 0 = λ z. s.cell.split_key < z in
    let below : s.cell.split_key < h.cell.split_key = subst B (e ∙ sym is) s.below in
    let later = is-after start at cs s.cell s.later h.cell h.later o s.is h.is below in
    subst H (sym s.is) (record { cell = h.cell; later = h.later; item = h.item; is = later; has = h.has })
