-- The node after the first item of an interval.
use Rattle.std.proofs.Common.{◌≡◌, ◌≢◌, ℕ, ◌%◌, IsSome, ◌/◌, ◌<◌, ◌≤◌, ◌⊎◌, inl, inr, List, [], ◌∷◌, Option, Some, None, refl, sym, ◌∙◌, ap, subst, arith}
use Rattle.node_list.specs.declared.node.Item.{Item}
use Rattle.node_list.specs.Cells.{Cell, Sorted, StartsFrom}
use Rattle.node_list.specs.Places.{from, cells_after, all_but_first, first_place, place_after, HasDistinctPlaces, IsPlaceOf, HasItem, split_key_at, first_split_key}
use Rattle.node_list.proofs.CellLaws.{from-here, sorted-from}
use Rattle.node_list.proofs.PlaceLaws.{from-cells_after}
use Rattle.bucket_table.specs.inside.Directory.{HaveParity}
use Rattle.bucket_table.specs.inside.Intervals.{first_in, IsItemIn, IsHintAfterRemoval}
use Rattle.bucket_table.proofs.directory.Placed.{parity-from}
use Rattle.bucket_table.proofs.hints.First.{first-here}
use Rattle.bucket_table.proofs.hints.Search.{is_in-yes}
use Rattle.bucket_table.proofs.hints.Parts.{none-from, part-rises}

pub empty-next : (hint : Option (Option ℕ)) (known : Option ℕ) → hint ≡ Some None → known ≡ None → (first : Option ℕ) → hint ≡ Some first → known ≡ first
empty-next hint known e f first h = cc

pub item-in-is_place : (width f at : ℕ) (cs : List Cell) → IsItemIn width f at cs → IsPlaceOf at cs
item-in-is_place width f at cs i = record { cell = i.cell; later = i.later; is = i.is }

pub next-none : (width f at : ℕ) (cs : List Cell) → place_after at cs ≡ None → first_in width f (cells_after at cs) ≡ None
next-none width f at cs e = go (cells_after at cs) e
  where
    go : (zs : List Cell) → first_place zs ≡ None → first_in width f zs ≡ None
    go [] e = refl
    go (z ∷ zs) e = absurd (cc)

some-key : (a b : ℕ) (o : Option ℕ) → o ≡ Some a → o ≡ Some b → a ≡ b
some-key a b o e f = cc

some-of : (o : Option Item) → IsSome o → (item : Item) × (o ≡ Some item)
some-of None h = absurd (cc)
some-of (Some item) h = (item, refl)

-- The next node.
pub record Behind (next at : ℕ) (cs : List Cell) : Type 0 where
  pub cell : Cell
  pub later : List Cell
  pub is : cells_after at cs ≡ cell ∷ later
  pub from_next : from next cs ≡ cell ∷ later
  pub place : cell.at ≡ next

pub behind-node : (next at : ℕ) (cs : List Cell) → HasDistinctPlaces cs → place_after at cs ≡ Some next → Behind next at cs
behind-node next at cs a e = go (cells_after at cs) refl e
  where
    go : (zs : List Cell) → cells_after at cs ≡ zs → first_place zs ≡ Some next → Behind next at cs
    go [] is e = absurd (cc)
    go (z ∷ zs) is e =
        let same : z.at ≡ next = cc in
        record { cell = z; later = zs; is = is; from_next = from-cells_after at next cs z zs a (ap (from next) is ∙ from-here next z zs same); place = same }

module _ (width f at next : ℕ) (cs : List Cell) (some : 0 < width) (o : Sorted cs) (a : HasDistinctPlaces cs) (item : IsItemIn width f at cs) (e : place_after at cs ≡ Some next) where
  pub node : Behind next at cs
  node = behind-node next at cs a e

  pub next-is_place : IsPlaceOf next cs
  next-is_place = record { cell = node.cell; later = node.later; is = node.from_next }

  module _ (k : ℕ) (read : split_key_at next cs ≡ Some k) where
    next-key : node.cell.split_key ≡ k
    next-key = some-key node.cell.split_key k (split_key_at next cs) (ap first_split_key node.from_next) read

    -- It is of the interval.
    pub next-inside : HaveParity cs → (hint : Option (Option ℕ)) → (hint ≡ None) ⊎ (hint ≡ Some (Some next)) → k / width ≡ f → k % 2 ≡ 1 → IsHintAfterRemoval width f at cs hint
    next-inside h hint choice same odd first known =
        let n = node in
        let P : List Cell → Type 0 = λ zs. HaveParity zs in
        let p : HaveParity (n.cell ∷ n.later) = subst P n.from_next (parity-from next cs h) in
        let has = some-of n.cell.item (p.0 (ap (λ (z : ℕ). z % 2) next-key ∙ odd)) in
        let hit = is_in-yes width f n.cell has.0 (ap (λ (z : ℕ). z / width) next-key ∙ same) has.1 in
        go hint first known choice (ap (first_in width f) n.is ∙ (first-here width f n.cell n.later hit ∙ ap Some n.place))
      where
        go : (hint : Option (Option ℕ)) (first : Option ℕ) → hint ≡ Some first → (hint ≡ None) ⊎ (hint ≡ Some (Some next)) → first_in width f (cells_after at cs) ≡ Some next → first_in width f (cells_after at cs) ≡ first
        go hint first known (inl none) g = absurd (cc)
        go hint first known (inr here) g = let s : Some next ≡ first = cc in g ∙ s

    -- Or the interval is empty then.
    pub next-outside : k / width ≢ f → first_in width f (cells_after at cs) ≡ None
    next-outside differs =
        let n = node in
        let S : List Cell → Type 0 = λ zs. Sorted zs in
        let so : Sorted (item.cell ∷ item.later) = subst S item.is (sorted-from at cs o) in
        let later : item.later ≡ n.cell ∷ n.later = sym (ap all_but_first item.is) ∙ n.is in
        let T : List Cell → Type 0 = λ zs. StartsFrom item.cell.split_key zs in
        let up : item.cell.split_key ≤ n.cell.split_key = subst T later so.0 in
        let sn : Sorted (n.cell ∷ n.later) = subst S later so.1 in
        let rise : item.cell.split_key / width ≤ n.cell.split_key / width = part-rises width item.cell.split_key n.cell.split_key some up in
        let kn : n.cell.split_key / width ≡ k / width = ap (λ (z : ℕ). z / width) next-key in
        let far : f < n.cell.split_key / width = omega (arith, rise, kn, item.inside, differs) in
        ap (first_in width f) n.is ∙ none-from width f n.cell.split_key (n.cell ∷ n.later) some (omega arith) sn far

-- The interval of an item is that of its split key.
pub item-in : (width at k : ℕ) (cs : List Cell) (i : HasItem at cs) → split_key_at at cs ≡ Some k → IsItemIn width (k / width) at cs
item-in width at k cs i e =
    let same = some-key i.cell.split_key k (split_key_at at cs) (ap first_split_key i.is) e in
    record { cell = i.cell; later = i.later; item = i.item; is = i.is; has = i.has; inside = ap (λ (z : ℕ). z / width) same }

-- The nodes after a node of the list are in the list.
pub behind-item : (start at : ℕ) (cs : List Cell) → HasDistinctPlaces cs → HasItem at (cells_after start cs) → HasItem at cs
behind-item start at cs a h = record { cell = h.cell; later = h.later; item = h.item; is = from-cells_after start at cs h.cell h.later a h.is; has = h.has }
