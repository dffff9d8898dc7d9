-- A scan from a lower interval to the first item of an interval.
use Rattle.std.proofs.Common.{◌≡◌, ◌≢◌, ℕ, suc, ◌%◌, ◌/◌, ◌<◌, ◌≤◌, ◌⊎◌, inl, inr, List, [], ◌∷◌, length, Option, Some, None, IsSome, refl, sym, ◌∙◌, ap, subst, arith}
use Rattle.std.proofs.lemmas.Bool.{cases_lt, cases_eq}
use Rattle.node_list.specs.declared.node.Item.{Item}
use Rattle.node_list.specs.Cells.{Cell, Sorted}
use Rattle.node_list.specs.Places.{from, cells_after, all_but_first, place_after, HasDistinctPlaces, IsPlaceOf, split_key_at, first_split_key}
use Rattle.node_list.proofs.CellLaws.{from-here, from-on, at-most-from, sorted-from}
use Rattle.bucket_table.specs.inside.Directory.{HaveParity, HasKeyBelow}
use Rattle.bucket_table.specs.inside.Intervals.{first_in, AreSound, IsBeforeInterval, IsSoundHint, SetsHint}
use Rattle.bucket_table.proofs.directory.Placed.{parity-from}
use Rattle.bucket_table.proofs.hints.First.{first-here, first-on}
use Rattle.bucket_table.proofs.hints.Search.{is_in-yes}
use Rattle.bucket_table.proofs.hints.Change.{out-in}
use Rattle.bucket_table.proofs.hints.Remove.{Behind, behind-node, next-none}
use Rattle.bucket_table.proofs.hints.Parts.{none-from, part-rises}

some-key : (a b : ℕ) (o : Option ℕ) → o ≡ Some a → o ≡ Some b → a ≡ b
some-key a b o e f = cc

some-of : (o : Option Item) → IsSome o → (item : Item) × (o ≡ Some item)
some-of None h = absurd (cc)
some-of (Some item) h = (item, refl)

-- All items of an interval come after each node of a lower one.
pub skip-front : (width f at : ℕ) (cs : List Cell) (d : Cell) (ds : List Cell) → 0 < width → Sorted cs → from at cs ≡ d ∷ ds → d.split_key / width < f → first_in width f cs ≡ first_in width f ds
skip-front width f at [] d ds some o e h = absurd (cc)
skip-front width f at (c ∷ cs) d ds some o e h =
    elim (cases_eq c.at at) [
      | inl here ↦
          let same : c ≡ d = cc (sym (from-here at c cs here) ∙ e) in
          let rest : cs ≡ ds = cc (sym (from-here at c cs here) ∙ e) in
          let k : c.split_key / width ≡ d.split_key / width = ap (λ (z : Cell). z.split_key / width) same in
          let differs : c.split_key / width ≢ f = λ q. (let q' : c.split_key / width ≡ f = q in absurd (omega (arith, k, h, q'))) in
          first-on width f c cs (out-in (c.split_key / width) f c.item differs) ∙ ap (first_in width f) rest
      | inr other ↦
          let later : from at cs ≡ d ∷ ds = sym (from-on at c cs other) ∙ e in
          let low : c.split_key ≤ d.split_key = at-most-from at c.split_key cs d ds o.0 o.1 later in
          let rise : c.split_key / width ≤ d.split_key / width = part-rises width c.split_key d.split_key some low in
          let differs : c.split_key / width ≢ f = λ q. (let q' : c.split_key / width ≡ f = q in absurd (omega (arith, rise, h, q'))) in
          first-on width f c cs (out-in (c.split_key / width) f c.item differs) ∙ skip-front width f at cs d ds some o.1 later h
    ]

pub before-is_place : (width f at : ℕ) (cs : List Cell) → IsBeforeInterval width f at cs → IsPlaceOf at cs
before-is_place width f at cs s = record { cell = s.cell; later = s.later; is = s.is }

-- A node of a lower interval has a lesser split key.
pub front-below : (width key at : ℕ) (cs : List Cell) → 0 < width → IsBeforeInterval width (key / width) at cs → HasKeyBelow key at cs
front-below width key at cs some s = record {
  cell = s.cell;
  later = s.later;
  is = s.is;
  below = elim (cases_lt s.cell.split_key key) [
    | inl less ↦ less
    | inr most ↦ (let r = part-rises width key s.cell.split_key some most in absurd (omega (arith, r, s.front)))
  ];
}

pub below-front : (width key at k : ℕ) (cs : List Cell) → HasKeyBelow key at cs → split_key_at at cs ≡ Some k → k / width < key / width → IsBeforeInterval width (key / width) at cs
below-front width key at k cs s read less =
    let is : s.cell.split_key ≡ k = some-key s.cell.split_key k (split_key_at at cs) (ap first_split_key s.is) read in
    let P : ℕ → Type 0 = λ z. z / width < key / width in
    record { cell = s.cell; later = s.later; is = s.is; front = subst P (sym is) less }

module _ (width f at : ℕ) (cs : List Cell) (some : 0 < width) (o : Sorted cs) (a : HasDistinctPlaces cs) (s : IsBeforeInterval width f at cs) where
  later-is : cells_after at cs ≡ s.later
  later-is = ap all_but_first s.is

  skipped : first_in width f cs ≡ first_in width f (cells_after at cs)
  skipped = skip-front width f at cs s.cell s.later some o s.is s.front ∙ ap (first_in width f) (sym later-is)

  pub ends-empty : (hint : Option (Option ℕ)) → hint ≡ Some None → place_after at cs ≡ None → IsSoundHint width f cs hint
  ends-empty hint e none first known = let q : None ≡ first = cc in skipped ∙ (next-none width f at cs none ∙ q)

  module _ (next k : ℕ) (e : place_after at cs ≡ Some next) where
    node : Behind next at cs
    node = behind-node next at cs a e

    pub next-is : IsPlaceOf next cs
    next-is = record { cell = node.cell; later = node.later; is = node.from_next }

    pub shorter : length (cells_after next cs) < length (cells_after at cs)
    shorter =
        let m : length (cells_after at cs) ≡ suc (length node.later) = ap length node.is in
        let n : length (cells_after next cs) ≡ length node.later = ap (λ (zs : List Cell). length (all_but_first zs)) node.from_next in
        omega (arith, m, n)

    module _ (read : split_key_at next cs ≡ Some k) where
      next-key : node.cell.split_key ≡ k
      next-key = some-key node.cell.split_key k (split_key_at next cs) (ap first_split_key node.from_next) read

      pub goes-on : k / width < f → IsBeforeInterval width f next cs
      goes-on less = let P : ℕ → Type 0 = λ z. z / width < f in record { cell = node.cell; later = node.later; is = node.from_next; front = subst P (sym next-key) less }

      pub ends-past : (hint : Option (Option ℕ)) → hint ≡ Some None → f < k / width → IsSoundHint width f cs hint
      ends-past hint is past first known =
          let q : None ≡ first = cc in
          let S : List Cell → Type 0 = λ zs. Sorted zs in
          let so : Sorted (node.cell ∷ node.later) = subst S node.from_next (sorted-from next cs o) in
          let P : ℕ → Type 0 = λ z. f < z / width in
          skipped ∙ (ap (first_in width f) node.is ∙ (none-from width f node.cell.split_key (node.cell ∷ node.later) some (omega arith) so (subst P (sym next-key) past) ∙ q))

      pub ends-item : HaveParity cs → (hint : Option (Option ℕ)) → (hint ≡ None) ⊎ (hint ≡ Some (Some next)) → k / width ≡ f → k % 2 ≡ 1 → IsSoundHint width f cs hint
      ends-item h hint choice same odd first known =
          let P : List Cell → Type 0 = λ zs. HaveParity zs in
          let p : HaveParity (node.cell ∷ node.later) = subst P node.from_next (parity-from next cs h) in
          let has = some-of node.cell.item (p.0 (ap (λ (z : ℕ). z % 2) next-key ∙ odd)) in
          let hit = is_in-yes width f node.cell has.0 (ap (λ (z : ℕ). z / width) next-key ∙ same) has.1 in
          skipped ∙ go hint first known choice (ap (first_in width f) node.is ∙ (first-here width f node.cell node.later hit ∙ ap Some node.place))
        where
          go : (hint : Option (Option ℕ)) (first : Option ℕ) → hint ≡ Some first → (hint ≡ None) ⊎ (hint ≡ Some (Some next)) → first_in width f (cells_after at cs) ≡ Some next → first_in width f (cells_after at cs) ≡ first
          go hint first known (inl none) g = absurd (cc)
          go hint first known (inr here) g = let s : Some next ≡ first = cc in g ∙ s

pub unknown-right : (width f : ℕ) (cs : List Cell) (hint : Option (Option ℕ)) → hint ≡ None → IsSoundHint width f cs hint
unknown-right width f cs hint e first known = absurd (cc)

-- One more right hint.
pub hints-set : (width interval : ℕ) (hint : Option (Option ℕ)) (old new : List (Option (Option ℕ))) (cs : List Cell) → AreSound width old cs → IsSoundHint width interval cs hint → SetsHint interval hint old new → AreSound width new cs
hints-set width interval hint old new cs h r s f first e =
    elim (s f first e) [
      | inl stays ↦ h f first stays.1
      | inr it ↦ (let P : ℕ → Type 0 = λ z. first_in width z cs ≡ first in subst P (sym it.0) (r first it.1))
    ]
