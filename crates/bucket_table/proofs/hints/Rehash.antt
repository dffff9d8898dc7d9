-- The hints of the halves of an interval.
use Rattle.std.proofs.Common.{◌≡◌, ◌≢◌, ℕ, ◌+◌, ◌*◌, ◌%◌, ◌/◌, ◌^◌, ◌<◌, ◌⊎◌, inl, inr, List, [], ◌∷◌, get_or, Option, Some, None, true, false, refl, sym, ◌∙◌, ap, subst, arith}
use Rattle.std.proofs.lemmas.Bool.{cases_Bool}
use Rattle.std.proofs.Math.Nat.{div-div-eq-div-mul}
use Rattle.std.proofs.lemmas.Nat.{pow-add}
use Rattle.node_list.specs.declared.node.Item.{Item}
use Rattle.node_list.specs.Changes.{put_cell, without}
use Rattle.node_list.specs.Cells.{Cell, Sorted, new_cell}
use Rattle.node_list.specs.Places.{from, HasDistinctPlaces, IsPlaceOf, HasItem, split_key_at, first_split_key}
use Rattle.node_list.proofs.CellLaws.{from-here, from-on}
use Rattle.bucket_table.specs.inside.Intervals.{is_in, first_in, AreSound, IsSoundHint, SetsIfUnknown, SetsHint, IsBeforeInterval}
use Rattle.bucket_table.proofs.list.Content.{fresh-apart}
use Rattle.bucket_table.proofs.hints.First.{first-here, first-on, First, first-node, first-without-other}
use Rattle.bucket_table.proofs.hints.Change.{out-in, others-put}
use Rattle.bucket_table.proofs.hints.Search.{is_in-yes, inside}
use Rattle.bucket_table.proofs.hints.Parts.{none-from}

some-is : (a b : ℕ) (o : Option ℕ) → o ≡ Some a → o ≡ Some b → a ≡ b
some-is a b o e f = cc

double : (s : ℕ) → 2 ^ (s + 1) ≡ 2 ^ s * 2
double s = let p : 2 ^ (s + 1) ≡ 2 ^ s * 2 ^ 1 = pow-add 2 s 1 in omega (arith, p)

-- The interval of a number among intervals of twice the width.
pub part-half : (interval_bits k : ℕ) → k / 2 ^ (interval_bits + 1) ≡ k / 2 ^ interval_bits / 2
part-half interval_bits k = ap (λ (z : ℕ). k / z) (double interval_bits) ∙ sym (div-div-eq-div-mul k (2 ^ interval_bits) 2)

module _ (width half f : ℕ) (some : 0 < half) (parts : (k : ℕ) → k / width ≡ k / half / 2) where
  module _ (g : ℕ) (own : g / 2 ≡ f) where
    miss-half : (c : Cell) → is_in width f c ≡ false → is_in half g c ≡ false
    miss-half c miss =
        elim (cases_Bool (is_in half g c)) [
          | inl hit ↦
              let i = inside half g c hit in
              let yes : is_in width f c ≡ true = is_in-yes width f c i.item (parts c.split_key ∙ (ap (λ (z : ℕ). z / 2) i.key ∙ own)) i.has in
              absurd (cc)
          | inr out ↦ out
        ]

    pub half-empty : (cs : List Cell) → first_in width f cs ≡ None → first_in half g cs ≡ None
    half-empty [] e = refl
    half-empty (c ∷ cs) e =
        elim (cases_Bool (is_in width f c)) [
          | inl hit ↦ let is : first_in width f (c ∷ cs) ≡ Some c.at = first-here width f c cs hit in absurd (cc)
          | inr miss ↦ first-on half g c cs (miss-half c miss) ∙ half-empty cs (sym (first-on width f c cs miss) ∙ e)
        ]

    -- The first item is the first of its own half.
    pub half-first : (p : ℕ) (cs : List Cell) (d : Cell) (ds : List Cell) → HasDistinctPlaces cs → from p cs ≡ d ∷ ds → d.split_key / half ≡ g → first_in width f cs ≡ Some p → first_in half g cs ≡ Some p
    half-first p [] d ds a s k e = absurd (cc)
    half-first p (c ∷ cs) d ds a s k e =
        elim (cases_Bool (is_in width f c)) [
          | inl hit ↦
              let here : c.at ≡ p = some-is c.at p (first_in width f (c ∷ cs)) (first-here width f c cs hit) e in
              let same : c ≡ d = cc (sym (from-here p c cs here) ∙ s) in
              let i = inside width f c hit in
              let in_half : is_in half g c ≡ true = is_in-yes half g c i.item (ap (λ (z : Cell). z.split_key / half) same ∙ k) i.has in
              first-here half g c cs in_half ∙ ap Some here
          | inr miss ↦
              let later : first_in width f cs ≡ Some p = sym (first-on width f c cs miss) ∙ e in
              let n = first-node width f p cs a.1 later in
              let s' : from p cs ≡ d ∷ ds = sym (from-on p c cs (fresh-apart c.at p cs n.cell n.later a.0 n.is)) ∙ s in
              first-on half g c cs (miss-half c miss) ∙ half-first p cs d ds a.1 s' k later
        ]

    -- If it is in the upper half, the lower half is empty.
    pub half-below : (p : ℕ) (cs : List Cell) (d : Cell) (ds : List Cell) → Sorted cs → HasDistinctPlaces cs → from p cs ≡ d ∷ ds → g < d.split_key / half → first_in width f cs ≡ Some p → first_in half g cs ≡ None
    half-below p [] d ds o a s k e = absurd (cc)
    half-below p (c ∷ cs) d ds o a s k e =
        elim (cases_Bool (is_in width f c)) [
          | inl hit ↦
              let here : c.at ≡ p = some-is c.at p (first_in width f (c ∷ cs)) (first-here width f c cs hit) e in
              let same : c ≡ d = cc (sym (from-here p c cs here) ∙ s) in
              let q : c.split_key / half ≡ d.split_key / half = ap (λ (z : Cell). z.split_key / half) same in
              let P : ℕ → Type 0 = λ z. g < z in
              none-from half g c.split_key (c ∷ cs) some (omega arith) o (subst P (sym q) k)
          | inr miss ↦
              let later : first_in width f cs ≡ Some p = sym (first-on width f c cs miss) ∙ e in
              let n = first-node width f p cs a.1 later in
              let s' : from p cs ≡ d ∷ ds = sym (from-on p c cs (fresh-apart c.at p cs n.cell n.later a.0 n.is)) ∙ s in
              first-on half g c cs (miss-half c miss) ∙ half-below p cs d ds o.1 a.1 s' k later
        ]

    pub right-empty : (cs : List Cell) (hint made : Option (Option ℕ)) → IsSoundHint width f cs hint → hint ≡ Some None → made ≡ Some None → IsSoundHint half g cs made
    right-empty cs hint made h e m first known = let q : None ≡ first = cc in half-empty cs (h None e) ∙ q

    module _ (p : ℕ) (cs : List Cell) (o : Sorted cs) (a : HasDistinctPlaces cs) (hint : Option (Option ℕ)) (h : IsSoundHint width f cs hint) (e : hint ≡ Some (Some p)) where
      node : First width f p cs
      node = first-node width f p cs a (h (Some p) e)

      module _ (k : ℕ) (read : split_key_at p cs ≡ Some k) where
        key-is : node.cell.split_key ≡ k
        key-is = some-is node.cell.split_key k (split_key_at p cs) (ap first_split_key node.is) read

        pub right-first : (made : Option (Option ℕ)) → (made ≡ None) ⊎ (made ≡ Some (Some p)) → k / half ≡ g → IsSoundHint half g cs made
        right-first made choice at_g first known = go made first choice known (half-first p cs node.cell node.later a node.is (ap (λ (z : ℕ). z / half) key-is ∙ at_g) (h (Some p) e))
          where
            go : (made : Option (Option ℕ)) (first : Option ℕ) → (made ≡ None) ⊎ (made ≡ Some (Some p)) → made ≡ Some first → first_in half g cs ≡ Some p → first_in half g cs ≡ first
            go made first (inl none) known is = absurd (cc)
            go made first (inr here) known is = let q : Some p ≡ first = cc in is ∙ q

        pub right-below : (made : Option (Option ℕ)) → made ≡ Some None → g < k / half → IsSoundHint half g cs made
        right-below made m less first known =
            let P : ℕ → Type 0 = λ z. g < z / half in
            let q : None ≡ first = cc in
            half-below p cs node.cell node.later o a node.is (subst P (sym key-is) less) (h (Some p) e) ∙ q

  -- The first item is where the hint says.
  pub hint-is_place : (p : ℕ) (cs : List Cell) → HasDistinctPlaces cs → (hint : Option (Option ℕ)) → IsSoundHint width f cs hint → hint ≡ Some (Some p) → IsPlaceOf p cs
  hint-is_place p cs a hint h e = let n = first-node width f p cs a (h (Some p) e) in record { cell = n.cell; later = n.later; is = n.is }

  -- The split key of the first item shows its half.
  pub key-part : (p k : ℕ) (cs : List Cell) → HasDistinctPlaces cs → (hint : Option (Option ℕ)) → IsSoundHint width f cs hint → hint ≡ Some (Some p) → split_key_at p cs ≡ Some k → k / half / 2 ≡ f
  key-part p k cs a hint h e read =
      let n = first-node width f p cs a (h (Some p) e) in
      let i = inside width f n.cell n.inside in
      let q : n.cell.split_key ≡ k = some-is n.cell.split_key k (split_key_at p cs) (ap first_split_key n.is) read in
      sym (parts k) ∙ (ap (λ (z : ℕ). z / width) (sym q) ∙ i.key)

  -- The first item is before each higher half.
  pub first-before : (p k g : ℕ) (cs : List Cell) → HasDistinctPlaces cs → (hint : Option (Option ℕ)) → IsSoundHint width f cs hint → hint ≡ Some (Some p) → split_key_at p cs ≡ Some k → k / half < g → IsBeforeInterval half g p cs
  first-before p k g cs a hint h e read less =
      let n = first-node width f p cs a (h (Some p) e) in
      let q : n.cell.split_key ≡ k = some-is n.cell.split_key k (split_key_at p cs) (ap first_split_key n.is) read in
      let P : ℕ → Type 0 = λ z. z / half < g in
      record { cell = n.cell; later = n.later; is = n.is; front = subst P (sym q) less }

pub upper-part : (q f : ℕ) → q / 2 ≡ f → q % 2 ≡ 1 → q ≡ 2 * f + 1
upper-part q f e m = omega (arith, e, m)

pub lower-part : (q f : ℕ) → q / 2 ≡ f → q % 2 ≢ 1 → q ≡ 2 * f
lower-part q f e m = omega (arith, e, m)

pub lower-own : (f : ℕ) → (2 * f) / 2 ≡ f
lower-own f = omega arith

pub upper-own : (f : ℕ) → (2 * f + 1) / 2 ≡ f
upper-own f = omega arith

-- ---- previous hints stay right if the hint of the changed interval is unknown

pub previous-put : (interval_bits at key : ℕ) (item : Item) (previous : List (Option (Option ℕ))) (old new : List Cell) → AreSound (2 ^ (interval_bits + 1)) previous old → get_or previous (key / 2 ^ interval_bits / 2) None ≡ None → new ≡ put_cell (new_cell at key (Some item)) old → AreSound (2 ^ (interval_bits + 1)) previous new
previous-put interval_bits at key item previous old new h gone is f first e =
    let differs : f ≢ key / 2 ^ (interval_bits + 1) = λ q. (let none : get_or previous f None ≡ None = ap (λ (z : ℕ). get_or previous z None) (q ∙ part-half interval_bits key) ∙ gone in absurd (cc)) in
    ap (first_in (2 ^ (interval_bits + 1)) f) is ∙ (others-put (2 ^ (interval_bits + 1)) at key f item old differs ∙ h f first e)

pub previous-out : (interval_bits at k : ℕ) (previous : List (Option (Option ℕ))) (old new : List Cell) (i : HasItem at old) → split_key_at at old ≡ Some k → AreSound (2 ^ (interval_bits + 1)) previous old → get_or previous (k / 2 ^ interval_bits / 2) None ≡ None → new ≡ without at old → AreSound (2 ^ (interval_bits + 1)) previous new
previous-out interval_bits at k previous old new i read h gone is f first e =
    let key : i.cell.split_key ≡ k = some-is i.cell.split_key k (split_key_at at old) (ap first_split_key i.is) read in
    let differs : i.cell.split_key / 2 ^ (interval_bits + 1) ≢ f = λ q. (let none : get_or previous f None ≡ None = ap (λ (z : ℕ). get_or previous z None) (sym q ∙ (ap (λ (z : ℕ). z / 2 ^ (interval_bits + 1)) key ∙ part-half interval_bits k)) ∙ gone in absurd (cc)) in
    ap (first_in (2 ^ (interval_bits + 1)) f) is ∙ (first-without-other (2 ^ (interval_bits + 1)) f at old i.cell i.later i.is (out-in (i.cell.split_key / 2 ^ (interval_bits + 1)) f i.cell.item differs) ∙ h f first e)

-- A hint that is set to unknown is unknown.
pub set-gone : (interval : ℕ) (hint : Option (Option ℕ)) (old new : List (Option (Option ℕ))) → hint ≡ None → SetsHint interval hint old new → get_or new interval None ≡ None
set-gone interval hint old new e s = go (get_or new interval None) refl
  where
    go : (r : Option (Option ℕ)) → get_or new interval None ≡ r → r ≡ None
    go None is = refl
    go (Some first) is =
        elim (s interval first is) [
          | inl stays ↦ absurd (stays.0 refl)
          | inr it ↦ (let q : hint ≡ Some first = it.1 in absurd (cc))
        ]

pub hints-filled : (width interval : ℕ) (hint : Option (Option ℕ)) (old new : List (Option (Option ℕ))) (cs : List Cell) → AreSound width old cs → IsSoundHint width interval cs hint → SetsIfUnknown interval hint old new → AreSound width new cs
hints-filled width interval hint old new cs h r s f first e =
    elim (s f first e) [
      | inl stays ↦ h f first stays
      | inr it ↦ (let P : ℕ → Type 0 = λ z. first_in width z cs ≡ first in subst P (sym it.0) (r first it.1))
    ]

pub hints-nil : (width : ℕ) (current : List (Option (Option ℕ))) (cs : List Cell) → current ≡ [] → AreSound width current cs
hints-nil width current cs is f first e = absurd (nothing (ap (λ (zs : List (Option (Option ℕ))). get_or zs f None) (sym is) ∙ e))
  where
    none-of : List (Option (Option ℕ))
    none-of = []

    nothing : get_or [] f None ≡ Some first → ⊥
    nothing e = absurd (cc)
