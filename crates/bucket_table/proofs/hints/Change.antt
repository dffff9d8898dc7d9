-- Hints stay right after each change.
use Rattle.std.proofs.Common.{◌≡◌, ◌≢◌, ℕ, ◌/◌, inl, inr, List, [], ◌∷◌, get_or, Option, Some, None, is_some, Bool, true, false, nat_eq, ◌&&◌, refl, sym, ◌∙◌, ap, subst, arith}
use Rattle.std.proofs.lemmas.Bool.{cases_eq, cases_Bool}
use Rattle.std.proofs.lemmas.Bool.Decides.{nat_tests}
use Rattle.ets_term.specs.declared.term.Term.{Term}
use Rattle.node_list.specs.declared.node.Item.{Item}
use Rattle.node_list.specs.Cells.{Cell, new_cell}
use Rattle.node_list.specs.Places.{from, cells_after, all_but_first, HasDistinctPlaces}
use Rattle.node_list.specs.Changes.{put_cell, without}
use Rattle.node_list.specs.Changes.{cells_with}
use Rattle.node_list.proofs.CellLaws.{from-here, from-on, without-here, without-on}
use Rattle.bucket_table.specs.inside.Intervals.{is_in, first_in, AreSound, AreUnknown, IsNewFirst, KeepsFirst, SetsFirst, IsItemIn, IsHintAfterRemoval, ReplacesFirst}
use Rattle.bucket_table.proofs.list.Content.{fresh-apart}
use Rattle.bucket_table.proofs.hints.First.{first-here, first-on, first-node, first-put-other, first-without-other, first-without-behind, first-with}
use Rattle.bucket_table.proofs.hints.Search.{is_in-yes}

pub out-in : (a f : ℕ) (o : Option Item) → a ≢ f → (nat_eq a f && is_some o) ≡ false
out-in a f None h = grind (arith, nat_tests)
out-in a f (Some item) h = grind (arith, nat_tests)

-- ---- an insertion
pub others-put : (width at key f : ℕ) (item : Item) (old : List Cell) → f ≢ key / width → first_in width f (put_cell (new_cell at key (Some item)) old) ≡ first_in width f old
others-put width at key f item old n = first-put-other width f (new_cell at key (Some item)) old (out-in (key / width) f (Some item) (λ e. n (sym e)))

true-false : (b : Bool) → b ≡ true → b ≡ false → ⊥
true-false b e f = absurd (cc)

pub hints-put : (width : ℕ) (current after : List (Option (Option ℕ))) (moves : Bool) (at key : ℕ) (item : Item) (old new : List Cell) → AreSound width current old → new ≡ put_cell (new_cell at key (Some item)) old
    → SetsFirst moves (key / width) at current after → (moves ≡ true → IsNewFirst width (key / width) old key) → (moves ≡ false → KeepsFirst width (key / width) old key (get_or current (key / width) None)) → AreSound width after new
hints-put width current after moves at key item old new h is logged yes_first no_first f first e =
    ap (first_in width f) is
    ∙ elim (logged f first e) [
      | inl stays ↦
          elim (cases_eq f (key / width)) [
            | inl it ↦
                let P : ℕ → Type 0 = λ z. first_in width z (put_cell (new_cell at key (Some item)) old) ≡ first in
                subst P (sym it) (no_first (stays.0 it) at item first (ap (λ (z : ℕ). get_or current z None) (sym it) ∙ stays.1))
            | inr other ↦ others-put width at key f item old other ∙ h f first stays.1
          ]
      | inr new_one ↦
          let P : ℕ → Type 0 = λ z. first_in width z (put_cell (new_cell at key (Some item)) old) ≡ first in
          subst P (sym new_one.0) (yes_first new_one.1 at item ∙ sym new_one.2)
    ]

pub hints-dummy : (width : ℕ) (current : List (Option (Option ℕ))) (at key : ℕ) (old new : List Cell) → AreSound width current old → new ≡ put_cell (new_cell at key None) old → AreSound width current new
hints-dummy width current at key old new h is f first e =
    let out : is_in width f (new_cell at key None) ≡ false = go (key / width) f in
    ap (first_in width f) is ∙ (first-put-other width f (new_cell at key None) old out ∙ h f first e)
  where
    go : (a b : ℕ) → (nat_eq a b && false) ≡ false
    go a b = elim (nat_eq a b) as (λ z. (z && false) ≡ false) [ true ↦ refl | false ↦ refl ]

-- ---- a removal
in-first : (width f gone : ℕ) (cs : List Cell) (d : Cell) (ds : List Cell) → from gone cs ≡ d ∷ ds → is_in width f d ≡ true → first_in width f cs ≡ None → ⊥
in-first width f gone [] d ds s h e = absurd (cc)
in-first width f gone (c ∷ cs) d ds s h e =
    elim (cases_Bool (is_in width f c)) [
      | inl hit ↦ let is : first_in width f (c ∷ cs) ≡ Some c.at = first-here width f c cs hit in absurd (cc)
      | inr miss ↦
          elim (cases_eq c.at gone) [
            | inl here ↦ let same : c ≡ d = cc (sym (from-here gone c cs here) ∙ s) in let out : is_in width f d ≡ false = ap (is_in width f) (sym same) ∙ miss in absurd (cc)
            | inr other ↦ in-first width f gone cs d ds (sym (from-on gone c cs other) ∙ s) h (sym (first-on width f c cs miss) ∙ e)
          ]
    ]

behind-gone : (width f gone : ℕ) (cs : List Cell) (d : Cell) (ds : List Cell) (q : Option ℕ) → from gone cs ≡ d ∷ ds → is_in width f d ≡ true → q ≢ Some gone → first_in width f cs ≡ q → first_in width f (without gone cs) ≡ q
behind-gone width f gone cs d ds None s h n e = absurd (in-first width f gone cs d ds s h e)
behind-gone width f gone cs d ds (Some p) s h n e = first-without-behind width f gone p cs (λ g. n (ap Some g)) e

-- The other items of an interval come after the first.
without-first : (width f gone : ℕ) (cs : List Cell) (d : Cell) (ds : List Cell) → HasDistinctPlaces cs → from gone cs ≡ d ∷ ds → first_in width f cs ≡ Some gone → first_in width f (without gone cs) ≡ first_in width f ds
without-first width f gone [] d ds a s e = absurd (cc)
without-first width f gone (c ∷ cs) d ds a s e =
    elim (cases_Bool (is_in width f c)) [
      | inl hit ↦
          let here : c.at ≡ gone = some-at c.at gone (first_in width f (c ∷ cs)) (first-here width f c cs hit) e in
          let later : cs ≡ ds = cc (sym (from-here gone c cs here) ∙ s) in
          ap (first_in width f) (without-here gone c cs here ∙ later)
      | inr miss ↦
          let e' : first_in width f cs ≡ Some gone = sym (first-on width f c cs miss) ∙ e in
          let n = first-node width f gone cs a.1 e' in
          let other = fresh-apart c.at gone cs n.cell n.later a.0 n.is in
          ap (first_in width f) (without-on gone c cs other) ∙ (first-on width f c (without gone cs) miss ∙ without-first width f gone cs d ds a.1 (sym (from-on gone c cs other) ∙ s) e')
    ]
  where
    some-at : (x y : ℕ) (q : Option ℕ) → q ≡ Some x → q ≡ Some y → x ≡ y
    some-at x y q g h = cc

pub hints-without : (width : ℕ) (current after : List (Option (Option ℕ))) (hint : Option (Option ℕ)) (gone interval : ℕ) (old new : List Cell) (i : IsItemIn width interval gone old) → AreSound width current old → HasDistinctPlaces old → new ≡ without gone old
    → IsHintAfterRemoval width interval gone old hint → ReplacesFirst interval gone hint current after → AreSound width after new
hints-without width current after hint gone interval old new i h a is next succeeded f first e =
    ap (first_in width f) is
    ∙ elim (succeeded f first e) [
      | inl stays ↦
          elim (cases_eq (i.cell.split_key / width) f) [
            | inl same' ↦ behind-gone width f gone old i.cell i.later first i.is (is_in-yes width f i.cell i.item same' i.has) (stays.1 (sym same' ∙ i.inside)) (h f first stays.0)
            | inr out ↦ first-without-other width f gone old i.cell i.later i.is (out-in (i.cell.split_key / width) f i.cell.item out) ∙ h f first stays.0
          ]
      | inr gone_first ↦
          let was : first_in width interval old ≡ Some gone = h interval (Some gone) gone_first.1 in
          let later : cells_after gone old ≡ i.later = ap all_but_first i.is in
          let P : ℕ → Type 0 = λ z. first_in width z (without gone old) ≡ first in
          subst P (sym gone_first.0) (without-first width interval gone old i.cell i.later a i.is was ∙ (ap (first_in width interval) (sym later) ∙ next first gone_first.2))
    ]

-- ---- another chain
pub hints-with : (width : ℕ) (current : List (Option (Option ℕ))) (at : ℕ) (w : List Term) (cs : List Cell) → AreSound width current cs → AreSound width current (cells_with at w cs)
hints-with width current at w cs h f first e = first-with width f at w cs ∙ h f first e

-- ---- unknown hints
pub hints-none : (width : ℕ) (current : List (Option (Option ℕ))) (cs : List Cell) → AreUnknown current → AreSound width current cs
hints-none width current cs none f first e = let no : None ≡ Some first = sym (none f) ∙ e in absurd (cc)
