-- The first items of intervals after each change of a list.
use Rattle.std.proofs.Common.{◌≡◌, ◌≢◌, ℕ, ◌/◌, ◌<◌, ◌≤◌, inl, inr, List, [], ◌∷◌, Option, Some, None, is_some, Bool, true, false, nat_eq, ◌&&◌, if◌then◌else◌, refl, sym, ◌∙◌, ap, arith}
use Rattle.std.proofs.lemmas.Bool.{cases_lt, cases_eq, cases_Bool}
use Rattle.ets_term.specs.declared.term.Term.{Term}
use Rattle.node_list.specs.declared.node.Item.{Item}
use Rattle.node_list.specs.Cells.{Cell, Sorted}
use Rattle.node_list.specs.Places.{from, HasDistinctPlaces}
use Rattle.node_list.specs.Changes.{put_cell, without}
use Rattle.node_list.specs.Changes.{item_with}
use Rattle.node_list.specs.Changes.{cells_with}
use Rattle.node_list.proofs.CellLaws.{put-past, put-on, from-here, from-on, without-here, without-on, at-most-from}
use Rattle.bucket_table.specs.inside.Intervals.{is_in, first_in}
use Rattle.bucket_table.proofs.list.Content.{with-here, with-on, fresh-apart}

some-is : (a b : ℕ) (o : Option ℕ) → o ≡ Some a → o ≡ Some b → a ≡ b
some-is a b o e f = cc

module _ (width f : ℕ) where
  pub first-here : (c : Cell) (cs : List Cell) → is_in width f c ≡ true → first_in width f (c ∷ cs) ≡ Some c.at
  first-here c cs h = ap (λ (b : Bool). if b then Some c.at else first_in width f cs) h

  pub first-on : (c : Cell) (cs : List Cell) → is_in width f c ≡ false → first_in width f (c ∷ cs) ≡ first_in width f cs
  first-on c cs h = ap (λ (b : Bool). if b then Some c.at else first_in width f cs) h

  -- The same node before two lists.
  first-both : (c : Cell) (cs ds : List Cell) → first_in width f cs ≡ first_in width f ds → first_in width f (c ∷ cs) ≡ first_in width f (c ∷ ds)
  first-both c cs ds e = ap (λ (o : Option ℕ). if is_in width f c then Some c.at else o) e

  -- ---- an insertion
  pub first-put-other : (x : Cell) (cs : List Cell) → is_in width f x ≡ false → first_in width f (put_cell x cs) ≡ first_in width f cs
  first-put-other x [] h = first-on x [] h
  first-put-other x (c ∷ cs) h =
      elim (cases_lt x.split_key c.split_key) [
        | inl past ↦ ap (first_in width f) (put-past x c cs past) ∙ first-on x (c ∷ cs) h
        | inr on ↦ ap (first_in width f) (put-on x c cs on) ∙ first-both c (put_cell x cs) cs (first-put-other x cs h)
      ]

  pub first-put-empty : (x : Cell) (cs : List Cell) → is_in width f x ≡ true → first_in width f cs ≡ None → first_in width f (put_cell x cs) ≡ Some x.at
  first-put-empty x [] h e = first-here x [] h
  first-put-empty x (c ∷ cs) h e =
      elim (cases_lt x.split_key c.split_key) [
        | inl past ↦ ap (first_in width f) (put-past x c cs past) ∙ first-here x (c ∷ cs) h
        | inr on ↦
            elim (cases_Bool (is_in width f c)) [
              | inl hit ↦ let is : first_in width f (c ∷ cs) ≡ Some c.at = first-here c cs hit in absurd (cc)
              | inr miss ↦
                  ap (first_in width f) (put-on x c cs on)
                  ∙ (first-on c (put_cell x cs) miss ∙ first-put-empty x cs h (sym (first-on c cs miss) ∙ e))
            ]
      ]

  -- The node of a first item.
  pub record First (p : ℕ) (cs : List Cell) : Type 0 where
    pub cell : Cell
    pub later : List Cell
    pub is : from p cs ≡ cell ∷ later
    pub inside : is_in width f cell ≡ true
    pub at : cell.at ≡ p

  pub first-node : (p : ℕ) (cs : List Cell) → HasDistinctPlaces cs → first_in width f cs ≡ Some p → First p cs
  first-node p [] a e = absurd (cc)
  first-node p (c ∷ cs) a e =
      elim (cases_Bool (is_in width f c)) [
        | inl hit ↦
            let here : c.at ≡ p = some-is c.at p (first_in width f (c ∷ cs)) (first-here c cs hit) e in
            record { cell = c; later = cs; is = from-here p c cs here; inside = hit; at = here }
        | inr miss ↦
            let n = first-node p cs a.1 (sym (first-on c cs miss) ∙ e) in
            record { cell = n.cell; later = n.later; is = from-on p c cs (fresh-apart c.at p cs n.cell n.later a.0 n.is) ∙ n.is; inside = n.inside; at = n.at }
      ]

  -- An item inserted after the first item leaves it the first. One inserted before it becomes the first.
  pub first-put-behind : (x : Cell) (p : ℕ) (cs : List Cell) (d : Cell) (ds : List Cell) → Sorted cs → HasDistinctPlaces cs → from p cs ≡ d ∷ ds → d.split_key ≤ x.split_key → first_in width f cs ≡ Some p → first_in width f (put_cell x cs) ≡ Some p
  first-put-behind x p [] d ds o a s k e = absurd (cc)
  first-put-behind x p (c ∷ cs) d ds o a s k e =
      elim (cases_Bool (is_in width f c)) [
        | inl hit ↦
            let here : c.at ≡ p = some-is c.at p (first_in width f (c ∷ cs)) (first-here c cs hit) e in
            let same : c ≡ d = cc (sym (from-here p c cs here) ∙ s) in
            let q : c.split_key ≡ d.split_key = ap (λ (z : Cell). z.split_key) same in
            let on : c.split_key ≤ x.split_key = omega arith in
            ap (first_in width f) (put-on x c cs on) ∙ (first-here c (put_cell x cs) hit ∙ ap Some here)
        | inr miss ↦
            let later : first_in width f cs ≡ Some p = sym (first-on c cs miss) ∙ e in
            let n = first-node p cs a.1 later in
            let s' : from p cs ≡ d ∷ ds = sym (from-on p c cs (fresh-apart c.at p cs n.cell n.later a.0 n.is)) ∙ s in
            let low : c.split_key ≤ d.split_key = at-most-from p c.split_key cs d ds o.0 o.1 s' in
            let on : c.split_key ≤ x.split_key = omega arith in
            ap (first_in width f) (put-on x c cs on) ∙ (first-on c (put_cell x cs) miss ∙ first-put-behind x p cs d ds o.1 a.1 s' k later)
      ]

  pub first-put-before : (x : Cell) (p : ℕ) (cs : List Cell) (d : Cell) (ds : List Cell) → HasDistinctPlaces cs → is_in width f x ≡ true → from p cs ≡ d ∷ ds → x.split_key < d.split_key → first_in width f cs ≡ Some p → first_in width f (put_cell x cs) ≡ Some x.at
  first-put-before x p [] d ds a h s k e = absurd (cc)
  first-put-before x p (c ∷ cs) d ds a h s k e =
      elim (cases_lt x.split_key c.split_key) [
        | inl past ↦ ap (first_in width f) (put-past x c cs past) ∙ first-here x (c ∷ cs) h
        | inr on ↦
            elim (cases_Bool (is_in width f c)) [
              | inl hit ↦
                  let here : c.at ≡ p = some-is c.at p (first_in width f (c ∷ cs)) (first-here c cs hit) e in
                  let same : c ≡ d = cc (sym (from-here p c cs here) ∙ s) in
                  let q : c.split_key ≡ d.split_key = ap (λ (z : Cell). z.split_key) same in
                  absurd (omega arith)
              | inr miss ↦
                  let later : first_in width f cs ≡ Some p = sym (first-on c cs miss) ∙ e in
                  let n = first-node p cs a.1 later in
                  let s' : from p cs ≡ d ∷ ds = sym (from-on p c cs (fresh-apart c.at p cs n.cell n.later a.0 n.is)) ∙ s in
                  ap (first_in width f) (put-on x c cs on) ∙ (first-on c (put_cell x cs) miss ∙ first-put-before x p cs d ds a.1 h s' k later)
            ]
      ]

  -- ---- a removal
  pub first-without-other : (gone : ℕ) (cs : List Cell) (d : Cell) (ds : List Cell) → from gone cs ≡ d ∷ ds → is_in width f d ≡ false → first_in width f (without gone cs) ≡ first_in width f cs
  first-without-other gone [] d ds s h = refl
  first-without-other gone (c ∷ cs) d ds s h =
      elim (cases_eq c.at gone) [
        | inl here ↦
            let same : c ≡ d = cc (sym (from-here gone c cs here) ∙ s) in
            let out : is_in width f c ≡ false = ap (is_in width f) same ∙ h in
            ap (first_in width f) (without-here gone c cs here) ∙ sym (first-on c cs out)
        | inr other ↦
            ap (first_in width f) (without-on gone c cs other) ∙ first-both c (without gone cs) cs (first-without-other gone cs d ds (sym (from-on gone c cs other) ∙ s) h)
      ]

  pub first-without-behind : (gone p : ℕ) (cs : List Cell) → p ≢ gone → first_in width f cs ≡ Some p → first_in width f (without gone cs) ≡ Some p
  first-without-behind gone p [] n e = e
  first-without-behind gone p (c ∷ cs) n e =
      elim (cases_Bool (is_in width f c)) [
        | inl hit ↦
            let at : c.at ≡ p = some-is c.at p (first_in width f (c ∷ cs)) (first-here c cs hit) e in
            let other : c.at ≢ gone = λ g. n (sym at ∙ g) in
            ap (first_in width f) (without-on gone c cs other) ∙ (first-here c (without gone cs) hit ∙ ap Some at)
        | inr miss ↦
            let later : first_in width f cs ≡ Some p = sym (first-on c cs miss) ∙ e in
            elim (cases_eq c.at gone) [
              | inl here ↦ ap (first_in width f) (without-here gone c cs here) ∙ later
              | inr other ↦ ap (first_in width f) (without-on gone c cs other) ∙ (first-on c (without gone cs) miss ∙ first-without-behind gone p cs n later)
            ]
      ]

  -- ---- another chain
  item-in : (c : Cell) (o : Option Item) (w : List Term) → (nat_eq (c.split_key / width) f && is_some (item_with o w)) ≡ (nat_eq (c.split_key / width) f && is_some o)
  item-in c None w = refl
  item-in c (Some item) w = refl

  pub first-with : (at : ℕ) (w : List Term) (cs : List Cell) → first_in width f (cells_with at w cs) ≡ first_in width f cs
  first-with at w [] = refl
  first-with at w (c ∷ cs) =
      elim (cases_eq c.at at) [
        | inl here ↦
            ap (first_in width f) (with-here at w c cs here)
            ∙ (ap (λ (b : Bool). if b then Some c.at else first_in width f (cells_with at w cs)) (item-in c c.item w) ∙ first-both c (cells_with at w cs) cs (first-with at w cs))
        | inr other ↦ ap (first_in width f) (with-on at w c cs other) ∙ first-both c (cells_with at w cs) cs (first-with at w cs)
      ]
