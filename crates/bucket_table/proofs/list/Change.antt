-- The items of a list by their places, after each change of the list.
use Rattle.std.proofs.Common.{◌≡◌, ◌≢◌, ℕ, ◌+◌, ◌<◌, ◌≤◌, inl, inr, List, [], ◌∷◌, Option, Some, None, refl, sym, ◌∙◌, ap, subst, arith}
use Rattle.std.proofs.lemmas.Bool.{cases_lt, cases_eq}
use Rattle.ets_term.specs.declared.term.Term.{Term}
use Rattle.node_list.specs.declared.node.Item.{Item}
use Rattle.node_list.specs.Cells.{Cell, new_cell, new_item}
use Rattle.node_list.specs.Places.{first_item, item_at, IsFresh, HasDistinctPlaces}
use Rattle.node_list.specs.Changes.{put_cell, without, item_with, cells_with}
use Rattle.node_list.proofs.CellLaws.{put-past, put-on, from-here, from-on, without-here, without-on}
use Rattle.node_list.proofs.CallerLaws.{put-from_new}
use Rattle.bucket_table.specs.Slots.{Slot, Enters}
use Rattle.bucket_table.specs.inside.Order.{slots_from, above, content_of}
use Rattle.bucket_table.proofs.list.Content.{with-here, with-on}
use Rattle.bucket_table.proofs.order.Change.{same-slots, longer, enters-at}

pub item-here : (at : ℕ) (c : Cell) (cs : List Cell) → c.at ≡ at → item_at at (c ∷ cs) ≡ c.item
item-here at c cs e = ap first_item (from-here at c cs e)

pub item-on : (at : ℕ) (c : Cell) (cs : List Cell) → c.at ≢ at → item_at at (c ∷ cs) ≡ item_at at cs
item-on at c cs n = ap first_item (from-on at c cs n)

pub fresh-none : (at : ℕ) (cs : List Cell) → IsFresh at cs → item_at at cs ≡ None
fresh-none at [] f = refl
fresh-none at (c ∷ cs) f = item-on at c cs f.0 ∙ fresh-none at cs f.1

pub none-above : (at : ℕ) (cs : List Cell) → above cs ≤ at → item_at at cs ≡ None
none-above at [] h = refl
none-above at (c ∷ cs) h =
    let other : c.at ≢ at = λ e. absurd (omega arith) in
    item-on at c cs other ∙ none-above at cs (omega arith)

pub item-below : (at : ℕ) (cs : List Cell) (item : Item) → item_at at cs ≡ Some item → at < above cs
item-below at cs item e =
    elim (cases_lt at (above cs)) [
      | inl less ↦ less
      | inr most ↦ (let none : item_at at cs ≡ None = none-above at cs most in absurd (cc))
    ]

-- ---- the content

pub content-is : (cs : List Cell) (many : ℕ) → above cs ≤ many → slots_from (λ at. item_at at cs) 0 many ≡ content_of cs
content-is cs many l = longer (λ at. item_at at cs) 0 (above cs) many l (λ at k. none-above at cs (omega arith))

pub content-same : (old new : List Cell) → ((at : ℕ) → item_at at new ≡ item_at at old) → content_of new ≡ content_of old
content-same old new h =
    sym (content-is new (above old + above new) (omega arith))
    ∙ (same-slots (λ at. item_at at new) (λ at. item_at at old) 0 (above old + above new) (λ at l. h at) ∙ content-is old (above old + above new) (omega arith))

pub content-more : (old new : List Cell) (own : ℕ) (item : Item) → item_at own old ≡ None → item_at own new ≡ Some item → ((at : ℕ) → at ≢ own → item_at at old ≡ item_at at new)
    → Enters (content_of old) item.term item.chain (content_of new)
content-more old new own item none has others =
    let many : ℕ = above old + above new in
    let high : own < above new = item-below own new item has in
    let P : List Slot → Type 0 = λ ss. Enters ss item.term item.chain (content_of new) in
    let Q : List Slot → Type 0 = λ ss. Enters (slots_from (λ at. item_at at old) 0 many) item.term item.chain ss in
    subst P (content-is old many (omega arith)) (subst Q (content-is new many (omega arith)) (enters-at (λ at. item_at at old) (λ at. item_at at new) own item none has others 0 many (omega arith) (omega arith)))

-- ---- an insertion

put-apart : (x : Cell) (cs : List Cell) (at : ℕ) → x.at ≢ at → item_at at (put_cell x cs) ≡ item_at at cs
put-apart x [] at n = item-on at x [] n
put-apart x (c ∷ cs) at n =
    elim (cases_lt x.split_key c.split_key) [
      | inl past ↦ ap (item_at at) (put-past x c cs past) ∙ item-on at x (c ∷ cs) n
      | inr on ↦
          ap (item_at at) (put-on x c cs on)
          ∙ elim (cases_eq c.at at) [
            | inl here ↦ item-here at c (put_cell x cs) here ∙ sym (item-here at c cs here)
            | inr other ↦ item-on at c (put_cell x cs) other ∙ (put-apart x cs at n ∙ sym (item-on at c cs other))
          ]
    ]

put-own : (x : Cell) (cs : List Cell) → IsFresh x.at cs → item_at x.at (put_cell x cs) ≡ x.item
put-own x cs f = ap first_item (put-from_new x cs f).1

pub content-dummy : (at key : ℕ) (cs : List Cell) → IsFresh at cs → content_of (put_cell (new_cell at key None) cs) ≡ content_of cs
content-dummy at key cs f = content-same cs (put_cell (new_cell at key None) cs) same
  where
    same : (p : ℕ) → item_at p (put_cell (new_cell at key None) cs) ≡ item_at p cs
    same p =
        elim (cases_eq at p) [
          | inl here ↦
              ap (λ (z : ℕ). item_at z (put_cell (new_cell at key None) cs)) (sym here)
              ∙ (put-own (new_cell at key None) cs f ∙ (sym (fresh-none at cs f) ∙ ap (λ (z : ℕ). item_at z cs) here))
          | inr other ↦ put-apart (new_cell at key None) cs p other
        ]

pub content-item : (at key : ℕ) (term : Term) (chain : List Term) (cs : List Cell) → IsFresh at cs → Enters (content_of cs) term chain (content_of (put_cell (new_cell at key (Some (new_item term chain))) cs))
content-item at key term chain cs f =
    let x : Cell = new_cell at key (Some (new_item term chain)) in
    content-more cs (put_cell x cs) at (new_item term chain) (fresh-none at cs f) (put-own x cs f) (λ p n. sym (put-apart x cs p (λ e. n (sym e))))

-- ---- a first node

pub first-dummy : (c : Cell) (cs : List Cell) → IsFresh c.at cs → c.item ≡ None → content_of (c ∷ cs) ≡ content_of cs
first-dummy c cs f e = content-same cs (c ∷ cs) same
  where
    same : (p : ℕ) → item_at p (c ∷ cs) ≡ item_at p cs
    same p =
        elim (cases_eq c.at p) [
          | inl here ↦ item-here p c cs here ∙ (e ∙ (sym (fresh-none c.at cs f) ∙ ap (λ (z : ℕ). item_at z cs) here))
          | inr other ↦ item-on p c cs other
        ]

pub first-item : (c : Cell) (cs : List Cell) (item : Item) → IsFresh c.at cs → c.item ≡ Some item → Enters (content_of cs) item.term item.chain (content_of (c ∷ cs))
first-item c cs item f e =
    content-more cs (c ∷ cs) c.at item (fresh-none c.at cs f) (item-here c.at c cs refl ∙ e) (λ p n. sym (item-on p c cs (λ q. n (sym q))))

-- ---- a removed item

pub without-apart : (gone at : ℕ) (cs : List Cell) → gone ≢ at → item_at at (without gone cs) ≡ item_at at cs
without-apart gone at [] n = refl
without-apart gone at (c ∷ cs) n =
    elim (cases_eq c.at gone) [
      | inl here ↦ ap (item_at at) (without-here gone c cs here) ∙ sym (item-on at c cs (λ e. n (sym here ∙ e)))
      | inr stays ↦
          ap (item_at at) (without-on gone c cs stays)
          ∙ elim (cases_eq c.at at) [
            | inl own ↦ item-here at c (without gone cs) own ∙ sym (item-here at c cs own)
            | inr other ↦ item-on at c (without gone cs) other ∙ (without-apart gone at cs n ∙ sym (item-on at c cs other))
          ]
    ]

pub without-own : (gone : ℕ) (cs : List Cell) → HasDistinctPlaces cs → item_at gone (without gone cs) ≡ None
without-own gone [] a = refl
without-own gone (c ∷ cs) a =
    let F : ℕ → Type 0 = λ z. IsFresh z cs in
    elim (cases_eq c.at gone) [
      | inl here ↦ ap (item_at gone) (without-here gone c cs here) ∙ fresh-none gone cs (subst F here a.0)
      | inr stays ↦ ap (item_at gone) (without-on gone c cs stays) ∙ (item-on gone c (without gone cs) stays ∙ without-own gone cs a.1)
    ]

-- ---- an item with another chain

pub with-apart : (own at : ℕ) (w : List Term) (cs : List Cell) → own ≢ at → item_at at (cells_with own w cs) ≡ item_at at cs
with-apart own at w [] n = refl
with-apart own at w (c ∷ cs) n =
    elim (cases_eq c.at own) [
      | inl here ↦
          let other : c.at ≢ at = λ e. n (sym here ∙ e) in
          ap (item_at at) (with-here own w c cs here)
          ∙ (item-on at (record c { item = item_with c.item w }) (cells_with own w cs) other ∙ (with-apart own at w cs n ∙ sym (item-on at c cs other)))
      | inr stays ↦
          ap (item_at at) (with-on own w c cs stays)
          ∙ elim (cases_eq c.at at) [
            | inl same ↦ item-here at c (cells_with own w cs) same ∙ sym (item-here at c cs same)
            | inr other ↦ item-on at c (cells_with own w cs) other ∙ (with-apart own at w cs n ∙ sym (item-on at c cs other))
          ]
    ]

pub with-own : (own : ℕ) (w : List Term) (cs : List Cell) → item_at own (cells_with own w cs) ≡ item_with (item_at own cs) w
with-own own w [] = refl
with-own own w (c ∷ cs) =
    elim (cases_eq c.at own) [
      | inl here ↦
          ap (item_at own) (with-here own w c cs here)
          ∙ (item-here own (record c { item = item_with c.item w }) (cells_with own w cs) here ∙ ap (λ (o : Option Item). item_with o w) (sym (item-here own c cs here)))
      | inr stays ↦
          ap (item_at own) (with-on own w c cs stays)
          ∙ (item-on own c (cells_with own w cs) stays ∙ (with-own own w cs ∙ ap (λ (o : Option Item). item_with o w) (sym (item-on own c cs stays))))
    ]
