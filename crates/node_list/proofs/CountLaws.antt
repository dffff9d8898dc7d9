-- A list with as many nodes as its slab has all of them.
use Rattle.std.proofs.Common.{◌≡◌, ℕ, ◌+◌, ◌<◌, inl, inr, List, [], ◌∷◌, length, get_or, set, Option, Some, None, IsSome, is_some, count_by, cond, Bool, refl, sym, ◌∙◌, ap, subst, arith}
use Rattle.std.proofs.lemmas.Bool.{cases_eq}
use Rattle.std.proofs.lemmas.List.{get_or-set_other, get_or_past}
use Rattle.std.proofs.lemmas.List.Sums.{sum_by-set}
use Rattle.slab.specs.Slab.{Slab, get}
use Rattle.node_list.specs.declared.node.Item.{Item}
use Rattle.node_list.specs.declared.node.ListNode.{ListNode}
use Rattle.node_list.specs.Cells.{Cell}
use Rattle.node_list.specs.Places.{IsPlaceOf, HasItem, IsFresh, HasDistinctPlaces, IsNextItem}
use Rattle.node_list.specs.inside.Slots.{HasItemIn, IsNextItemIn}
use Rattle.node_list.specs.inside.Walks.{Links, cells_from, HasPlace, ListInvariant}
use Rattle.node_list.proofs.CellLaws.{from-here, from-on}
use Rattle.node_list.proofs.PlaceLaws.{links-distinct, place-node}

-- the place of each cell has a node
abbrev HaveNodes : List (Option ListNode) → List Cell → Type 0
HaveNodes os [] = Unit {0}
HaveNodes os (c ∷ cs) = IsSome (get_or os c.at None) × HaveNodes os cs

links-nodes : (os : List (Option ListNode)) (link : Option ℕ) (cs : List Cell) → Links (λ k. get_or os k None) link cs → HaveNodes os cs
links-nodes os link [] l = tt
links-nodes os link (c ∷ cs) l =
    let P : Option ListNode → Type 0 = λ o. IsSome o in
    (subst P (sym l.1.1) refl, links-nodes os l.1.0 cs l.1.2)

fewer-nodes : (os : List (Option ListNode)) (k : ℕ) (cs : List Cell) → IsFresh k cs → HaveNodes os cs → HaveNodes (set os k None) cs
fewer-nodes os k [] f h = tt
fewer-nodes os k (c ∷ cs) f h =
    let P : Option ListNode → Type 0 = λ o. IsSome o in
    (subst P (sym (get_or-set_other os k c.at None None f.0)) h.0, fewer-nodes os k cs f.1 h.1)

within : (os : List (Option ListNode)) (k : ℕ) → IsSome (get_or os k None) → k < length os
within os k h = grind (arith, get_or_past)

one-less : (os : List (Option ListNode)) (k : ℕ) → IsSome (get_or os k None) → count_by is_some (set os k None) + 1 ≡ count_by is_some os
one-less os k h =
    let counts : Option ListNode → ℕ = λ o. cond (is_some o) 1 0 in
    let one : counts (get_or os k None) ≡ 1 = ap {B = ℕ} (λ (b : Bool). cond b 1 0) h in
    omega (arith, one, sum_by-set counts os k None None (within os k h))

has-all : (cs : List Cell) (os : List (Option ListNode)) → HasDistinctPlaces cs → HaveNodes os cs → count_by is_some os ≡ length cs → (k : ℕ) → IsSome (get_or os k None) → HasPlace k cs
has-all [] os a n e k h = absurd (omega (arith, e, one-less os k h))
has-all (c ∷ cs) os a n e k h =
    let P : Option ListNode → Type 0 = λ o. IsSome o in
    elim (cases_eq c.at k) [
      | inl here ↦ inl here
      | inr other ↦
          inr (has-all cs (set os c.at None) a.1 (fewer-nodes os c.at cs a.0 n.1) (omega (arith, e, one-less os c.at n.0)) k
          (subst P (sym (get_or-set_other os c.at k None None (λ same. other (sym same)))) h))
    ]

is_place-there : (at : ℕ) (cs : List Cell) → HasPlace at cs → IsPlaceOf at cs
is_place-there at [] h = absurd h
is_place-there at (c ∷ cs) h =
    elim (cases_eq c.at at) [
      | inl here ↦ record { cell = c; later = cs; is = from-here at c cs here }
      | inr other ↦
          let s = is_place-there at cs (elim h [ inl here ↦ absurd (other here) | inr later ↦ later ]) in
          record { cell = s.cell; later = s.later; is = from-on at c cs other ∙ s.is }
    ]

pub node-is_place : (s : Slab ListNode) (at : ℕ) → ListInvariant s → IsSome (get s at) → IsPlaceOf at (cells_from s (Some 0))
node-is_place s at l h =
    let cells = cells_from s (Some 0) in
    is_place-there at cells (has-all cells s.slots (links-distinct (get s) (Some 0) cells l.linked.links) (links-nodes s.slots (Some 0) cells l.linked.links) l.counted at h)

-- ---- items
some-item : (o : Option Item) → IsSome o → (item : Item) × (o ≡ Some item)
some-item None h = absurd (cc)
some-item (Some item) h = (item, refl)

item-listed : (s : Slab ListNode) (at : ℕ) → ListInvariant s → HasItemIn s at → HasItem at (cells_from s (Some 0))
item-listed s at l h =
    let P : Option ListNode → Type 0 = λ o. IsSome o in
    let there = node-is_place s at l (subst P (sym h.is) refl) in
    let f = place-node s at there.cell there.later l.linked there.is in
    let same : f.node ≡ h.node = cc (f.is, h.is) in
    let some = some-item h.node.item h.has in
    record { cell = there.cell; later = there.later; item = some.0; is = there.is; has = sym f.item ∙ (ap (λ (n : ListNode). n.item) same ∙ some.1) }

item-kept : (s : Slab ListNode) (at : ℕ) → ListInvariant s → HasItem at (cells_from s (Some 0)) → HasItemIn s at
item-kept s at l h =
    let P : Option Item → Type 0 = λ o. IsSome o in
    let f = place-node s at h.cell h.later l.linked h.is in
    record { node = f.node; is = f.is; has = subst P (sym (f.item ∙ h.has)) refl }

pub item-from : (s : Slab ListNode) (start : ℕ) (found : Option ℕ) → ListInvariant s → IsNextItemIn start found s → IsNextItem start found (cells_from s (Some 0))
item-from s start None l h = λ other has. h other (item-kept s other l has)
item-from s start (Some at) l h =
    record { has = item-listed s at l h.has; from = h.from; least = λ other has after. h.least other (item-kept s other l has) after }
