-- Laws of the places of the nodes of a list.
use Rattle.std.proofs.Common.{◌≡◌, ◌≢◌, ℕ, ◌+◌, ◌≤◌, inl, inr, List, [], ◌∷◌, length, Option, Some, None, refl, sym, ◌∙◌, ap, subst, arith}
use Rattle.std.proofs.lemmas.Bool.{cases_eq}
use Rattle.std.proofs.lemmas.Grind.{common_steps}
use Rattle.slab.specs.Slab.{Slab, get, slab_len, with_value}
use Rattle.node_list.specs.declared.node.ListNode.{ListNode}
use Rattle.node_list.specs.Cells.{Cell}
use Rattle.node_list.specs.Places.{from, cells_after, all_but_first, first_place, IsFresh, HasDistinctPlaces}
use Rattle.node_list.specs.inside.Walks.{Links, IsLinked, cells_from, node_of, HasPlace}
use Rattle.node_list.proofs.WalkLaws.{walk-is, walk-length}
use Rattle.node_list.proofs.CellLaws.{from-here, from-on, length-from}

pub links-unique : (g : ℕ → Option ListNode) (link : Option ℕ) (xs ys : List Cell) → Links g link xs → Links g link ys → xs ≡ ys
links-unique g link xs ys l m =
    sym (walk-is (length xs + length ys) g link xs l (omega arith)) ∙ walk-is (length xs + length ys) g link ys m (omega arith)

-- a list does not come back to its first place
pub links-head_fresh : (g : ℕ → Option ListNode) (c : Cell) (cs : List Cell) → Links g (Some c.at) (c ∷ cs)
    → (link : Option ℕ) (ds : List Cell) → Links g link ds → length ds ≤ length cs → IsFresh c.at ds
links-head_fresh g c cs full link [] l h = tt
links-head_fresh g c cs full link (d ∷ ds) l h = (
  λ e. let again : Links g (Some c.at) (d ∷ ds) = (ap Some (sym e), l.1) in
      let same : length (d ∷ ds) ≡ length (c ∷ cs) = ap length (links-unique g (Some c.at) (d ∷ ds) (c ∷ cs) again full) in
      absurd (omega arith),
  links-head_fresh g c cs full l.1.0 ds l.1.2 (omega arith),
)

pub links-fresh : (g : ℕ → Option ListNode) (p : ℕ) → g p ≡ None → (link : Option ℕ) (cs : List Cell) → Links g link cs → IsFresh p cs
links-fresh g p e link [] l = tt
links-fresh g p e link (c ∷ cs) l = (
  λ same. let f : g p ≡ Some (node_of c l.1.0) = ap g (sym same) ∙ l.1.1 in absurd (cc),
  links-fresh g p e l.1.0 cs l.1.2,
)

pub links-frame : (g h : ℕ → Option ListNode) (p q : ℕ) → ((k : ℕ) → k ≢ p → k ≢ q → h k ≡ g k)
    → (link : Option ℕ) (cs : List Cell) → Links g link cs → IsFresh p cs → IsFresh q cs → Links h link cs
links-frame g h p q same link [] l a b = l
links-frame g h p q same link (c ∷ cs) l a b =
    (l.0, (l.1.0, same c.at a.0 b.0 ∙ l.1.1, links-frame g h p q same l.1.0 cs l.1.2 a.1 b.1))

-- the list from a place on is what its links lead to
pub links-from : (g : ℕ → Option ListNode) (start : ℕ) (link : Option ℕ) (cs : List Cell) (d : Cell) (ds : List Cell) → Links g link cs → from start cs ≡ d ∷ ds → (d.at ≡ start) × Links g (Some start) (d ∷ ds)
links-from g start link [] d ds l e = absurd (cc)
links-from g start link (c ∷ cs) d ds l e =
    elim (cases_eq c.at start) [
      | inl here ↦
          let same : c ∷ cs ≡ d ∷ ds = sym (from-here start c cs here) ∙ e in
          let at : c.at ≡ d.at = ap (λ (z : Cell). z.at) (let k : c ≡ d = cc in k) in
          let full : Links g (Some start) (c ∷ cs) = (ap Some (sym here), l.1) in
          let P : List Cell → Type 0 = λ zs. Links g (Some start) zs in
          (sym at ∙ here, subst P same full)
      | inr other ↦ links-from g start l.1.0 cs d ds l.1.2 (sym (from-on start c cs other) ∙ e)
    ]

-- what the links from a place lead to is the list from it on
pub cells_from-suffix : (s : Slab ListNode) (start : ℕ) (d : Cell) (ds : List Cell) → IsLinked s (Some 0) → from start (cells_from s (Some 0)) ≡ d ∷ ds → (IsLinked s (Some start)) × (cells_from s (Some start) ≡ from start (cells_from s (Some 0)))
cells_from-suffix s start d ds l e =
    let f = links-from (get s) start (Some 0) (cells_from s (Some 0)) d ds l.links e in
    let short : length (d ∷ ds) ≤ slab_len s = omega (arith, ap length e, length-from start (cells_from s (Some 0)), walk-length (slab_len s) (get s) (Some 0)) in
    let is : cells_from s (Some start) ≡ d ∷ ds = walk-is (slab_len s) (get s) (Some start) (d ∷ ds) f.1 short in
    let P : List Cell → Type 0 = λ zs. Links (get s) (Some start) zs in
    (record { links = subst P (sym is) f.1 }, is ∙ sym e)

-- a link leads to the first node of the list from it
links-first : (g : ℕ → Option ListNode) (link : Option ℕ) (cs : List Cell) → Links g link cs → link ≡ first_place cs
links-first g link [] l = l
links-first g link (c ∷ cs) l = l.0

-- the node at a place of the list
pub record PlaceNode (s : Slab ListNode) (at : ℕ) (d : Cell) (ds : List Cell) : Type 0 where
  pub node : ListNode
  pub is : get s at ≡ Some node
  pub key : node.split_key ≡ d.split_key
  pub item : node.item ≡ d.item
  pub next : node.next ≡ first_place ds

pub place-node : (s : Slab ListNode) (at : ℕ) (d : Cell) (ds : List Cell) → IsLinked s (Some 0) → from at (cells_from s (Some 0)) ≡ d ∷ ds → PlaceNode s at d ds
place-node s at d ds l e =
    let f = links-from (get s) at (Some 0) (cells_from s (Some 0)) d ds l.links e in
    record {
      node = node_of d f.1.1.0;
      is = ap (get s) (sym f.0) ∙ f.1.1.1;
      key = refl;
      item = refl;
      next = links-first (get s) f.1.1.0 ds f.1.1.2;
    }

-- ---- places after a place
pub from-has : (at : ℕ) (cs : List Cell) (d : Cell) (ds : List Cell) → from at cs ≡ d ∷ ds → HasPlace at cs
from-has at [] d ds e = absurd (cc)
from-has at (c ∷ cs) d ds e =
    elim (cases_eq c.at at) [
      | inl here ↦ inl here
      | inr other ↦ inr (from-has at cs d ds (sym (from-on at c cs other) ∙ e))
    ]

pub fresh-other : (at p : ℕ) (cs : List Cell) → HasPlace at cs → IsFresh p cs → p ≢ at
fresh-other at p [] h f = absurd h
fresh-other at p (c ∷ cs) h f =
    elim h [ inl here ↦ (λ e. f.0 (here ∙ sym e)) | inr later ↦ fresh-other at p cs later f.1 ]

-- a node after a place is in the list
pub from-cells_after : (start at : ℕ) (cs : List Cell) (d : Cell) (ds : List Cell) → HasDistinctPlaces cs → from at (cells_after start cs) ≡ d ∷ ds → from at cs ≡ d ∷ ds
from-cells_after start at [] d ds a e = e
from-cells_after start at (c ∷ cs) d ds a e =
    let P : List Cell → Type 0 = λ zs. from at (all_but_first zs) ≡ d ∷ ds in
    elim (cases_eq c.at start) [
      | inl here ↦
          let later : from at cs ≡ d ∷ ds = subst P (from-here start c cs here) e in
          from-on at c cs (fresh-other at c.at cs (from-has at cs d ds later) a.0) ∙ later
      | inr other ↦
          let later : from at cs ≡ d ∷ ds = from-cells_after start at cs d ds a.1 (subst P (from-on start c cs other) e) in
          from-on at c cs (fresh-other at c.at cs (from-has at cs d ds later) a.0) ∙ later
    ]

pub with_value-len : (m : Slab ListNode) (k : ℕ) (n v : ListNode) → get m k ≡ Some n → slab_len (with_value m k v) ≡ slab_len m
with_value-len m k n v e =
    grind (arith, common_steps)

-- no place is in a list twice
pub links-distinct : (g : ℕ → Option ListNode) (link : Option ℕ) (cs : List Cell) → Links g link cs → HasDistinctPlaces cs
links-distinct g link [] l = tt
links-distinct g link (c ∷ cs) l =
    let full : Links g (Some c.at) (c ∷ cs) = (refl, l.1) in
    (links-head_fresh g c cs full l.1.0 cs l.1.2 (omega arith), links-distinct g l.1.0 cs l.1.2)
