-- The list after the borrow of a chain.
use Rattle.std.proofs.Common.{◌≡◌, ◌≢◌, ℕ, suc, ◌≤◌, inl, inr, List, [], ◌∷◌, length, Option, Some, None, IsSome, true, false, nat_eq, refl, sym, ◌∙◌, ap, subst, arith, if◌then◌else◌, slice_set, option_map}
use Rattle.std.proofs.lemmas.Bool.{cases_eq}
use Rattle.std.proofs.lemmas.Bool.Decides.{nat_tests}
use Rattle.slab.specs.Slab.{Slab, get, slab_len, with_value}
use Rattle.slab.proofs.SlabLemmas.{Updates-with_value}
use Rattle.ets_term.specs.declared.term.Term.{Term}
use Rattle.node_list.specs.declared.node.ListNode.{ListNode}
use Rattle.node_list.specs.Cells.{Cell, Sorted, StartsFrom, StartsWithDummy}
use Rattle.node_list.specs.inside.Walks.{Links, cells_from, node_of, ListInvariant}
use Rattle.node_list.specs.inside.Lent.{node_with, nodes_with}
use Rattle.node_list.specs.Changes.{item_with, cells_with}
use Rattle.node_list.proofs.WalkLaws.{walk-is, walk-length}
use Rattle.node_list.proofs.PlaceLaws.{with_value-len}

abbrev cell_with : ℕ → List Term → Cell → Cell
cell_with at w c = if nat_eq c.at at then record c { item = item_with c.item w } else c

cell-same : (at : ℕ) (w : List Term) (c : Cell) → c.at ≡ at → cell_with at w c ≡ record c { item = item_with c.item w }
cell-same at w c e = grind (arith, nat_tests)

cell-other : (at : ℕ) (w : List Term) (c : Cell) → c.at ≢ at → cell_with at w c ≡ c
cell-other at w c e = grind (arith, nat_tests)

cell-keeps : (at : ℕ) (w : List Term) (c : Cell) → ((cell_with at w c).at ≡ c.at) × ((cell_with at w c).split_key ≡ c.split_key)
cell-keeps at w c = elim (nat_eq c.at at) as (λ b. ((if b then record c { item = item_with c.item w } else c).at ≡ c.at) × ((if b then record c { item = item_with c.item w } else c).split_key ≡ c.split_key)) [ true ↦ (refl, refl) | false ↦ (refl, refl) ]

pub length-with : (at : ℕ) (w : List Term) (cs : List Cell) → length (cells_with at w cs) ≡ length cs
length-with at w [] = refl
length-with at w (c ∷ cs) = ap suc (length-with at w cs)

links-with : (g h : ℕ → Option ListNode) (at : ℕ) (w : List Term) (n : ListNode) → g at ≡ Some n → h at ≡ Some (node_with n w) → ((k : ℕ) → k ≢ at → h k ≡ g k)
    → (link : Option ℕ) (cs : List Cell) → Links g link cs → Links h link (cells_with at w cs)
links-with g h at w n was now others link [] l = l
links-with g h at w n was now others link (c ∷ cs) l =
    let tail : Links h l.1.0 (cells_with at w cs) = links-with g h at w n was now others l.1.0 cs l.1.2 in
    let P : Cell → Type 0 = λ d. (link ≡ Some d.at) × ((next : Option ℕ) × (h d.at ≡ Some (node_of d next)) × Links h next (cells_with at w cs)) in
    elim (cases_eq c.at at) [
      | inl same ↦
          let e : n ≡ node_of c l.1.0 = cc (was, l.1.1, same) in
          let now' : h c.at ≡ Some (node_with (node_of c l.1.0) w) = ap h same ∙ (now ∙ ap (λ (z : ListNode). Some (node_with z w)) e) in
          subst P (sym (cell-same at w c same)) (l.0, (l.1.0, now', tail))
      | inr other ↦ subst P (sym (cell-other at w c other)) (l.0, (l.1.0, others c.at other ∙ l.1.1, tail))
    ]

starts-with : (bound at : ℕ) (w : List Term) (cs : List Cell) → StartsFrom bound cs → StartsFrom bound (cells_with at w cs)
starts-with bound at w [] s = s
starts-with bound at w (c ∷ cs) s = let P : ℕ → Type 0 = λ z. bound ≤ z in subst P (sym (cell-keeps at w c).1) s

sorted-with : (at : ℕ) (w : List Term) (cs : List Cell) → Sorted cs → Sorted (cells_with at w cs)
sorted-with at w [] o = o
sorted-with at w (c ∷ cs) o =
    (let P : ℕ → Type 0 = λ z. StartsFrom z (cells_with at w cs) in subst P (sym (cell-keeps at w c).1) (starts-with c.split_key at w cs o.0), sorted-with at w cs o.1)

starts-dummy-with : (at : ℕ) (w : List Term) (cs : List Cell) → StartsWithDummy cs → StartsWithDummy (cells_with at w cs)
starts-dummy-with at w [] d = d
starts-dummy-with at w (c ∷ cs) d =
    let P : Cell → Type 0 = λ z. (z.split_key ≡ 0) × (z.item ≡ None) in
    elim (cases_eq c.at at) [
      | inl same ↦ subst P (sym (cell-same at w c same)) (d.0, ap (λ o. item_with o w) d.1)
      | inr other ↦ subst P (sym (cell-other at w c other)) d
    ]

pub record Borrowed (s t : Slab ListNode) (at : ℕ) (w : List Term) : Type 0 where
  pub list : ListInvariant t
  pub cells : cells_from t (Some 0) ≡ cells_with at w (cells_from s (Some 0))

pub chain_mut-list : (s : Slab ListNode) (at : ℕ) (w : List Term) (n : ListNode) → ListInvariant s → get s at ≡ Some n → Borrowed s (with_value s at (node_with n w)) at w
chain_mut-list s at w n l was =
    let P : Option ListNode → Type 0 = λ o. IsSome o in
    let u = Updates-with_value s at (node_with n w) (subst P (sym was) refl) in
    let len : slab_len (with_value s at (node_with n w)) ≡ slab_len s = with_value-len s at n (node_with n w) was in
    let links : Links (get (with_value s at (node_with n w))) (Some 0) (cells_with at w (cells_from s (Some 0))) =
    links-with (get s) (get (with_value s at (node_with n w))) at w n was u.changed u.others (Some 0) (cells_from s (Some 0)) l.linked.links in
    let short : length (cells_with at w (cells_from s (Some 0))) ≤ slab_len (with_value s at (node_with n w)) = omega (arith, length-with at w (cells_from s (Some 0)), walk-length (slab_len s) (get s) (Some 0)) in
    let is : cells_from (with_value s at (node_with n w)) (Some 0) ≡ cells_with at w (cells_from s (Some 0)) =
    walk-is (slab_len (with_value s at (node_with n w))) (get (with_value s at (node_with n w))) (Some 0) (cells_with at w (cells_from s (Some 0))) links short in
    let Q : List Cell → Type 0 = λ zs. Links (get (with_value s at (node_with n w))) (Some 0) zs in
    let R : List Cell → Type 0 = λ zs. Sorted zs in
    let D : List Cell → Type 0 = λ zs. StartsWithDummy zs in
    record {
      list = record {
        linked = record { links = subst Q (sym is) links };
        sorted = subst R (sym is) (sorted-with at w (cells_from s (Some 0)) l.sorted);
        first = subst D (sym is) (starts-dummy-with at w (cells_from s (Some 0)) l.first);
        counted = len ∙ (l.counted ∙ (sym (length-with at w (cells_from s (Some 0))) ∙ ap length (sym is)));
      };
      cells = is;
    }

-- the same for the nodes
pub chain_mut-nodes : (s : Slab ListNode) (at : ℕ) (w : List Term) (n : ListNode) → ListInvariant s → get s at ≡ Some n → Borrowed s (nodes_with at w s) at w
chain_mut-nodes s at w n l was =
    let P : Slab ListNode → Type 0 = λ t. Borrowed s t at w in
    let is : nodes_with at w s ≡ with_value s at (node_with n w) = ap (λ (o : Option ListNode). let z : Slab ListNode = record s { slots = slice_set s.slots at (option_map (λ (m : ListNode). node_with m w) o) } in z) was in
    subst P (sym is) (chain_mut-list s at w n l was)
