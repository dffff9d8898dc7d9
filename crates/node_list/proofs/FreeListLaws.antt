-- Laws of the free list.
use Rattle.std.proofs.Common.{◌≡◌, ℕ, ◌+◌, ◌<◌, ◌^◌, ◌-◌, List, [], ◌∷◌, length, Option, Some, None, IsSome, true, false, refl, sym, ◌∙◌, ap, subst, arith}
use Rattle.slab.specs.Slab.{Slab, get, slab_len, Updates}
use Rattle.node_list.specs.declared.node.ListNode.{ListNode}
use Rattle.node_list.specs.declared.node.StoredItem.{StoredItem}
use Rattle.node_list.specs.Cells.{Cell}
use Rattle.node_list.specs.Places.{IsFresh}
use Rattle.node_list.specs.inside.PackedHeader.{next_in, is_free, Fits}
use Rattle.node_list.specs.inside.FreeList.{free_in, IsFreeList}
use Rattle.node_list.specs.inside.Walks.{Links, node_of}
use Rattle.node_list.proofs.PlaceLaws.{links-head_fresh, links-fresh, links-frame}
use Rattle.node_list.proofs.FreePlaceLaws.{free-by, free-is}

-- the first free place
pub record First (s : Slab StoredItem) (free_head : Option ℕ) (at : ℕ) : Type 0 where
  pub stored : StoredItem
  pub is : get s at ≡ Some stored
  pub free : is_free stored.header ≡ true

first-of : (s : Slab StoredItem) (free_head : Option ℕ) (cells : List Cell) → Links (λ k. free_in (get s k)) free_head cells → (at : ℕ) → free_head ≡ Some at → First s free_head at
first-of s free_head [] l at e = absurd (cc (l, e))
first-of s free_head (c ∷ cs) l at e =
    let same : c.at ≡ at = cc (l.0, e) in
    let f = free-by (get s at) (node_of c l.1.0) (ap (λ k. free_in (get s k)) (sym same) ∙ l.1.1) in
    record { stored = f.0; is = f.1.0; free = f.1.1.0 }

pub first-free : (s : Slab StoredItem) (free_head : Option ℕ) (len at : ℕ) → IsFreeList s free_head len → free_head ≡ Some at → First s free_head at
first-free s free_head len at a e = first-of s free_head a.cells a.links at e

none-left : (g : ℕ → Option ListNode) (cells : List Cell) → Links g None cells → length cells ≡ 0
none-left g [] l = refl
none-left g (c ∷ cs) l = absurd (cc (l.0))

pub no-free : (s : Slab StoredItem) (free_head : Option ℕ) (len : ℕ) → IsFreeList s free_head len → free_head ≡ None → len ≡ slab_len s
no-free s free_head len a e =
    let L : Option ℕ → Type 0 = λ o. Links (λ k. free_in (get s k)) o a.cells in
    omega (arith, a.count, none-left (λ k. free_in (get s k)) a.cells (subst L e a.links))

no-first_by : (g : ℕ → Option ListNode) (free_head : Option ℕ) (cells : List Cell) → Links g free_head cells → length cells ≡ 0 → free_head ≡ None
no-first_by g free_head [] l e = l
no-first_by g free_head (c ∷ cs) l e = absurd (omega (arith, e))

pub no-first : (s : Slab StoredItem) (free_head : Option ℕ) (len : ℕ) → IsFreeList s free_head len → len ≡ slab_len s → free_head ≡ None
no-first s free_head len a e = no-first_by (λ k. free_in (get s k)) free_head a.cells a.links (omega (arith, a.count, e))

fits-by : (s : Slab StoredItem) (free_head : Option ℕ) (cells : List Cell) → Links (λ k. free_in (get s k)) free_head cells → ((k : ℕ) → IsSome (get s k) → k < 2 ^ 30) → Fits free_head
fits-by s free_head [] l h = let P : Option ℕ → Type 0 = λ o. Fits o in subst P (sym l) tt
fits-by s free_head (c ∷ cs) l h =
    let P : Option ℕ → Type 0 = λ o. Fits o in
    let O : Option StoredItem → Type 0 = λ o. IsSome o in
    let f = free-by (get s c.at) (node_of c l.1.0) l.1.1 in
    let lt : c.at < 2 ^ 31 - 1 = omega (arith, h c.at (subst O (sym f.1.0) refl)) in
    subst P (sym l.0) lt

pub free_head-fits : (s : Slab StoredItem) (free_head : Option ℕ) (len : ℕ) → IsFreeList s free_head len → ((k : ℕ) → IsSome (get s k) → k < 2 ^ 30) → Fits free_head
free_head-fits s free_head len a h = fits-by s free_head a.cells a.links h

-- an insertion takes the first free place
insert-free_list_by : (s t : Slab StoredItem) (free_head : Option ℕ) (at len : ℕ) (p q : StoredItem) (cells : List Cell) → Links (λ k. free_in (get s k)) free_head cells → length cells + len ≡ slab_len s → free_head ≡ Some at
    → get s at ≡ Some p → Updates s t at (Some q) → is_free q.header ≡ false → slab_len t ≡ slab_len s → IsFreeList t (next_in p.header) (len + 1)
insert-free_list_by s t free_head at len p q [] l n e was u live same = absurd (cc (l, e))
insert-free_list_by s t free_head at len p q (c ∷ cs) l n e was u live same =
    let here : c.at ≡ at = cc (l.0, e) in
    let g : ℕ → Option ListNode = λ k. free_in (get s k) in
    let h : ℕ → Option ListNode = λ k. free_in (get t k) in
    let full : Links g (Some c.at) (c ∷ cs) = (refl, l.1) in
    let once : IsFresh c.at cs = links-head_fresh g c cs full l.1.0 cs l.1.2 (omega arith) in
    let f = free-by (get s c.at) (node_of c l.1.0) l.1.1 in
    let header : f.0 ≡ p = cc (f.1.0, was, here) in
    let next : l.1.0 ≡ next_in p.header = ap (λ (m : ListNode). m.next) f.1.1.1 ∙ ap (λ (z : StoredItem). next_in z.header) header in
    let F : ℕ → Type 0 = λ z. IsFresh z cs in
    let fresh : IsFresh at cs = subst F here once in
    let L : Option ℕ → Type 0 = λ o. Links h o cs in
    record {
      cells = cs;
      links = subst L next (links-frame g h at at (λ k a b. ap free_in (u.others k a)) l.1.0 cs l.1.2 fresh fresh);
      count = omega (arith, n, same);
    }

pub insert-free_list : (s t : Slab StoredItem) (free_head : Option ℕ) (at len : ℕ) (p q : StoredItem) → IsFreeList s free_head len → free_head ≡ Some at
    → get s at ≡ Some p → Updates s t at (Some q) → is_free q.header ≡ false → slab_len t ≡ slab_len s → IsFreeList t (next_in p.header) (len + 1)
insert-free_list s t free_head at len p q a e was u live same = insert-free_list_by s t free_head at len p q a.cells a.links a.count e was u live same

-- a removal puts a place at the front
pub remove-free_list : (s t : Slab StoredItem) (free_head : Option ℕ) (at len left : ℕ) (q : StoredItem) → IsFreeList s free_head len → free_in (get s at) ≡ None → Updates s t at (Some q)
    → is_free q.header ≡ true → next_in q.header ≡ free_head → slab_len s + left + 1 ≡ len + slab_len t → IsFreeList t (Some at) left
remove-free_list s t free_head at len left q a none u free next n =
    let g : ℕ → Option ListNode = λ k. free_in (get s k) in
    let h : ℕ → Option ListNode = λ k. free_in (get t k) in
    let fresh : IsFresh at a.cells = links-fresh g at none free_head a.cells a.links in
    let c : Cell = record { at = at; split_key = 0; item = None } in
    let shown : h at ≡ Some (node_of c free_head) = ap free_in u.changed ∙ (free-is q free ∙ ap (λ (o : Option ℕ). let m : ListNode = record { split_key = 0; next = o; item = None } in Some m) next) in
    record {
      cells = c ∷ a.cells;
      links = (refl, (free_head, shown, links-frame g h at at (λ k x y. ap free_in (u.others k x)) free_head a.cells a.links fresh fresh));
      count = omega (arith, a.count, n);
    }

-- a change of a node, and a new place with a node, keep the free list
pub keep-free_list : (s t : Slab StoredItem) (free_head : Option ℕ) (at len more : ℕ) (q : StoredItem) → IsFreeList s free_head len → free_in (get s at) ≡ None → Updates s t at (Some q) → slab_len s + more ≡ len + slab_len t → IsFreeList t free_head more
keep-free_list s t free_head at len more q a none u n =
    let g : ℕ → Option ListNode = λ k. free_in (get s k) in
    let h : ℕ → Option ListNode = λ k. free_in (get t k) in
    let fresh : IsFresh at a.cells = links-fresh g at none free_head a.cells a.links in
    record {
      cells = a.cells;
      links = links-frame g h at at (λ k x y. ap free_in (u.others k x)) free_head a.cells a.links fresh fresh;
      count = omega (arith, a.count, n);
    }
