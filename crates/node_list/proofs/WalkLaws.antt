-- Laws of `walk` and `Links`.
use Rattle.std.proofs.Common.{◌≡◌, ℕ, zero, suc, ◌≤◌, List, [], ◌∷◌, length, Option, Some, None, refl, sym, ◌∙◌, ap, subst, arith}
use Rattle.slab.specs.Slab.{Slab, get, slab_len, SameValues}
use Rattle.node_list.specs.declared.node.ListNode.{ListNode}
use Rattle.node_list.specs.Cells.{Cell}
use Rattle.node_list.specs.inside.Walks.{walk, Links, IsLinked, cells_from, cell_of, node_of}

pub walk-some : (n : ℕ) (g : ℕ → Option ListNode) (at : ℕ) (node : ListNode) → g at ≡ Some node → walk (suc n) g (Some at) ≡ cell_of at node ∷ walk n g node.next
unfolding walk
walk-some n g at node e = rw (e, walk) refl

pub walk-none : (n : ℕ) (g : ℕ → Option ListNode) → walk n g None ≡ []
unfolding walk
walk-none zero g = refl
walk-none (suc n) g = refl

pub walk-is : (n : ℕ) (g : ℕ → Option ListNode) (link : Option ℕ) (xs : List Cell) → Links g link xs → length xs ≤ n → walk n g link ≡ xs
unfolding walk
walk-is zero g link [] l h = refl
walk-is zero g link (c ∷ cs) l h = absurd (omega arith)
walk-is (suc n) g link [] l h = rw l refl
walk-is (suc n) g link (c ∷ cs) l h =
    let ih : walk n g l.1.0 ≡ cs = walk-is n g l.1.0 cs l.1.2 (omega arith) in
    rw l.0 (walk-some n g c.at (node_of c l.1.0) l.1.1 ∙ rw ih refl)

pub walk-length : (n : ℕ) (g : ℕ → Option ListNode) (link : Option ℕ) → length (walk n g link) ≤ n
unfolding walk
walk-length zero g link = omega arith
walk-length (suc n) g None = omega arith
walk-length (suc n) g (Some at) =
    elim (g at) as (λ o. length (elim o as (λ _. List Cell) [ None ↦ [] | Some node ↦ cell_of at node ∷ walk n g node.next ]) ≤ suc n)
    [ None ↦ omega arith | Some node ↦ omega (arith, walk-length n g node.next) ]

pub record Step (s : Slab ListNode) (p : ℕ) (node : ListNode) : Type 0 where
  pub at : get s p ≡ Some node
  pub is : cells_from s (Some p) ≡ cell_of p node ∷ cells_from s node.next
  pub onward : IsLinked s node.next

step-of : (s : Slab ListNode) (p : ℕ) (xs : List Cell) → cells_from s (Some p) ≡ xs → Links (get s) (Some p) xs → length xs ≤ slab_len s → (node : ListNode) × Step s p node
step-of s p [] e l h = absurd (cc)
step-of s p (c ∷ cs) e l h =
    let same : p ≡ c.at = cc in
    let node = node_of c l.1.0 in
    let tail : cells_from s l.1.0 ≡ cs = walk-is (slab_len s) (get s) l.1.0 cs l.1.2 (omega arith) in (
      node_of c l.1.0,
      record {
        at = rw same l.1.1;
        is = e ∙ rw (tail, same) refl;
        onward = record { links = rw tail l.1.2 };
      },
    )

pub cells_from-step : (s : Slab ListNode) (p : ℕ) → IsLinked s (Some p) → (node : ListNode) × Step s p node
cells_from-step s p h = step-of s p (cells_from s (Some p)) refl h.links (walk-length (slab_len s) (get s) (Some p))

pub cells_from-step_at : (s : Slab ListNode) (p : ℕ) (node : ListNode) → IsLinked s (Some p) → get s p ≡ Some node → Step s p node
cells_from-step_at s p node h e =
    let found = cells_from-step s p h in
    let same : found.0 ≡ node = cc (found.1.at, e) in
    let P : ListNode → Type 0 = λ n. Step s p n in subst P same found.1

-- a slab of one node with an empty link
pub only-node : (s : Slab ListNode) (node : ListNode) → get s 0 ≡ Some node → node.next ≡ None → slab_len s ≡ 1 → cells_from s (Some 0) ≡ cell_of 0 node ∷ []
only-node s node e none n =
    let l : Links (get s) (Some 0) (cell_of 0 node ∷ []) = (refl, (None, e ∙ ap (λ (z : Option ℕ). Some (record node { next = z })) none, refl)) in
    walk-is (slab_len s) (get s) (Some 0) (cell_of 0 node ∷ []) l (omega arith)

pub only-linked : (s : Slab ListNode) (node : ListNode) → get s 0 ≡ Some node → node.next ≡ None → cells_from s (Some 0) ≡ cell_of 0 node ∷ [] → IsLinked s (Some 0)
only-linked s node e none is =
    let P : List Cell → Type 0 = λ zs. Links (get s) (Some 0) zs in
    record { links = subst P (sym is) (refl, (None, e ∙ ap (λ (z : Option ℕ). Some (record node { next = z })) none, refl)) }

-- a slab with the same nodes has the same list
links-same : (g h : ℕ → Option ListNode) → ((k : ℕ) → h k ≡ g k) → (link : Option ℕ) (cs : List Cell) → Links g link cs → Links h link cs
links-same g h same link [] l = l
links-same g h same link (c ∷ cs) l = (l.0, (l.1.0, same c.at ∙ l.1.1, links-same g h same l.1.0 cs l.1.2))

pub same-cells_from : (s t : Slab ListNode) → SameValues s t → slab_len t ≡ slab_len s → IsLinked s (Some 0) → (IsLinked t (Some 0)) × (cells_from t (Some 0) ≡ cells_from s (Some 0))
same-cells_from s t same len l =
    let links : Links (get t) (Some 0) (cells_from s (Some 0)) = links-same (get s) (get t) same (Some 0) (cells_from s (Some 0)) l.links in
    let short : length (cells_from s (Some 0)) ≤ slab_len t = omega (arith, len, walk-length (slab_len s) (get s) (Some 0)) in
    let is : cells_from t (Some 0) ≡ cells_from s (Some 0) = walk-is (slab_len t) (get t) (Some 0) (cells_from s (Some 0)) links short in
    (record { links = rw is links }, is)
