-- The list after a removal.
use Rattle.std.proofs.Common.{◌≡◌, ◌≢◌, ℕ, suc, ◌+◌, ◌<◌, ◌≤◌, inl, inr, List, [], ◌∷◌, length, Option, Some, None, IsSome, refl, sym, ◌∙◌, ap, subst, arith}
use Rattle.std.proofs.lemmas.Bool.{cases_eq}
use Rattle.slab.specs.Slab.{Slab, get, slab_len, Updates, with_value}
use Rattle.slab.proofs.SlabLemmas.{Updates-with_value}
use Rattle.node_list.specs.declared.node.ListNode.{ListNode}
use Rattle.node_list.specs.Cells.{Cell}
use Rattle.node_list.specs.Places.{from, cells_after, all_but_first, IsPlaceOf, IsFresh}
use Rattle.node_list.specs.Changes.{without}
use Rattle.node_list.specs.inside.Walks.{Links, IsLinked, cells_from, cell_of, node_of, HasPlace, FirstIsAt, IsPredecessor}
use Rattle.node_list.proofs.WalkLaws.{walk-is, walk-length, walk-none, cells_from-step_at}
use Rattle.node_list.proofs.CellLaws.{without-here, without-on, from-here, from-on, length-without}
use Rattle.node_list.proofs.PlaceLaws.{links-head_fresh, links-frame, cells_from-suffix}

-- ---- the places of the two nodes
starts-apart : (at p : ℕ) (cs : List Cell) → FirstIsAt at cs → IsFresh p cs → at ≢ p
starts-apart at p [] s a = absurd s
starts-apart at p (c ∷ cs) s a = λ e. a.0 (s ∙ e)

predecessor-apart : (before at p : ℕ) (cs : List Cell) → IsPredecessor before at cs → IsFresh p cs → (before ≢ p) × (at ≢ p)
predecessor-apart before at p [] b a = absurd b
predecessor-apart before at p (c ∷ cs) b a =
    elim b [
      | inl here ↦ (λ e. a.0 (here.0 ∙ e), starts-apart at p cs here.1 a.1)
      | inr later ↦ predecessor-apart before at p cs later a.1
    ]

starts-has : (at : ℕ) (cs : List Cell) → FirstIsAt at cs → HasPlace at cs
starts-has at [] s = absurd s
starts-has at (c ∷ cs) s = inl s

pub predecessor-has_place : (before at : ℕ) (cs : List Cell) → IsPredecessor before at cs → HasPlace at cs
predecessor-has_place before at [] b = absurd b
predecessor-has_place before at (c ∷ cs) b =
    elim b [ inl here ↦ inr (starts-has at cs here.1) | inr later ↦ inr (predecessor-has_place before at cs later) ]

pub predecessor-differs : (g : ℕ → Option ListNode) (before at : ℕ) (link : Option ℕ) (cs : List Cell) → Links g link cs → IsPredecessor before at cs → before ≢ at
predecessor-differs g before at link [] l b = absurd b
predecessor-differs g before at link (c ∷ cs) l b =
    elim b [
      | inl here ↦
          let full : Links g (Some c.at) (c ∷ cs) = (refl, l.1) in
          let once : IsFresh c.at cs = links-head_fresh g c cs full l.1.0 cs l.1.2 (omega arith) in
          let other : at ≢ c.at = starts-apart at c.at cs here.1 once in
          λ e. other (sym e ∙ sym here.0)
      | inr later ↦ predecessor-differs g before at l.1.0 cs l.1.2 later
    ]

pub predecessor-node : (g : ℕ → Option ListNode) (before at : ℕ) (link : Option ℕ) (cs : List Cell) → Links g link cs → IsPredecessor before at cs → (node : ListNode) × (g before ≡ Some node)
predecessor-node g before at link [] l b = absurd b
predecessor-node g before at link (c ∷ cs) l b =
    elim b [
      | inl here ↦ (node_of c l.1.0, ap g (sym here.0) ∙ l.1.1)
      | inr later ↦ predecessor-node g before at l.1.0 cs l.1.2 later
    ]

pub has-node : (g : ℕ → Option ListNode) (at : ℕ) (link : Option ℕ) (cs : List Cell) → Links g link cs → HasPlace at cs → (node : ListNode) × (g at ≡ Some node)
has-node g at link [] l h = absurd h
has-node g at link (c ∷ cs) l h =
    elim h [
      | inl here ↦ (node_of c l.1.0, ap g (sym here) ∙ l.1.1)
      | inr later ↦ has-node g at l.1.0 cs l.1.2 later
    ]

pub predecessor-whole_list : (before at start : ℕ) (cs : List Cell) → IsPredecessor before at (from start cs) → IsPredecessor before at cs
predecessor-whole_list before at start [] b = b
predecessor-whole_list before at start (c ∷ cs) b =
    let P : List Cell → Type 0 = λ zs. IsPredecessor before at zs in
    elim (cases_eq c.at start) [
      | inl here ↦ subst P (from-here start c cs here) b
      | inr other ↦ inr (predecessor-whole_list before at start cs (subst P (from-on start c cs other) b))
    ]

starts-after : (start at : ℕ) (cs zs : List Cell) → from start cs ≡ zs → HasPlace at (all_but_first zs) → IsPlaceOf start cs
starts-after start at cs [] e h = absurd h
starts-after start at cs (c ∷ ds) e h = record { cell = c; later = ds; is = e }

pub is_place-after : (start at : ℕ) (cs : List Cell) → HasPlace at (cells_after start cs) → IsPlaceOf start cs
is_place-after start at cs h = starts-after start at cs (from start cs) refl h

-- the nodes from a place before the node
pub search-linked : (s : Slab ListNode) (start at : ℕ) → IsLinked s (Some 0) → HasPlace at (cells_after start (cells_from s (Some 0))) → IsLinked s (Some start) × HasPlace at (all_but_first (cells_from s (Some start)))
search-linked s start at linked after =
    let p = is_place-after start at (cells_from s (Some 0)) after in
    let tail = cells_from-suffix s start p.cell p.later linked p.is in
    let P : List Cell → Type 0 = λ zs. HasPlace at (all_but_first zs) in
    (tail.0, subst P (sym tail.1) after)

-- the predecessor in the list from `start` on is the predecessor in the whole list
pub predecessor-in_whole : (s : Slab ListNode) (start before at : ℕ) → IsLinked s (Some 0) → HasPlace at (cells_after start (cells_from s (Some 0))) → IsPredecessor before at (cells_from s (Some start)) → IsPredecessor before at (cells_from s (Some 0))
predecessor-in_whole s start before at linked after b =
    let p = is_place-after start at (cells_from s (Some 0)) after in
    let P : List Cell → Type 0 = λ zs. IsPredecessor before at zs in
    predecessor-whole_list before at start (cells_from s (Some 0)) (subst P (cells_from-suffix s start p.cell p.later linked p.is).1 b)

-- ---- one step of the way to the predecessor
pub record Way (s : Slab ListNode) (before place at : ℕ) : Type 0 where
  pub here : place ≡ at → IsPredecessor before at (cells_from s (Some before))
  pub linked : IsLinked s (Some place)
  pub ahead : place ≢ at → HasPlace at (all_but_first (cells_from s (Some place)))
  pub up_to : (x : ℕ) → IsPredecessor x at (cells_from s (Some place)) → IsPredecessor x at (cells_from s (Some before))
  pub smaller : length (cells_from s (Some place)) < length (cells_from s (Some before))

has-later : (at : ℕ) (c : Cell) (cs : List Cell) → HasPlace at (c ∷ cs) → c.at ≢ at → HasPlace at cs
has-later at c cs h other = elim h [ inl here ↦ absurd (other here) | inr later ↦ later ]

pub predecessor-step : (s : Slab ListNode) (before place at : ℕ) (n m : ListNode) → IsLinked s (Some before) → HasPlace at (all_but_first (cells_from s (Some before)))
    → get s before ≡ Some n → n.next ≡ Some place → get s place ≡ Some m → Way s before place at
predecessor-step s before place at n m l h e next f =
    let st = cells_from-step_at s before n l e in
    let onward : IsLinked s (Some place) = rw next at st.onward in
    let st' = cells_from-step_at s place m onward f in
    let tail : cells_from s n.next ≡ cells_from s (Some place) = ap (λ (z : Option ℕ). cells_from s z) next in
    let two : cells_from s (Some before) ≡ cell_of before n ∷ cells_from s (Some place) = st.is ∙ ap (λ (zs : List Cell). cell_of before n ∷ zs) tail in
    let P : List Cell → Type 0 = λ zs. HasPlace at (all_but_first zs) in
    let Q : List Cell → Type 0 = λ zs. HasPlace at zs in
    let behind_it : HasPlace at (cells_from s (Some place)) = subst P two h in
    let split : HasPlace at (cell_of place m ∷ cells_from s m.next) = subst Q st'.is behind_it in
    let B : ℕ → List Cell → Type 0 = λ x zs. IsPredecessor x at zs in
    let S : List Cell → Type 0 = λ zs. FirstIsAt at zs in
    record {
      here = λ same. subst (B before) (sym two) (inl (refl, subst S (sym st'.is) same));
      linked = onward;
      ahead = λ other. subst P (sym st'.is) (has-later at (cell_of place m) (cells_from s m.next) split other);
      up_to = λ x b. subst (B x) (sym two) (inr b);
      smaller = let a : length (cells_from s (Some before)) ≡ suc (length (cells_from s (Some place))) = ap length two in omega arith;
    }

-- the last node has no next one
pub last-has_no_next : (s : Slab ListNode) (before at : ℕ) (n : ListNode) → IsLinked s (Some before) → HasPlace at (all_but_first (cells_from s (Some before)))
    → get s before ≡ Some n → n.next ≡ None → ⊥
last-has_no_next s before at n l h e none =
    let st = cells_from-step_at s before n l e in
    let empty : cells_from s n.next ≡ [] = ap (λ (z : Option ℕ). cells_from s z) none ∙ walk-none (slab_len s) (get s) in
    let P : List Cell → Type 0 = λ zs. HasPlace at (all_but_first zs) in
    let Q : List Cell → Type 0 = λ zs. HasPlace at zs in
    subst Q empty (subst P st.is h)

-- ---- a node is unlinked after `before`
pub record Unspliced (g h : ℕ → Option ListNode) (before at : ℕ) : Type 0 where
  pub node : ListNode
  pub gone : ListNode
  pub was : g before ≡ Some node
  pub out : g at ≡ Some gone
  pub now : h before ≡ Some (record node { next = gone.next })
  pub others : (k : ℕ) → k ≢ before → k ≢ at → h k ≡ g k

unsplice-here : (g h : ℕ → Option ListNode) (before at : ℕ) → Unspliced g h before at
    → (link : Option ℕ) (c : Cell) (cs : List Cell) → Links g link (c ∷ cs) → c.at ≡ before → FirstIsAt at cs → Links h link (without at (c ∷ cs))
unsplice-here g h before at u link c [] l e s = absurd s
unsplice-here g h before at u link c (d ∷ ds) l e s =
    let full : Links g (Some c.at) (c ∷ d ∷ ds) = (refl, l.1) in
    let once : IsFresh c.at (d ∷ ds) = links-head_fresh g c (d ∷ ds) full l.1.0 (d ∷ ds) l.1.2 (omega arith) in
    let full' : Links g (Some d.at) (d ∷ ds) = (refl, l.1.2.1) in
    let once' : IsFresh d.at ds = links-head_fresh g d ds full' l.1.2.1.0 ds l.1.2.1.2 (omega arith) in
    let other : c.at ≢ at = λ same. once.0 (s ∙ sym same) in
    let node : u.node ≡ node_of c l.1.0 = cc (u.was, l.1.1, e) in
    let gone : u.gone ≡ node_of d l.1.2.1.0 = cc (u.out, l.1.2.1.1, s) in
    let N : ListNode → ListNode → Type 0 = λ n m. h before ≡ Some (record n { next = m.next }) in
    let first : N (node_of c l.1.0) u.gone = (let M : ListNode → Type 0 = λ n. N n u.gone in subst M node u.now) in
    let second : N (node_of c l.1.0) (node_of d l.1.2.1.0) = (let M : ListNode → Type 0 = λ m. N (node_of c l.1.0) m in subst M gone first) in
    let header : h c.at ≡ Some (node_of c l.1.2.1.0) = ap h e ∙ second in
    let F : ℕ → Type 0 = λ p. IsFresh p ds in
    let tail : Links h l.1.2.1.0 ds = links-frame g h before at u.others l.1.2.1.0 ds l.1.2.1.2 (subst F e once.1) (subst F s once') in
    let L : List Cell → Type 0 = λ zs. Links h link zs in
    let is : without at (c ∷ d ∷ ds) ≡ c ∷ ds = without-on at c (d ∷ ds) other ∙ ap (λ (zs : List Cell). c ∷ zs) (without-here at d ds s) in
    subst L (sym is) (l.0, (l.1.2.1.0, header, tail))

unsplice : (g h : ℕ → Option ListNode) (before at : ℕ) → Unspliced g h before at
    → (link : Option ℕ) (cs : List Cell) → Links g link cs → IsPredecessor before at cs → Links h link (without at cs)
unsplice g h before at u link [] l b = absurd b
unsplice g h before at u link (c ∷ cs) l b =
    elim b [
      | inl here ↦ unsplice-here g h before at u link c cs l here.0 here.1
      | inr later ↦
          let full : Links g (Some c.at) (c ∷ cs) = (refl, l.1) in
          let once : IsFresh c.at cs = links-head_fresh g c cs full l.1.0 cs l.1.2 (omega arith) in
          let apart = predecessor-apart before at c.at cs later once in
          let other : c.at ≢ at = λ e. apart.1 (sym e) in
          let L : List Cell → Type 0 = λ zs. Links h link zs in
          subst L (sym (without-on at c cs other))
          (l.0, (l.1.0, u.others c.at (λ e. apart.0 (sym e)) other ∙ l.1.1, unsplice g h before at u l.1.0 cs l.1.2 later))
    ]

pub record Unlinked (s t : Slab ListNode) (at : ℕ) : Type 0 where
  pub linked : IsLinked t (Some 0)
  pub cells : cells_from t (Some 0) ≡ without at (cells_from s (Some 0))

unspliced-cells_from : (s t : Slab ListNode) (before at : ℕ) → IsLinked s (Some 0) → Unspliced (get s) (get t) before at → IsPredecessor before at (cells_from s (Some 0)) → slab_len t + 1 ≡ slab_len s → Unlinked s t at
unspliced-cells_from s t before at l u b len =
    let links : Links (get t) (Some 0) (without at (cells_from s (Some 0))) = unsplice (get s) (get t) before at u (Some 0) (cells_from s (Some 0)) l.links b in
    let short : length (without at (cells_from s (Some 0))) ≤ slab_len t =
    omega (arith, len, length-without at (cells_from s (Some 0)) (predecessor-has_place before at (cells_from s (Some 0)) b), walk-length (slab_len s) (get s) (Some 0)) in
    let is : cells_from t (Some 0) ≡ without at (cells_from s (Some 0)) = walk-is (slab_len t) (get t) (Some 0) (without at (cells_from s (Some 0))) links short in
    let L : List Cell → Type 0 = λ zs. Links (get t) (Some 0) zs in
    record { linked = record { links = subst L (sym is) links }; cells = is }

-- a place becomes free, and then the link leads past it
pub unlink-list : (s m : Slab ListNode) (before at : ℕ) (n' gone : ListNode)
    → IsLinked s (Some 0) → IsPredecessor before at (cells_from s (Some 0))
    → get s at ≡ Some gone → Updates s m at None → slab_len m + 1 ≡ slab_len s
    → get m before ≡ Some n' → slab_len (with_value m before (record n' { next = gone.next })) ≡ slab_len m
    → Unlinked s (with_value m before (record n' { next = gone.next })) at
unlink-list s m before at n' gone l b out u len now len' =
    let t = with_value m before (record n' { next = gone.next }) in
    let other : before ≢ at = predecessor-differs (get s) before at (Some 0) (cells_from s (Some 0)) l.links b in
    let O : Option ListNode → Type 0 = λ o. IsSome o in
    let w = Updates-with_value m before (record n' { next = gone.next }) (subst O (sym now) refl) in
    let p : Unspliced (get s) (get (with_value m before (record n' { next = gone.next }))) before at = record {
      node = n';
      gone = gone;
      was = sym (u.others before other) ∙ now;
      out = out;
      now = w.changed;
      others = λ k a c. w.others k a ∙ u.others k c;
    } in
    unspliced-cells_from s (with_value m before (record n' { next = gone.next })) before at l p b (omega (arith, len, len'))
