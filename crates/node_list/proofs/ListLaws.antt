-- What preserves the invariant of a list.
use Rattle.std.proofs.Common.{◌≡◌, ℕ, ◌+◌, inl, inr, List, [], ◌∷◌, length, Some, None, sym, ◌∙◌, ap, subst, arith}
use Rattle.std.proofs.lemmas.Bool.{cases_eq}
use Rattle.slab.specs.Slab.{Slab, slab_len, SameValues}
use Rattle.node_list.specs.declared.node.Item.{Item}
use Rattle.node_list.specs.declared.node.ListNode.{ListNode}
use Rattle.node_list.specs.Cells.{Cell, Sorted, StartsWithDummy}
use Rattle.node_list.specs.Places.{from}
use Rattle.node_list.specs.Changes.{put_cell, without}
use Rattle.node_list.specs.inside.Walks.{cells_from, IsLinked, ListInvariant}
use Rattle.node_list.proofs.CellLaws.{put-on, from-here, without-on, sorted-put, length-put, sorted-without, length-without}
use Rattle.node_list.proofs.WalkLaws.{same-cells_from}
use Rattle.node_list.proofs.PlaceLaws.{from-has}

starts-put : (x : Cell) (cs : List Cell) → StartsWithDummy cs → StartsWithDummy (put_cell x cs)
starts-put x [] d = absurd d
starts-put x (c ∷ cs) d =
    let P : List Cell → Type 0 = λ zs. StartsWithDummy zs in
    let zero : c.split_key ≡ 0 = d.0 in
    subst P (sym (put-on x c cs (omega arith))) d

starts-without : (at : ℕ) (cs : List Cell) (d : Cell) (ds : List Cell) (item : Item) → StartsWithDummy cs → from at cs ≡ d ∷ ds → d.item ≡ Some item → StartsWithDummy (without at cs)
starts-without at [] d ds item s e h = absurd s
starts-without at (c ∷ cs) d ds item s e h =
    let P : List Cell → Type 0 = λ zs. StartsWithDummy zs in
    elim (cases_eq c.at at) [
      | inl here ↦
          let same : c ≡ d = cc (sym (from-here at c cs here) ∙ e) in
          let has : c.item ≡ Some item = ap (λ (z : Cell). z.item) same ∙ h in
          let none : c.item ≡ None = s.1 in
          absurd (cc (has, none))
      | inr other ↦ subst P (sym (without-on at c cs other)) s
    ]

pub put-list : (s t : Slab ListNode) (x : Cell) → ListInvariant s → IsLinked t (Some 0) → cells_from t (Some 0) ≡ put_cell x (cells_from s (Some 0)) → slab_len t ≡ slab_len s + 1 → ListInvariant t
put-list s t x l linked is len =
    let P : List Cell → Type 0 = λ zs. Sorted zs in
    let D : List Cell → Type 0 = λ zs. StartsWithDummy zs in
    record {
      linked = linked;
      sorted = subst P (sym is) (sorted-put x (cells_from s (Some 0)) l.sorted);
      first = subst D (sym is) (starts-put x (cells_from s (Some 0)) l.first);
      counted = len ∙ (ap (λ (n : ℕ). n + 1) l.counted ∙ (sym (length-put x (cells_from s (Some 0))) ∙ ap length (sym is)));
    }

one-less : (n m k l : ℕ) → n + 1 ≡ m → m ≡ k → l + 1 ≡ k → n ≡ l
one-less n m k l a b c = omega (arith, a, b, c)

pub without-list : (s t : Slab ListNode) (at : ℕ) (d : Cell) (ds : List Cell) (item : Item) → ListInvariant s → from at (cells_from s (Some 0)) ≡ d ∷ ds → d.item ≡ Some item → IsLinked t (Some 0) → cells_from t (Some 0) ≡ without at (cells_from s (Some 0)) → slab_len t + 1 ≡ slab_len s → ListInvariant t
without-list s t at d ds item l e h linked is len =
    let P : List Cell → Type 0 = λ zs. Sorted zs in
    let D : List Cell → Type 0 = λ zs. StartsWithDummy zs in
    let n : slab_len t ≡ length (without at (cells_from s (Some 0))) =
    one-less (slab_len t) (slab_len s) (length (cells_from s (Some 0))) (length (without at (cells_from s (Some 0)))) len l.counted (length-without at (cells_from s (Some 0)) (from-has at (cells_from s (Some 0)) d ds e)) in
    record {
      linked = linked;
      sorted = subst P (sym is) (sorted-without at (cells_from s (Some 0)) l.sorted);
      first = subst D (sym is) (starts-without at (cells_from s (Some 0)) d ds item l.first e h);
      counted = n ∙ ap length (sym is);
    }

pub same-list : (s t : Slab ListNode) → SameValues s t → slab_len t ≡ slab_len s → ListInvariant s → ListInvariant t
same-list s t same len l =
    let r = same-cells_from s t same len l.linked in
    let P : List Cell → Type 0 = λ zs. Sorted zs in
    let D : List Cell → Type 0 = λ zs. StartsWithDummy zs in
    record {
      linked = r.0;
      sorted = subst P (sym r.1) l.sorted;
      first = subst D (sym r.1) l.first;
      counted = len ∙ (l.counted ∙ ap length (sym r.1));
    }
