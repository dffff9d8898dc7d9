use Rattle.std.proofs.Common.{◌≡◌, ℕ, ◌+◌, ◌*◌, ◌%◌, ◌/◌, List, length, Some, Option, IsSome, set, sym, ◌∙◌, ap, subst, arith}
use Rattle.slab.specs.Slab.{Slab, get, with_value}
use Rattle.node_list.specs.declared.node.ListNode.{ListNode}
use Rattle.node_list.specs.declared.packed.PackedHeader.{PackedHeader}
use Rattle.node_list.specs.inside.PackedHeader.{next_in}
use Rattle.node_list.specs.inside.Woven.{dummy_node, woven}
use Rattle.node_list.proofs.NodeLaws.{at-odd, dummy-of, set-item, set-dummy, length-set_dummy}
use Rattle.node_list.proofs.nodes.Nodes.set_next.Goals as goal

pub set_next-requires-clause-has : goal.set_next-requires-clause-has
set_next-requires-clause-has c =
    let P : Slab ListNode → Type 0 = λ v. IsSome (get v c.args.at) in
    let O : Option ListNode → Type 0 = λ o. IsSome o in
    subst O (at-odd c.self.inside.dummies.items c.self.inside.items c.args.at c.if-at-eq1.true) (subst P (sym c.self.view_is) c.requires.has)

pub index_mut-header-requires : goal.index_mut-header-requires
index_mut-header-requires c =
    let P : Slab ListNode → Type 0 = λ v. IsSome (get v c.args.at) in
    let d = dummy-of c.self.inside.dummies.items c.self.inside.items c.args.at (omega (arith, c.if-at-eq1.false)) (subst P (sym c.self.view_is) c.requires.has) in
    omega (arith, d.1.1.within, c.self.inside.dummies.ok.0)

pub returns-then-at-eq1 : goal.returns-then-at-eq1
returns-then-at-eq1 c =
    let ps = c.self.inside.dummies.items in
    let items = c.self.inside.items in
    let at = c.args.at in
    let h = c.set_next.ensures in
    let new : ListNode = record h.node { next = c.args.next } in
    record {
      node = h.node;
      was = sym (ap (λ (v : Slab ListNode). get v at) c.self.view_is) ∙ (at-odd ps items at c.if-at-eq1.true ∙ h.was);
      now = ap (λ (v : Slab ListNode). woven ps v) h.now
          ∙ (ap (λ (zs : List (Option ListNode)). let z : Slab ListNode = record { slots = zs; vacant_key = items.vacant_key; capacity = length ps + items.capacity } in z)
          (sym (set-item ps items at h.node (Some new) (omega (arith, c.if-at-eq1.true)) h.was))
          ∙ ap (λ (v : Slab ListNode). with_value v at new) c.self.view_is);
    }

pub returns-else-at-eq1 : goal.returns-else-at-eq1
returns-else-at-eq1 c =
    let ps = c.self.inside.dummies.items in
    let items = c.self.inside.items in
    let at = c.args.at in
    let q = c.with_next.result in
    let P : Slab ListNode → Type 0 = λ v. IsSome (get v at) in
    let even : at % 2 ≡ 0 = omega (arith, c.if-at-eq1.false) in
    let d = dummy-of ps items at even (subst P (sym c.self.view_is) c.requires.has) in
    let same : c.index_mut-header.result.now ≡ d.1.1.header = c.index_mut-header.ensures.value ∙ d.1.1.is _ in
    let new : dummy_node q.reversed (next_in q) ≡ record d.0 { next = c.args.next } = λ t. let z : ListNode = record { split_key = (ap (λ (n : ℕ). 2 * n) (c.with_next.ensures.key ∙ ap (λ (p : PackedHeader). p.reversed) same) ∙ sym (ap (λ (m : ListNode). m.split_key) d.1.1.shows)) t; next = c.with_next.ensures.next t; item = (sym (ap (λ (m : ListNode). m.item) d.1.1.shows)) t } in z in
    record {
      node = d.0;
      was = sym (ap (λ (v : Slab ListNode). get v at) c.self.view_is) ∙ d.1.0;
      now = ap (λ (zs : List (Option ListNode)). let z : Slab ListNode = record { slots = zs; vacant_key = items.vacant_key; capacity = length (set ps (at / 2) q) + items.capacity } in z) (set-dummy ps items at q even d.1.1.within)
          ∙ (ap (λ n. let z : Slab ListNode = record { slots = set (woven ps items).slots at (Some (dummy_node q.reversed (next_in q))); vacant_key = items.vacant_key; capacity = n + items.capacity } in z) (length-set_dummy ps (at / 2) q)
          ∙ (ap (λ (v : Slab ListNode). with_value v at (dummy_node q.reversed (next_in q))) c.self.view_is
          ∙ ap (λ (m : ListNode). with_value c.args.self.now at m) new));
    }
