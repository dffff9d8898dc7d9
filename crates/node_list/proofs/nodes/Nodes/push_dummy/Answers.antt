use Rattle.std.proofs.Common.{◌≡◌, ℕ, ◌+◌, ◌*◌, List, [], ◌∷◌, ◌++◌, length, Some, Option, sym, ◌∙◌, ap, subst, arith}
use Rattle.slab.specs.Slab.{Slab, get, slab_len, Updates}
use Rattle.node_list.specs.declared.node.ListNode.{ListNode}
use Rattle.node_list.specs.declared.packed.PackedHeader.{PackedHeader}
use Rattle.node_list.specs.inside.PackedHeader.{next_in}
use Rattle.node_list.specs.inside.Woven.{dummy_node, woven}
use Rattle.node_list.proofs.NodeLaws.{pushed, first-dummy}
use Rattle.node_list.proofs.nodes.Nodes.push_dummy.Goals as goal

pub returns-clause-was_vacant : goal.returns-clause-was_vacant
returns-clause-was_vacant c =
    let ps = c.self.inside.dummies.items in
    let index : c.len-index.result ≡ length ps = omega (arith, c.len-index.ensures, c.self.inside.dummies.ok.0) in
    sym (ap (λ (v : Slab ListNode). get v (2 * c.len-index.result)) c.self.view_is)
    ∙ (ap (λ k. get (woven ps c.self.inside.items) (2 * k)) index ∙ (pushed ps c.self.inside.items c.new.result).was)

pub returns-clause-updates : goal.returns-clause-updates
returns-clause-updates c =
    let ps = c.self.inside.dummies.items in
    let items = c.self.inside.items in
    let q = c.new.result in
    let index : c.len-index.result ≡ length ps = omega (arith, c.len-index.ensures, c.self.inside.dummies.ok.0) in
    let node : Some (dummy_node q.reversed (next_in q)) ≡ Some (dummy_node c.args.reversed c.args.next) = λ i. Some (dummy_node (c.new.ensures.key i) (c.new.ensures.next i)) in
    let V : Slab ListNode → Type 0 = λ v. Updates v (woven (ps ++ q ∷ []) items) (2 * length ps) (Some (dummy_node q.reversed (next_in q))) in
    let K : ℕ → Type 0 = λ k. Updates c.args.self.now (woven (ps ++ q ∷ []) items) (2 * k) (Some (dummy_node q.reversed (next_in q))) in
    let O : Option ListNode → Type 0 = λ o. Updates c.args.self.now (woven (ps ++ q ∷ []) items) (2 * c.len-index.result) o in
    let D : List PackedHeader → Type 0 = λ zs. Updates c.args.self.now (woven zs items) (2 * c.len-index.result) (Some (dummy_node c.args.reversed c.args.next)) in
    subst D (sym c.in_ok-push.ensures.items) (subst O node (subst K (sym index) (subst V c.self.view_is (pushed ps items q).updates)))

pub returns-clause-len : goal.returns-clause-len
returns-clause-len c =
    let ps = c.self.inside.dummies.items in
    ap (λ (zs : List PackedHeader). slab_len (woven zs c.self.inside.items)) c.in_ok-push.ensures.items
    ∙ ((pushed ps c.self.inside.items c.new.result).len ∙ ap (λ (v : Slab ListNode). slab_len v + 1) c.self.view_is)

pub returns-clause-first : goal.returns-clause-first
returns-clause-first c = λ empty.
    let ps = c.self.inside.dummies.items in
    omega (arith, c.len-index.ensures, c.self.inside.dummies.ok.0, first-dummy ps c.self.inside.items (ap (λ (v : Slab ListNode). v.slots) c.self.view_is ∙ empty))
