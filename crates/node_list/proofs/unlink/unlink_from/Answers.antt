use Rattle.std.proofs.Common.{ℕ, ◌+◌, ap, Some, Option, IsSome, subst, refl, sym, ◌∙◌}
use Rattle.slab.specs.Slab.{Slab, get, slab_len}
use Rattle.node_list.specs.inside.Walks.{cells_from, IsPredecessor}
use Rattle.node_list.specs.declared.node.ListNode.{ListNode}
use Rattle.node_list.proofs.PlaceLaws.{with_value-len}
use Rattle.node_list.proofs.UnlinkLaws.{search-linked, predecessor-in_whole, predecessor-node, predecessor-differs, Unlinked, unlink-list}
use Rattle.node_list.proofs.unlink.unlink_from.Goals as goal
use Rattle.node_list.proofs.unlink.unlink_from.Goals.{After-predecessor-before, After-set_next}

pub predecessor-before-requires-clause-linked : goal.predecessor-before-requires-clause-linked
predecessor-before-requires-clause-linked c = (search-linked c.args.nodes.now c.args.start c.args.at c.requires.linked c.requires.after).0

pub predecessor-before-requires-clause-after : goal.predecessor-before-requires-clause-after
predecessor-before-requires-clause-after c = (search-linked c.args.nodes.now c.args.start c.args.at c.requires.linked c.requires.after).1

is_predecessor : (c : After-predecessor-before) → IsPredecessor c.predecessor-before.result c.args.at (cells_from c.args.nodes.now (Some 0))
is_predecessor c = predecessor-in_whole c.args.nodes.now c.args.start c.predecessor-before.result c.args.at c.requires.linked c.requires.after c.predecessor-before.ensures

-- the list after the link leads past the node
done : (c : After-set_next) → IsPredecessor c.predecessor-before.result c.args.at (cells_from c.args.nodes.now (Some 0)) → Unlinked c.args.nodes.now c.set_next.new.self c.args.at
done c b =
    let m = c.remove-node.new.self in
    let before = c.predecessor-before.result in
    let n = c.set_next.ensures.node in
    let V : Slab ListNode → Type 0 = λ v. Unlinked c.args.nodes.now v c.args.at in
    subst V (sym c.set_next.ensures.now)
    (unlink-list c.args.nodes.now m before c.args.at n c.remove-node.result c.requires.linked b
    c.remove-node.ensures.value c.remove-node.ensures.updates c.remove-node.ensures.len c.set_next.ensures.was
    (with_value-len m before n (record n { next = c.remove-node.result.next }) c.set_next.ensures.was))

pub set_next-requires-clause-has : goal.set_next-requires-clause-has
set_next-requires-clause-has c =
    let b = is_predecessor (goal.at.set_next-requires-clause-has c).After-predecessor-before in
    let n = predecessor-node (get c.args.nodes.now) c.predecessor-before.result c.args.at (Some 0) (cells_from c.args.nodes.now (Some 0)) c.requires.linked.links b in
    let other = predecessor-differs (get c.args.nodes.now) c.predecessor-before.result c.args.at (Some 0) (cells_from c.args.nodes.now (Some 0)) c.requires.linked.links b in
    let O : Option ListNode → Type 0 = λ o. IsSome o in
    subst O (sym (c.remove-node.ensures.updates.others c.predecessor-before.result other ∙ n.1)) refl

pub returns-clause-linked : goal.returns-clause-linked
returns-clause-linked c = let here = goal.at.returns-clause-linked c in (done here.After-set_next (is_predecessor here.After-predecessor-before)).linked

pub returns-clause-cells : goal.returns-clause-cells
returns-clause-cells c = let here = goal.at.returns-clause-cells c in (done here.After-set_next (is_predecessor here.After-predecessor-before)).cells

pub returns-clause-capacity : goal.returns-clause-capacity
returns-clause-capacity c = ap (λ (v : Slab ListNode). v.capacity) c.set_next.ensures.now ∙ c.remove-node.ensures.capacity

pub returns-clause-len : goal.returns-clause-len
returns-clause-len c =
    ap (λ (v : Slab ListNode). slab_len v + 1) c.set_next.ensures.now
    ∙ (ap (λ (n : ℕ). n + 1) (with_value-len c.remove-node.new.self c.predecessor-before.result c.set_next.ensures.node (record c.set_next.ensures.node { next = c.remove-node.result.next }) c.set_next.ensures.was) ∙ c.remove-node.ensures.len)
