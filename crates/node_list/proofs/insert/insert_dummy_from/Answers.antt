use Rattle.std.proofs.Common.{◌≡◌, ◌≢◌, ◌*◌, ℕ, None, Some, Option, IsSome, subst, refl, sym, ◌∙◌, ap}
use Rattle.slab.specs.Slab.{Slab, get, slab_len, with_value, Updates}
use Rattle.node_list.specs.Cells.{new_cell}
use Rattle.node_list.specs.inside.Walks.{cells_from, node_of, last_not_above_in, NodeHasSplitKeyAtMost}
use Rattle.node_list.specs.declared.node.ListNode.{ListNode}
use Rattle.node_list.proofs.InsertLaws.{Inserted, start-spot, insert-list, spot-node}
use Rattle.node_list.proofs.PlaceLaws.{with_value-len, links-fresh}
use Rattle.node_list.proofs.insert.insert_dummy_from.Goals as goal
use Rattle.node_list.proofs.insert.insert_dummy_from.Goals.{After-last_not_above-last, After-set_next}

pub last_not_above-last-requires-clause-linked : goal.last_not_above-last-requires-clause-linked
last_not_above-last-requires-clause-linked c = (start-spot c.args.nodes.now (2 * c.args.reversed) c.args.start c.requires.linked c.requires.sorted c.requires.start).linked

pub last_not_above-last-requires-clause-up_to : goal.last_not_above-last-requires-clause-up_to
last_not_above-last-requires-clause-up_to c =
    let P : ℕ → Type 0 = λ r. NodeHasSplitKeyAtMost c.args.nodes.now c.args.start (2 * r) in
    subst P (sym c.from.ensures) (start-spot c.args.nodes.now (2 * c.args.reversed) c.args.start c.requires.linked c.requires.sorted c.requires.start).up_to

-- the last node whose split key is not above
last-is : (c : After-last_not_above-last) → c.last_not_above-last.result ≡ last_not_above_in (2 * c.args.reversed) c.args.start (cells_from c.args.nodes.now (Some c.args.start))
last-is c = c.last_not_above-last.ensures ∙ ap (λ r. last_not_above_in (2 * r) c.args.start (cells_from c.args.nodes.now (Some c.args.start))) c.from.ensures

pub header-next-requires : goal.header-next-requires
header-next-requires c =
    let spot = (start-spot c.args.nodes.now (2 * c.args.reversed) c.args.start c.requires.linked c.requires.sorted c.requires.start).spot in
    let found = spot-node (get c.args.nodes.now) (2 * c.args.reversed) (last_not_above_in (2 * c.args.reversed) c.args.start (cells_from c.args.nodes.now (Some c.args.start))) (Some 0) (cells_from c.args.nodes.now (Some 0)) c.requires.linked.links spot in
    let P : Option ListNode → Type 0 = λ o. IsSome o in
    subst P (sym (ap (get c.args.nodes.now) (last-is (goal.at.header-next-requires c).After-last_not_above-last) ∙ found.1)) refl

-- the list after the link leads to the new node
done : (c : After-set_next) → Inserted c.args.nodes.now c.set_next.new.self (new_cell c.in_ok-place.place (2 * c.args.reversed) None)
done c =
    let old = c.args.nodes.now in
    let m = c.push_dummy.new.self in
    let at = c.in_ok-place.place in
    let last = c.last_not_above-last.result in
    let n = c.set_next.ensures.node in
    let x = new_cell at (2 * c.args.reversed) None in
    let U : Option ℕ → Type 0 = λ o. Updates old m at (Some (node_of x o)) in
    let I : Option ℕ → Type 0 = λ o. Inserted old (with_value m last (record n { next = o })) x in
    let V : Slab ListNode → Type 0 = λ v. Inserted old v x in
    let len = with_value-len m last n (record n { next = Some at }) c.set_next.ensures.was in
    subst V (sym c.set_next.ensures.now) (subst I (sym c.to.ensures)
    (insert-list old m x c.args.start last c.header-next.ensures.node n (start-spot old (2 * c.args.reversed) c.args.start c.requires.linked c.requires.sorted c.requires.start)
    c.requires.linked (c.last_not_above-last.ensures ∙ ap (λ r. last_not_above_in (2 * r) c.args.start (cells_from c.args.nodes.now (Some c.args.start))) c.from.ensures) c.header-next.ensures.is c.in_ok-place.ensures.was_vacant (subst U (sym c.header-next.ensures.next) c.in_ok-place.ensures.updates)
    c.in_ok-place.ensures.len c.set_next.ensures.was (len ∙ c.in_ok-place.ensures.len)))

pub returns-clause-linked : goal.returns-clause-linked
returns-clause-linked c = (done (goal.at.returns-clause-linked c).After-set_next).linked

pub returns-clause-cells : goal.returns-clause-cells
returns-clause-cells c = (done (goal.at.returns-clause-cells c).After-set_next).cells

pub returns-clause-fresh : goal.returns-clause-fresh
returns-clause-fresh c =
    links-fresh (get c.args.nodes.now) c.in_ok-place.place c.in_ok-place.ensures.was_vacant (Some 0) (cells_from c.args.nodes.now (Some 0)) c.requires.linked.links

pub set_next-requires-clause-has : goal.set_next-requires-clause-has
set_next-requires-clause-has c =
    let was : get c.args.nodes.now c.last_not_above-last.result ≡ Some c.header-next.ensures.node = c.header-next.ensures.is in
    let apart : c.last_not_above-last.result ≢ c.in_ok-place.place = λ same. let f = ap (get c.args.nodes.now) same ∙ c.in_ok-place.ensures.was_vacant in absurd (cc (f, was)) in
    let O : Option ListNode → Type 0 = λ o. IsSome o in
    subst O (sym (c.in_ok-place.ensures.updates.others c.last_not_above-last.result apart ∙ was)) refl

pub returns-clause-capacity : goal.returns-clause-capacity
returns-clause-capacity c = ap (λ (v : Slab ListNode). v.capacity) c.set_next.ensures.now ∙ c.in_ok-place.ensures.capacity

pub returns-clause-len : goal.returns-clause-len
returns-clause-len c =
    ap (λ (v : Slab ListNode). slab_len v) c.set_next.ensures.now
    ∙ (with_value-len c.push_dummy.new.self c.last_not_above-last.result c.set_next.ensures.node (record c.set_next.ensures.node { next = c.to.result }) c.set_next.ensures.was ∙ c.in_ok-place.ensures.len)
