use Rattle.std.proofs.Common.{◌≡◌, ◌<◌, ◌-◌, ◌^◌, ℕ, List, None, Option, true, false, get_or, refl, sym, ◌∙◌, ap, subst, arith}
use Rattle.slab.specs.Slab.{Slab, get, slab_len}
use Rattle.node_list.specs.declared.items.Items.TheInside.{Inside}
use Rattle.node_list.specs.declared.node.ListNode.{ListNode}
use Rattle.node_list.specs.declared.node.StoredItem.{StoredItem}
use Rattle.node_list.specs.inside.FreeList.{live_nodes, ItemsInvariant}
use Rattle.node_list.proofs.FreePlaceLaws.{add_place-same, same-count}
use Rattle.node_list.proofs.FreeListLaws.{free_head-fits}
use Rattle.node_list.proofs.ItemLaws.{reserve-invariant, add_place-invariant}
use Rattle.node_list.proofs.items.Items.add_place.Goals as goal
use Rattle.node_list.proofs.items.Items.add_place.Goals.{Joined-self, then-self, else-self}

pub free-free-requires : goal.free-free-requires
free-free-requires c = free_head-fits c.self.inside.nodes c.self.inside.free_head c.self.inside.len c.self.invariant.free_list (λ k some. omega (arith, c.self.invariant.within k some, c.self.invariant.few))

-- no place is spare any more, and no item has changed
record Filled (old new : Inside) : Type 0 where
  invariant : ItemsInvariant new.nodes new.spare new.first_item_bound new.end new.free_head new.len
  none : new.spare ≡ false
  same : (j : ℕ) → get_or (live_nodes new.nodes.slots) j None ≡ get_or (live_nodes old.nodes.slots) j None

filled : (c : Joined-self) → Filled c.self.inside c.if-self.self-inside
filled c =
    let old = c.self.inside in
    let P : Inside → Type 0 = λ new. Filled old new in
    elim c.if-self.branch [
      | then-self w ↦
          let at = w.insert_reserved-place.result in
          let q = w.free-free.result in
          let bound : at < 2 ^ 30 - 1 = omega (arith, w.insert_reserved-place.ensures.key, (c.self.invariant.ready w.if-self.true).fits) in
          let I : Option ℕ → Type 0 = λ o. ItemsInvariant w.insert_reserved-place.new.self false old.first_item_bound w.max-self-inside.result o old.len in
          let invariant = add_place-invariant old.nodes w.insert_reserved-place.new.self at q old.spare old.first_item_bound old.end w.max-self-inside.result old.free_head old.len
          w.insert_reserved-place.ensures.was_vacant (omega (arith, w.max-self-inside.ensures)) (omega (arith, w.max-self-inside.ensures)) (omega (arith, w.max-self-inside.ensures, bound, c.self.invariant.few))
          w.insert_reserved-place.ensures.updates w.insert_reserved-place.ensures.len w.free-free.ensures.free w.free-free.ensures.next c.self.invariant in
          subst P (sym w.self-inside-is) (record {
            invariant = subst I (sym w.to-self-inside.ensures) invariant;
            none = refl;
            same = add_place-same old.nodes w.insert_reserved-place.new.self at q w.insert_reserved-place.ensures.was_vacant w.insert_reserved-place.ensures.updates w.free-free.ensures.free;
          })
      | else-self w ↦ subst P (sym w.self-inside-is) (record { invariant = c.self.invariant; none = w.if-self.false; same = λ j. refl })
    ]

pub invariant_of-self : goal.invariant_of-self
invariant_of-self c =
    let f = filled (goal.at.invariant_of-self c).Joined-self in
    let new = c.if-self.self-inside in
    reserve-invariant new.nodes c.reserve_place.new.nodes new.spare new.spare new.first_item_bound new.end new.free_head new.len
    (ap (λ (s : Slab StoredItem). s.slots) c.reserve_place.ensures.nodes) (λ spare. absurd (cc (f.none, spare))) f.invariant

pub invariant_of-self-2 : goal.invariant_of-self-2
invariant_of-self-2 c =
    let f = filled (goal.at.invariant_of-self-2 c).Joined-self in
    let new = c.if-self.self-inside in
    reserve-invariant new.nodes c.reserve_place.new.nodes new.spare true new.first_item_bound new.end new.free_head new.len
    (ap (λ (s : Slab StoredItem). s.slots) c.reserve_place.ensures.nodes) (λ _. record { room = c.in_ok-reserve_place.ensures.room; fits = c.in_ok-reserve_place.ensures.fits }) f.invariant

-- no item changes
after : (c : Joined-self) (m : Slab StoredItem) → m.slots ≡ c.if-self.self-inside.nodes.slots → (j : ℕ) → get_or (live_nodes m.slots) j None ≡ get_or (live_nodes c.self.inside.nodes.slots) j None
after c m slots j = ap (λ (zs : List (Option StoredItem)). get_or (live_nodes zs) j None) slots ∙ (filled c).same j

pub returns-in_err-reserve_place-clause-values : goal.returns-in_err-reserve_place-clause-values
returns-in_err-reserve_place-clause-values c = λ key.
    after (goal.at.returns-in_err-reserve_place-clause-values c).Joined-self c.reserve_place.new.nodes (ap (λ (s : Slab StoredItem). s.slots) c.reserve_place.ensures.nodes) key ∙ ap (λ (v : Slab ListNode). get v key) c.self.view_is

pub returns-in_err-reserve_place-clause-len : goal.returns-in_err-reserve_place-clause-len
returns-in_err-reserve_place-clause-len c =
    same-count (live_nodes c.reserve_place.new.nodes.slots) (live_nodes c.self.inside.nodes.slots) (after (goal.at.returns-in_err-reserve_place-clause-len c).Joined-self c.reserve_place.new.nodes (ap (λ (s : Slab StoredItem). s.slots) c.reserve_place.ensures.nodes))
    ∙ ap (λ (v : Slab ListNode). slab_len v) c.self.view_is

pub returns-clause-values : goal.returns-clause-values
returns-clause-values c = λ key.
    after (goal.at.returns-clause-values c).Joined-self c.reserve_place.new.nodes (ap (λ (s : Slab StoredItem). s.slots) c.reserve_place.ensures.nodes) key ∙ ap (λ (v : Slab ListNode). get v key) c.self.view_is

pub returns-clause-len : goal.returns-clause-len
returns-clause-len c =
    same-count (live_nodes c.reserve_place.new.nodes.slots) (live_nodes c.self.inside.nodes.slots) (after (goal.at.returns-clause-len c).Joined-self c.reserve_place.new.nodes (ap (λ (s : Slab StoredItem). s.slots) c.reserve_place.ensures.nodes))
    ∙ ap (λ (v : Slab ListNode). slab_len v) c.self.view_is
