use Rattle.std.proofs.Common.{◌≡◌, ℕ, ◌+◌, ◌-◌, ◌^◌, ◌<◌, Some, Option, IsSome, option_map, refl, sym, ◌∙◌, ap, subst, arith}
use Rattle.slab.specs.Slab.{Slab, get, slab_len, HasRoomFor}
use Rattle.node_list.specs.declared.items.Items.TheInside.{Inside}
use Rattle.node_list.specs.declared.node.ListNode.{ListNode}
use Rattle.node_list.specs.declared.node.StoredItem.{StoredItem}
use Rattle.node_list.specs.declared.packed.PackedHeader.{PackedHeader}
use Rattle.node_list.specs.inside.PackedHeader.{next_in}
use Rattle.node_list.specs.inside.FreeList.{item_node, ItemsInvariant}
use Rattle.node_list.proofs.FreePlaceLaws.{slab_len-at_most, live-is, updates-live}
use Rattle.node_list.proofs.FreeListLaws.{first-free}
use Rattle.node_list.proofs.ItemLaws.{Inserted, insert-free, insert-spare, spare-place}
use Rattle.node_list.proofs.items.Items.insert_reserved.Goals as goal
use Rattle.node_list.proofs.items.Items.insert_reserved.Goals.{Joined-get, in-Some, in-None}

-- the first free place
pub write_at-free-requires : goal.write_at-free-requires
write_at-free-requires c =
    let O : Option StoredItem → Type 0 = λ o. IsSome o in
    subst O (sym (first-free c.self.inside.nodes c.self.inside.free_head c.self.inside.len c.in-Some.at c.self.invariant.free_list (sym c.get.ensures ∙ c.in-Some.is)).is) refl

-- no place is free, so one is spare
pub insert_reserved-at-requires : goal.insert_reserved-at-requires
insert_reserved-at-requires c =
    let V : Slab ListNode → Type 0 = λ v. HasRoomFor v 1 in
    (spare-place c.self.inside.nodes c.self.inside.spare c.self.inside.first_item_bound c.self.inside.end c.self.inside.free_head c.self.inside.len c.self.invariant (sym c.get.ensures ∙ c.in-None.is) (subst V (sym c.self.view_is) c.requires.room)).place.room

pub overflow_add-at : goal.overflow_add-at
overflow_add-at c =
    let V : Slab ListNode → Type 0 = λ v. HasRoomFor v 1 in
    omega (arith, c.insert_reserved-at.ensures.key, (spare-place c.self.inside.nodes c.self.inside.spare c.self.inside.first_item_bound c.self.inside.end c.self.inside.free_head c.self.inside.len c.self.invariant (sym c.get.ensures ∙ c.in-None.is) (subst V (sym c.self.view_is) c.requires.room)).place.fits)

-- what either arm has done: an item is written, and the count and the bound are to follow
record Written (old new : Inside) (at : ℕ) (q : StoredItem) : Type 0 where
  inserted : Inserted old.nodes new.nodes old.spare new.spare old.first_item_bound new.end new.free_head old.len at q
  bound : new.first_item_bound ≡ old.first_item_bound
  count : new.len ≡ old.len

both : {A B : Type 0} (P : A → B → Type 0) (a x : A) (b y : B) → a ≡ x → b ≡ y → P x y → P a b
both {A} {B} P a x b y e f p =
    let F : A → Type 0 = λ z. P z b in
    let G : B → Type 0 = λ z. P x z in
    subst F (sym e) (subst G (sym f) p)

abbrev stored : Joined-get → StoredItem
stored c = record { header = c.new-header.result; item = c.args.item }

written : (c : Joined-get) → Written c.self.inside c.match-get.self-inside c.match-get.at (stored c)
written c =
    let old = c.self.inside in
    let q = stored c in
    let P : Inside → ℕ → Type 0 = λ new at. Written old new at q in
    elim c.match-get.branch [
      | in-Some w ↦
          let head = sym c.get.ensures ∙ w.in-Some.is in
          let f = first-free old.nodes old.free_head old.len w.in-Some.at c.self.invariant.free_list head in
          let was : Some f.stored.header ≡ Some w.write_at-free.result = ap (λ (o : Option StoredItem). option_map (λ (s : StoredItem). s.header) o) (sym f.is) ∙ w.write_at-free.ensures.value in
          let same : f.stored.header ≡ w.write_at-free.result = cc (was) in
          let next = ap (λ (z : PackedHeader). next_in z) same ∙ sym w.next-self-inside.ensures.next in
          let I : Slab StoredItem → Option ℕ → Type 0 = λ m o. Inserted old.nodes m old.spare old.spare old.first_item_bound old.end o old.len w.in-Some.at q in
          let inserted = insert-free old.nodes w.in-Some.at q old.spare old.first_item_bound old.end old.free_head old.len f head c.new-header.ensures.live c.self.invariant in
          both P _ _ _ _ w.self-inside-is w.at-is (record { inserted = both I _ _ _ _ w.write_at-free.ensures.now (sym next) inserted; bound = refl; count = refl })
      | in-None w ↦
          let V : Slab ListNode → Type 0 = λ v. HasRoomFor v 1 in
          let at = w.insert_reserved-at.result in
          let s = spare-place old.nodes old.spare old.first_item_bound old.end old.free_head old.len c.self.invariant (sym c.get.ensures ∙ w.in-None.is) (subst V (sym c.self.view_is) c.requires.room) in
          let fits : at < 2 ^ 30 - 1 = omega (arith, w.insert_reserved-at.ensures.key, s.place.fits) in
          let inserted = insert-spare old.nodes w.insert_reserved-at.new.self at q old.spare old.first_item_bound old.end w.max-self-inside.result old.free_head old.len s.is w.insert_reserved-at.ensures.was_vacant fits
          (omega (arith, w.max-self-inside.ensures)) (omega (arith, w.max-self-inside.ensures)) (omega (arith, w.max-self-inside.ensures, fits, c.self.invariant.few))
          w.insert_reserved-at.ensures.updates w.insert_reserved-at.ensures.len c.new-header.ensures.live c.self.invariant in
          both P _ _ _ _ w.self-inside-is w.at-is (record { inserted = inserted; bound = refl; count = refl })
    ]

pub overflow_add-self : goal.overflow_add-self
overflow_add-self c =
    let old = c.self.inside in
    omega (arith, (written c).count, c.self.invariant.free_list.count, slab_len-at_most old.nodes old.end c.self.invariant.within, c.self.invariant.few)

pub invariant_of-self : goal.invariant_of-self
invariant_of-self c =
    let w = written (goal.at.invariant_of-self c).Joined-get in
    let new = c.match-get.self-inside in
    let I : ℕ → Type 0 = λ n. ItemsInvariant new.nodes new.spare c.min-self-inside.result new.end new.free_head (n + 1) in
    subst I (sym w.count) (w.inserted.invariant c.min-self-inside.result (omega (arith, c.min-self-inside.ensures, w.bound)) (omega (arith, c.min-self-inside.ensures)))

pub returns-clause-was_vacant : goal.returns-clause-was_vacant
returns-clause-was_vacant c = sym (ap (λ (v : Slab ListNode). get v c.match-get.at) c.self.view_is) ∙ (written (goal.at.returns-clause-was_vacant c).Joined-get).inserted.was

pub returns-clause-updates : goal.returns-clause-updates
returns-clause-updates c =
    let q = stored (goal.at.returns-clause-updates c).Joined-get in
    let u = updates-live c.self.inside.nodes c.match-get.self-inside.nodes c.match-get.at (Some q) (written (goal.at.returns-clause-updates c).Joined-get).inserted.updates in
    let node : Some (item_node q.header.reversed (next_in q.header) q.item) ≡ Some (item_node c.args.reversed c.args.next c.args.item) = λ i. Some (item_node (c.new-header.ensures.key i) (c.new-header.ensures.next i) c.args.item) in
    record {
      changed = u.0 ∙ (live-is q c.new-header.ensures.live ∙ node);
      others = λ j other. u.1 j other ∙ ap (λ (v : Slab ListNode). get v j) c.self.view_is;
    }

pub returns-clause-len : goal.returns-clause-len
returns-clause-len c = (written (goal.at.returns-clause-len c).Joined-get).inserted.more ∙ ap (λ (v : Slab ListNode). slab_len v + 1) c.self.view_is

pub returns-clause-in_range : goal.returns-clause-in_range
returns-clause-in_range c = (written (goal.at.returns-clause-in_range c).Joined-get).inserted.fits

pub returns-clause-capacity : goal.returns-clause-capacity
returns-clause-capacity c = (written (goal.at.returns-clause-capacity c).Joined-get).inserted.capacity ∙ ap (λ (v : Slab ListNode). v.capacity) c.self.view_is
