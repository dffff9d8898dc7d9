use Rattle.std.proofs.Common.{◌≡◌, ◌≤◌, ◌+◌, ◌-◌}
use Rattle.slab.specs.Slab.{slab_len, SameValues}
use Rattle.node_list.proofs.items.Items.reserve.Given as goal

abbrev pub invariant-loop-self : goal.invariant-loop-self
invariant-loop-self l = record {
  values : SameValues l.initial.self l.self;
  len : slab_len l.self ≡ slab_len l.initial.self;
  capacity : l.initial.self.capacity ≤ l.self.capacity;
}

abbrev pub decreases-loop-self : goal.decreases-loop-self
decreases-loop-self l = l.additional + slab_len l.self - l.self.capacity
