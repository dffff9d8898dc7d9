-- The items after the borrow of a chain.
use Rattle.std.specs.Prelude.{ℕ, List}
use Rattle.std.specs.Borrow.{Lends, MutBor, Fml}
use Rattle.slab.specs.Slab.{Slab}
use Rattle.ets_term.specs.declared.term.Term.{Term}
use Rattle.node_list.specs.declared.node.ListNode.{ListNode}
use Rattle.node_list.specs.inside.Lent.{nodes_with}
use Rattle.node_list.specs.contracts.items.Items.{the_row}
use Rattle.node_list.specs.contracts.chain.Chain as chain

abbrev pub LendsItemChain : ℕ → MutBor (Slab ListNode) → MutBor (List Term) → Fml
LendsItemChain at s r = Lends the_row chain.the_row s r (λ w. nodes_with at w s.now)
