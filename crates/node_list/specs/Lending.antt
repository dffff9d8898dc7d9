-- The list after the borrow of a chain.
use Rattle.std.specs.Prelude.{ℕ, List}
use Rattle.std.specs.Borrow.{Lends, MutBor, Fml}
use Rattle.ets_term.specs.declared.term.Term.{Term}
use Rattle.node_list.specs.Changes.{cells_with}
use Rattle.node_list.specs.ListState.{ListState}
use Rattle.node_list.specs.contracts.list.NodeList.{the_row}
use Rattle.node_list.specs.contracts.chain.Chain as chain

-- when the borrow ends, the item at the place has the chain last written, and nothing else has changed
abbrev pub LendsChainAt : ℕ → MutBor ListState → MutBor (List Term) → Fml
LendsChainAt at s r = Lends the_row chain.the_row s r (λ w. record s.now { cells = cells_with at w s.now.cells })
