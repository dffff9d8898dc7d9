use Rattle.std.proofs.Common.{◌≡◌, ℕ, ◌<◌, Some}
use Rattle.table_ops.specs.Invariants.{IsContent}
use Rattle.ownership.specs.World.{Table, table_at}
use Rattle.ownership.proofs.world.tables.reveal_contents.Given as goal

abbrev pub invariant-loop-found : goal.invariant-loop-found
invariant-loop-found g l = (t : ℕ) (table : Table) → t < l.found-index → table_at l.tables t ≡ Some table → IsContent table.state.content
