use Rattle.std.proofs.Common.{◌≡◌, ◌⊎◌, ℕ, Some, drop}
use Rattle.ownership.specs.declared.metadata.Heir.{Heir}
use Rattle.ownership.specs.World.{Table, table_at}
use Rattle.ownership.specs.End.{living_heir}
use Rattle.ownership.specs.inside.Indices.{IsAmong, AddsUnderOwners, ids_under}
use Rattle.ownership.proofs.indices.Indices.index_heirs.Given as goal

abbrev pub invariant-loop-id : goal.invariant-loop-id
invariant-loop-id g l = record {
  stays : AddsUnderOwners l.fn.self l.self;
  rest : (t : ℕ) (table : Table) (heir : Heir) → IsAmong t l.ids → table_at l.tables t ≡ Some table → living_heir l.processes.entries table.metadata ≡ Some heir → IsAmong t (drop l.id-index l.ids) ⊎ IsAmong t (ids_under l.self heir.pid);
}
