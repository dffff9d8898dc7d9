-- A term names the same table in the observable state.
use Rattle.std.proofs.Common.{◌≡◌, ◌∙◌, ap, ℕ, List, Option}
use Rattle.std.specs.Prelude.{unwrap_or}
use Rattle.ets_term.specs.declared.term.Term.{Term}
use Rattle.ownership.specs.World.{resolve}
use Rattle.node_core.specs.State.{State, next_identifier}
use Rattle.node_core.specs.Observable.{observable}
use Rattle.node_core.proofs.buckets.ObservableTables.{length-observable, resolve-observable}
use Rattle.ets_script.specs.Script.{table_of}

-- the table that a term names is the same in the observable state, and so is the next identifier
pub table-seen : (names : List (List ℕ)) (n : State) (t : Term) → table_of (record { names = names; node = observable n }) t ≡ unwrap_or (resolve n.world.tables t) (next_identifier n)
table-seen names n t =
    ap (λ (o : Option ℕ). unwrap_or o (next_identifier (observable n))) (resolve-observable n.world.tables t)
    ∙ ap (λ (m : ℕ). unwrap_or (resolve n.world.tables t) m) (length-observable n.world.tables)
