-- An owner sets or removes the heir of a table.
use Rattle.std.specs.Prelude.{ℕ, not, Option, Result, Ok, Err}
use Rattle.table_ops.specs.Outcomes.{Outcome, gives, refuse, refuse_none}
use Rattle.ownership.specs.declared.fault.WorldFault.{WorldFault}
use Rattle.ownership.specs.declared.fault.WorldFault.TheVariants.{Badarg}
use Rattle.ownership.specs.declared.metadata.Heir.{Heir}
use Rattle.ownership.specs.World.{World, table_at}
use Rattle.ownership.specs.Access.{is_owner}
use Rattle.ownership.specs.Tables.{after_set_heir}

-- the owner of a table sets or removes its heir; badarg for any other process
abbrev pub SetHeir : World → ℕ → ℕ → Option Heir → Outcome (Result (Unit {0}) WorldFault) World
SetHeir old p t heir =
    refuse_none old (table_at old.tables t) (Err Badarg) (λ table.
    refuse old (not (is_owner table.metadata p)) (Err Badarg) (
    gives (Ok tt) (after_set_heir old t heir)))
