-- The codes of tables and worlds: each encodes a value as a list of numbers, so that a contract can see it.
use Rattle.std.specs.Prelude.{ℕ, refl}
use Rattle.std.specs.Coded.{Coded, code_by, coded×, coded_ℕ, coded_list, coded_option}
use Rattle.fixed_walk.specs.TableState.{TableState}
use Rattle.fixed_walk.specs.inside.Codes.{state_code}
use Rattle.ownership.specs.declared.metadata.Metadata.{Metadata}
use Rattle.ownership.specs.contracts.metadata.Metadata as metadata
use Rattle.ownership.specs.contracts.process.Process as process
use Rattle.ownership.specs.World.{Table, Tables, Processes, World}

abbrev pub table_code : Coded Table
table_code =
    code_by (Metadata × TableState) (coded× metadata.the_row.coded state_code) (λ t. (t.metadata, t.state))
    (λ p. record { metadata = p.0; state = p.1 }) (λ _. refl)

abbrev pub world_code : Coded World
world_code =
    code_by
    ((ℕ × ℕ) × (Processes × Tables))
    (coded× (coded× coded_ℕ coded_ℕ)
    (coded× (coded_list (coded× coded_ℕ process.the_row.coded))
    (coded_list (coded_option table_code))))
    (λ w. ((w.max_processes, w.max_tables), (w.processes, w.tables)))
    (λ p. record { max_processes = p.0.0; max_tables = p.0.1; processes = p.1.0; tables = p.1.1 })
    (λ _. refl)
