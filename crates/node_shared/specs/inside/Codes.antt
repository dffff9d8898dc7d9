-- The codes of what contracts see: each is a list of numbers, so that a program's value can be seen as it.
use base.Stored.{coded_unit}
use Rattle.std.specs.Prelude.{ℕ, List, refl}
use Rattle.std.specs.Coded.{Coded, code_by, coded×, coded_ℕ, coded_list}
use Rattle.node_core.specs.State.{State}
use Rattle.node_core.specs.inside.Codes.{state_code}
use Rattle.node_shared.specs.declared.entry.Entry.{Entry}
use Rattle.node_shared.specs.contracts.entry.Entry as entry
use Rattle.node_shared.specs.Records.{BookState, RecordState}
use Rattle.node_shared.specs.Serving.{CallerState, ServedState}

abbrev pub book_code : Coded BookState
book_code =
    code_by ((State × List Entry) × ℕ) (coded× (coded× state_code (coded_list entry.the_row.coded)) coded_ℕ)
    (λ k. ((k.state, k.journal), k.total)) (λ p. record { state = p.0.0; journal = p.0.1; total = p.1 }) (λ _. refl)

abbrev pub record_code : Coded RecordState
record_code =
    code_by (ℕ × List Entry) (coded× coded_ℕ (coded_list entry.the_row.coded))
    (λ c. (c.pid, c.entries)) (λ p. record { pid = p.0; entries = p.1 }) (λ _. refl)

abbrev pub caller_code : Coded CallerState
caller_code =
    code_by (RecordState × List Entry) (coded× record_code (coded_list entry.the_row.coded))
    (λ c. (c.own, c.seen)) (λ p. record { own = p.0; seen = p.1 }) (λ _. refl)

abbrev pub served_code : Coded ServedState
served_code =
    code_by (State × List Entry) (coded× state_code (coded_list entry.the_row.coded))
    (λ r. (r.state, r.history)) (λ p. record { state = p.0; history = p.1 }) (λ _. refl)

-- what a lock holds is known by its type only
abbrev pub lock_code : Coded (Unit {0})
lock_code = coded_unit
