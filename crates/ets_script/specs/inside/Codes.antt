-- The code of a script's state, so that a program's value can be seen as one.
use Rattle.std.specs.Prelude.{ℕ, List, refl}
use Rattle.std.specs.Coded.{Coded, code_by, coded×, coded_ℕ, coded_list}
use Rattle.node_core.specs.State.{State}
use Rattle.node_core.specs.inside.Codes.{state_code}
use Rattle.ets_script.specs.Script.{ScriptState}

abbrev pub script_state_code : Coded ScriptState
script_state_code =
    code_by (List (List ℕ) × State) (coded× (coded_list (coded_list coded_ℕ)) state_code)
    (λ s. (s.names, s.node)) (λ p. record { names = p.0; node = p.1 }) (λ _. refl)
