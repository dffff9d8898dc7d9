-- How the result of a call relates to the update that it does.
use Rattle.std.specs.Prelude.{◌≡◌, ◌↔◌, ℕ, ◌-◌, Result, Ok, Err, IfOk, IsErrOf, slice_set}
use Rattle.ets_term.specs.declared.term.Term.{Term}
use Rattle.ets_term.specs.declared.term.Term.TheVariants.{Tuple}
use Rattle.ets_term.specs.Depth.{elements}
use Rattle.counters.specs.declared.fault.CounterFault.{CounterFault}

-- if the call returns an answer, the update gives this object and that answer
abbrev pub AnswersAs : Result Term CounterFault → Result (Term × Term) CounterFault → Term → Type 0
AnswersAs result update object = IfOk result (λ answer. update ≡ Ok (object, answer))

-- the call fails with this fault only if the update does
abbrev pub FailsOnlyAs : {A B : Type 0} → Result A CounterFault → CounterFault → Result B CounterFault → Type 0
FailsOnlyAs result fault update = IsErrOf result fault → update ≡ Err fault

-- the call fails with this fault exactly if the update does
abbrev pub FailsJustAs : {A B : Type 0} → Result A CounterFault → CounterFault → Result B CounterFault → Type 0
FailsJustAs result fault update = IsErrOf result fault ↔ (update ≡ Err fault)

-- a tuple with another element at a position, from 1
abbrev pub with_value_at : ℕ → Term → Term → Term
with_value_at position value tuple = Tuple (slice_set (elements tuple) (position - 1) value)
