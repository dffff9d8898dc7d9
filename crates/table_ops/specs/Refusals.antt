-- The contracts of calls that may be refused.
use Rattle.std.specs.Prelude.{◌≡◌, Result, Ok, Err, Option, Some, None}
use Rattle.table_ops.specs.declared.refusal.Refusal.{Refusal}
use Rattle.table_ops.specs.declared.refusal.Refusal.TheVariants.{Badarg, SystemLimit, Memory}
use Rattle.match_spec.specs.declared.fault.SpecFault.{SpecFault}
use Rattle.match_spec.specs.declared.fault.SpecFault.TheVariants as spec_fault
use Rattle.table_ops.specs.Outcomes.{Change}

-- result and new state are an outcome of the change, or memory was refused and nothing changed
abbrev pub RefinesChange : {X A : Type 0} → Change X A → A → Result X Refusal → A → Type 0
RefinesChange change old (Ok x) new = change (Ok x) new
RefinesChange change old (Err Badarg) new = change (Err Badarg) new
RefinesChange change old (Err SystemLimit) new = change (Err SystemLimit) new
RefinesChange change old (Err Memory) new = new ≡ old

-- the result of a call that changes nothing: this value, badarg if the value is None, or memory was refused
abbrev pub ReturnsOrBadarg : {X : Type 0} → Option X → Result X Refusal → Type 0
ReturnsOrBadarg wanted (Ok x) = wanted ≡ Some x
ReturnsOrBadarg wanted (Err Badarg) = wanted ≡ None
ReturnsOrBadarg wanted (Err SystemLimit) = ⊥
ReturnsOrBadarg wanted (Err Memory) = Unit {0}

-- the refusal of a call whose pattern or match specification is not compiled
abbrev pub refusal_of_spec : SpecFault → Refusal
refusal_of_spec spec_fault.Badarg = Badarg
refusal_of_spec spec_fault.Memory = Memory
