-- Faults, and results of calls that may run out of memory.
use Rattle.std.specs.Prelude.{◌≡◌, ℕ, Option, Some, None, Result, Ok, Err}
use Rattle.external_term.specs.declared.fault.ExternalFault.{ExternalFault}
use Rattle.external_term.specs.declared.fault.ExternalFault.TheVariants.{Truncated, BadVersion, UnsupportedTag, TooDeep, ImproperList, BadAtom, BadInteger, ForeignIdentifier, Memory}

-- the offset of a fault, None for Memory
abbrev pub offset : ExternalFault → Option ℕ
offset (Truncated at) = Some at
offset (BadVersion at) = Some at
offset (UnsupportedTag at) = Some at
offset (TooDeep at) = Some at
offset (ImproperList at) = Some at
offset (BadAtom at) = Some at
offset (BadInteger at) = Some at
offset (ForeignIdentifier at) = Some at
offset Memory = None

-- a call fails with this fault: it is the expected fault, or memory ran out
abbrev pub FailsOrMemory : {A : Type 0} → Result A ExternalFault → ExternalFault → Type 0
FailsOrMemory expected Memory = Unit {0}
FailsOrMemory expected f = expected ≡ Err f

-- a call returns the expected result, or memory ran out
abbrev pub ReturnsOrMemory : {A : Type 0} → Result A ExternalFault → Result A ExternalFault → Type 0
ReturnsOrMemory expected (Ok x) = expected ≡ Ok x
ReturnsOrMemory expected (Err f) = FailsOrMemory expected f
