-- Options that are read one by one.
use Rattle.std.specs.Prelude.{◌≡◌, Bool, true, false, Result, Ok, Err, Option, Some, None, unwrap_or}
use Rattle.ownership.specs.declared.fault.WorldFault.{WorldFault}
use Rattle.ownership.specs.declared.fault.WorldFault.TheVariants.{Badarg, SystemLimit, NoProcess, Memory}
use Rattle.ownership.specs.declared.metadata.Heir.{Heir}
use Rattle.ownership.specs.declared.options.NewOptions.{NewOptions}

-- the result of reading an option: these options, badarg for None, or out of memory
abbrev pub ReadsOption : Option NewOptions → Result (Unit {0}) WorldFault → NewOptions → Type 0
ReadsOption wanted (Ok done) new = wanted ≡ Some new
ReadsOption wanted (Err Badarg) new = wanted ≡ None
ReadsOption wanted (Err SystemLimit) new = ⊥
ReadsOption wanted (Err NoProcess) new = ⊥
ReadsOption wanted (Err Memory) new = Unit {0}

-- the same without memory
abbrev pub SetsOption : Option NewOptions → Bool → NewOptions → Type 0
SetsOption wanted true new = wanted ≡ Some new
SetsOption wanted false new = wanted ≡ None

-- the result of reading an heir, over the heir before
abbrev pub ReadsHeir : Option (Option Heir) → Option Heir
    → Result (Option (Option Heir)) WorldFault → Type 0
ReadsHeir wanted heir (Ok said) = wanted ≡ Some (unwrap_or said heir)
ReadsHeir wanted heir (Err Badarg) = wanted ≡ None
ReadsHeir wanted heir (Err SystemLimit) = ⊥
ReadsHeir wanted heir (Err NoProcess) = ⊥
ReadsHeir wanted heir (Err Memory) = Unit {0}
