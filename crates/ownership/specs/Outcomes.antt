-- The results of a call.
use Rattle.std.specs.Prelude.{◌≡◌, Result, Ok, Err, Option, Some, None}
use Rattle.table_ops.specs.Outcomes.{Outcome}
use Rattle.ownership.specs.declared.fault.WorldFault.{WorldFault}
use Rattle.ownership.specs.declared.fault.WorldFault.TheVariants.{Badarg, SystemLimit, NoProcess, Memory}
use Rattle.ownership.specs.World.{World}

-- result and new world are of this outcome, or memory was refused and the world is unchanged
abbrev pub RefinesWorld : {X : Type 0} → Outcome (Result X WorldFault) World → World
    → Outcome (Result X WorldFault) World
RefinesWorld outcome old (Ok x) new = outcome (Ok x) new
RefinesWorld outcome old (Err Badarg) new = outcome (Err Badarg) new
RefinesWorld outcome old (Err SystemLimit) new = outcome (Err SystemLimit) new
RefinesWorld outcome old (Err NoProcess) new = outcome (Err NoProcess) new
RefinesWorld outcome old (Err Memory) new = new ≡ old

-- the result of reading a term: this value, badarg if the value is None, or memory was refused
abbrev pub Reads : {X : Type 0} → Option X → Result X WorldFault → Type 0
Reads wanted (Ok x) = wanted ≡ Some x
Reads wanted (Err Badarg) = wanted ≡ None
Reads wanted (Err SystemLimit) = ⊥
Reads wanted (Err NoProcess) = ⊥
Reads wanted (Err Memory) = Unit {0}
