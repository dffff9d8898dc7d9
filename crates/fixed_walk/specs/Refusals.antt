-- The refusal of a call whose fix is refused.
use Rattle.table_ops.specs.declared.refusal.Refusal.{Refusal}
use Rattle.table_ops.specs.declared.refusal.Refusal.TheVariants.{SystemLimit, Memory}
use Rattle.fixed_walk.specs.declared.fault.FixFault.{FixFault}
use Rattle.fixed_walk.specs.declared.fault.FixFault.TheVariants as fault

-- the refusal for a fault of a fix
abbrev pub refusal_of_fix : FixFault → Refusal
refusal_of_fix fault.SystemLimit = SystemLimit
refusal_of_fix fault.Memory = Memory
