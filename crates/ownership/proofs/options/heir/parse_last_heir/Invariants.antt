use Rattle.std.proofs.Common.{◌≡◌, drop, Option}
use Rattle.std.specs.Prelude.{unwrap_or}
use Rattle.ownership.specs.declared.metadata.Heir.{Heir}
use Rattle.ownership.specs.Options.{heirs_from}
use Rattle.ownership.proofs.options.heir.parse_last_heir.Given as goal

abbrev pub invariant-loop-option : goal.invariant-loop-option
invariant-loop-option l = (heir : Option Heir) → heirs_from (unwrap_or l.last heir) (drop l.option-index l.options) ≡ heirs_from heir l.fn.options
