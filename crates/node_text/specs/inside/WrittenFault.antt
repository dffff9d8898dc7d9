-- What is returned for a call for which no step was run.
use Rattle.std.specs.Prelude.{◌≡◌, ℕ, ℤ}
use Rattle.node_text.specs.declared.call_fault.CallFault.{CallFault}
use Rattle.node_text.specs.declared.call_fault.CallFault.TheVariants.{Syntax, Memory}
use Rattle.node_text.specs.declared.status.TheConstants as is

-- the status and the length
abbrev pub WritesFault : CallFault → ℤ → ℕ → Type 0
WritesFault (Syntax at) status len = (status ≡ is.SYNTAX) × (len ≡ at)
WritesFault Memory status len = (status ≡ is.NO_MEMORY) × (len ≡ 0)
