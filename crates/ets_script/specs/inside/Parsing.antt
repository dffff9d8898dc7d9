-- The result of the program's parsing of a line, and the command of the line.
use Rattle.std.specs.Prelude.{◌≡◌, ℕ, List, ⊤, false, Result, Ok, Err}
use Rattle.ets_term.specs.Character.{IsAtomText}
use Rattle.ets_term.specs.declared.term.Term.{Term}
use Rattle.ets_script.specs.Reads.{Read, fault}
use Rattle.ets_script.specs.Commands as spec
use Rattle.ets_script.specs.LineForms.{Means}
use Rattle.ets_script.specs.declared.parse_stop.ParseStop.{ParseStop}
use Rattle.ets_script.specs.declared.parse_stop.ParseStop.TheVariants.{Fault, Memory}
use Rattle.ets_script.specs.declared.command.CallLine.{CallLine}
use Rattle.ets_script.specs.declared.command.CallLine.TheVariants as lines
use Rattle.ets_script.specs.declared.command.Command.{Command}
use Rattle.ets_script.specs.declared.command.Command.TheVariants.{Faulty, Spawn, Exit, Ask, Grow, Ready}

-- the result is what the grammar gives, a value or a fault; or memory ran out
abbrev pub Gives : {R A : Type 0} → (R → Read A) → Result R ParseStop → Read A → Type 0
Gives view (Ok r) wanted = wanted ≡ view r
Gives view (Err (Fault rest)) wanted = wanted ≡ fault rest.now
Gives view (Err Memory) wanted = ⊤

-- the same for parsing that takes no memory
abbrev pub GivesExactly : {R A : Type 0} → (R → Read A) → Result R ParseStop → Read A → Type 0
GivesExactly view (Ok r) wanted = wanted ≡ view r
GivesExactly view (Err (Fault rest)) wanted = wanted ≡ fault rest.now
GivesExactly view (Err Memory) wanted = ⊥

abbrev pub command_view : Command → spec.Command
command_view (Faulty at) = spec.faulty at
command_view (Spawn name) = spec.spawn name.now
command_view (Exit name) = spec.exit name.now
command_view (Ask name call terms) = spec.ask name.now call terms
command_view (Grow t) = spec.grow t
command_view (Ready t b) = spec.ready t b

-- a line that begins with this word makes a call for the process of that name
abbrev pub IsCaller : List ℕ → Type 0
IsCaller word = (bs : List ℕ) → spec.by_word word bs ≡ spec.ask_command word bs

-- a call with these arguments, whose name is an atom's text; or out of memory, only for a line that is not silent;
-- `Other` says nothing of the line
abbrev pub FindsCall : List ℕ → List Term → CallLine → Type 0
FindsCall line terms (lines.Call name word) = Means line (spec.ask name.now word.now terms) × IsAtomText word.now
FindsCall line terms lines.Other = ⊤
FindsCall line terms lines.NoMemory = spec.is_silent line ≡ false
