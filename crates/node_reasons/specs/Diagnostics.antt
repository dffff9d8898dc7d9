-- The text that says why a line was refused.
use Rattle.std.specs.Prelude.{ℕ, List, ◌++◌, length, if◌then◌else◌, codes, decimal}
use Rattle.std.specs.Str.{is_utf8}
use Rattle.node_core.specs.declared.step.Call.{Call}
use Rattle.node_core.specs.declared.step.Step.{Step}
use Rattle.node_core.specs.declared.step.Step.TheVariants.{Enrol, End, Ask, Grow, Ready}
use Rattle.node_reasons.specs.Words.{reason_text}
use Rattle.node_reasons.specs.SyntaxWords.{problem_text}
use Rattle.node_reasons.specs.declared.diagnostic.Diagnostic.{Diagnostic}
use Rattle.node_reasons.specs.declared.diagnostic.Diagnostic.TheVariants as diagnostic

-- `lookup/2`
abbrev pub call_subject : Call → List ℕ
call_subject call = call.name ++ (codes "/" ++ decimal (length call.args))

-- the command's word, or the call
abbrev pub step_subject : Step → List ℕ
step_subject (Enrol p) = codes "spawn"
step_subject (End p) = codes "exit"
step_subject (Ask p call) = call_subject call
step_subject (Grow t) = codes "grow"
step_subject (Ready t bucket) = codes "ready"

-- a name as the line has it
abbrev pub name_text : List ℕ → List ℕ
name_text name = if is_utf8 name then name else codes "the name"

-- `lookup/2: argument 1: no such table`, or `byte 17: unexpected '.'`
abbrev pub diagnostic_text : Diagnostic → List ℕ
diagnostic_text (diagnostic.BrokenRule step reason) = step_subject step ++ (codes ": " ++ reason_text reason)
diagnostic_text (diagnostic.AlreadySpawned name) = codes "spawn: " ++ (name_text name.now ++ codes " was already spawned")
diagnostic_text (diagnostic.CallByUnknownName name call) =
    call_subject call ++ (codes ": " ++ (name_text name.now ++ codes " was never spawned"))
diagnostic_text (diagnostic.ExitOfUnknownName name) = codes "exit: " ++ (name_text name.now ++ codes " was never spawned")
diagnostic_text (diagnostic.SyntaxFault at problem) = codes "byte " ++ (decimal at ++ (codes ": " ++ problem_text problem))
diagnostic_text diagnostic.TooLong = codes "line longer than 65536 bytes"
diagnostic_text diagnostic.NoMemory = codes "out of memory"
