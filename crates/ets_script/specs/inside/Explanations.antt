-- What private contracts say of why a line was refused.
use Rattle.std.specs.Prelude.{◌≡◌, ℕ, ◌-◌, ◌^◌, min, length, List, Bool, true, false, Option, Some, None, option_map}
use Rattle.node_core.specs.State.{State}
use Rattle.node_core.specs.Machine.{step}
use Rattle.node_core.specs.declared.step.Reply.{Reply}
use Rattle.node_core.specs.declared.step.Step.{Step}
use Rattle.node_core.specs.declared.step.Step.TheVariants.{Enrol, End, Ask, Grow, Ready}
use Rattle.node_core.specs.Values.{is_value}
use Rattle.node_reasons.specs.Why.{why}
use Rattle.node_reasons.specs.declared.diagnostic.Diagnostic.{Diagnostic}
use Rattle.node_reasons.specs.declared.diagnostic.Diagnostic.TheVariants as diagnostic
use Rattle.node_reasons.specs.SyntaxProblems.{diagnose_at}
use Rattle.ets_script.specs.Commands as spec
use Rattle.ets_script.specs.Script.{ScriptState, pid_of, table_of}
use Rattle.ets_script.specs.declared.answer.Answer.{Answer}
use Rattle.ets_script.specs.declared.answer.Answer.TheVariants as answer
use Rattle.ets_script.specs.declared.command.Command.{Command}
use Rattle.ets_script.specs.declared.command.Command.TheVariants as command
use Rattle.ets_script.specs.inside.Parsing.{command_view}

-- the reason of a step: the rule that it breaks
abbrev pub reason_of_step : State → Step → Reply → Option Diagnostic
reason_of_step s event reply = option_map (diagnostic.BrokenRule event) (why s event reply)

-- if the machine can give a step this reply, the reason is that of the step
abbrev pub ExplainsStep : State → Step → Reply → Option Diagnostic → Type 0
ExplainsStep s event reply reason = (new : State) → step s event reply new → reason ≡ reason_of_step s event reply

-- the reason of a step of the process with a name; a name that was never spawned has one of its own
abbrev pub ExplainsStepOf : Option ℕ → (ℕ → Step) → Diagnostic → State → Reply → Option Diagnostic → Type 0
ExplainsStepOf None event unknown s reply reason = reason ≡ Some unknown
ExplainsStepOf (Some p) event unknown s reply reason = ExplainsStep s (event p) reply reason

-- the reason of a step of no process; a name that was already spawned has one of its own
abbrev pub ExplainsSpawn : Option ℕ → Step → Diagnostic → State → Reply → Option Diagnostic → Type 0
ExplainsSpawn None event known s reply reason = ExplainsStep s event reply reason
ExplainsSpawn (Some p) event known s reply reason = reason ≡ Some known

-- the enrolment of the next name
abbrev pub next_enrolment : ScriptState → Step
next_enrolment s = Enrol (min (length s.names) (2 ^ 32 - 1))

-- the reason of a command that was refused with this reply
abbrev pub ExplainsCommand : ScriptState → Command → Reply → Option Diagnostic → Type 0
ExplainsCommand s (command.Faulty at) reply reason = reason ≡ None
ExplainsCommand s (command.Spawn name) reply reason =
    ExplainsSpawn (pid_of s name.now) (next_enrolment s) (diagnostic.AlreadySpawned name) s.node reply reason
ExplainsCommand s (command.Exit name) reply reason =
    ExplainsStepOf (pid_of s name.now) (λ p. End p) (diagnostic.ExitOfUnknownName name) s.node reply reason
ExplainsCommand s (command.Ask name word terms) reply reason =
    ExplainsStepOf (pid_of s name.now) (λ p. Ask p (record { name = word; args = terms }))
    (diagnostic.CallByUnknownName name (record { name = word; args = terms })) s.node reply reason
ExplainsCommand s (command.Grow t) reply reason = ExplainsStep s.node (Grow (table_of s t)) reply reason
ExplainsCommand s (command.Ready t bucket) reply reason = ExplainsStep s.node (Ready (table_of s t) bucket) reply reason

-- the reason of a line with this reply: none for a value, else that of its command
abbrev pub ExplainsReply : Bool → ScriptState → List ℕ → Reply → Option Diagnostic → Type 0
ExplainsReply true s line reply reason = reason ≡ None
ExplainsReply false s line reply reason =
    (c : Command) × (command_view c ≡ spec.command line) × ExplainsCommand s c reply reason

-- the reason of a line by its answer: none if it was not refused, and for a syntax error what is at its fault
abbrev pub Explains : ScriptState → List ℕ → Answer → Option Diagnostic → Type 0
Explains s line answer.Silent reason = reason ≡ None
Explains s line (answer.Replied reply) reason = ExplainsReply (is_value reply) s line reply reason
Explains s line answer.NoMemory reason = reason ≡ Some diagnostic.NoMemory
Explains s line (answer.Syntax at) reason = reason ≡ Some (diagnostic.SyntaxFault at (diagnose_at line at))
Explains s line answer.TooLong reason = reason ≡ Some diagnostic.TooLong
