-- The answers to the lines of a script, and its output.
use Rattle.std.specs.Prelude.{◌≡◌, ℕ, zero, suc, ◌⊎◌, Bool, true, false, List, [], ◌∷◌, ◌++◌, length, ⊤, Option, Some, None, position, unwrap_or}
use Rattle.std.specs.Str.{bytes_eq}
use Rattle.ets_term.specs.declared.term.Term.{Term}
use Rattle.ownership.specs.World.{resolve}
use Rattle.node_core.specs.State.{State, empty, next_identifier}
use Rattle.node_core.specs.declared.limits.Limits.{Limits}
use Rattle.node_core.specs.Machine.{step}
use Rattle.node_core.specs.declared.step.Step.{Step}
use Rattle.node_core.specs.declared.step.Step.TheVariants.{Enrol, End, Ask, Grow, Ready}
use Rattle.node_core.specs.declared.step.Reply.{Reply}
use Rattle.node_core.specs.declared.step.Reply.TheVariants.{Value, Badarg, SystemLimit, NoProcess}
use Rattle.ets_script.specs.Lines.{Line, text, too_long, IsLine}
use Rattle.ets_script.specs.Commands.{Command, faulty, spawn, exit, ask, grow, ready, command, is_silent}
use Rattle.ets_script.specs.Replies.{answer_text}
use Rattle.ets_script.specs.declared.answer.Answer.{Answer}
use Rattle.ets_script.specs.declared.answer.Answer.TheVariants.{Silent, Replied, NoMemory, Syntax, TooLong}

-- The state of a script: the names that were spawned, in order, where the first is that of process 0, and the next that
-- of process 1; and the observable state of the node.
pub record ScriptState : Type 0 where
  pub names : List (List ℕ)
  pub node : State

-- the process with this name
abbrev pub pid_of : ScriptState → List ℕ → Option ℕ
pid_of s name = position (bytes_eq name) s.names

-- the table that a term names, or, if there is none, the next identifier, which no table has
abbrev pub table_of : ScriptState → Term → ℕ
table_of s t = unwrap_or (resolve s.node.world.tables t) (next_identifier s.node)

-- the answer is this, and nothing changes
abbrev pub KeepsState : ScriptState → Answer → Answer → ScriptState → Type 0
KeepsState old fixed answer new = (answer ≡ fixed) × (new ≡ old)

-- the node runs a step, and the answer is its reply
abbrev pub Steps : ScriptState → Step → Answer → ScriptState → Type 0
Steps old s answer new =
    (r : Reply) × (answer ≡ Replied r) × step old.node s r new.node × (new.names ≡ old.names)

-- a step of the process with a name; if no process has it, the answer is that there is no such process
abbrev pub StepsOf : Option ℕ → (ℕ → Step) → ScriptState → Answer → ScriptState → Type 0
StepsOf None s old answer new = KeepsState old (Replied NoProcess) answer new
StepsOf (Some p) s old answer new = Steps old (s p) answer new

-- the names after the reply to an enrolment: the name is added unless the enrolment was refused
abbrev pub names_after : Reply → List (List ℕ) → List ℕ → List (List ℕ)
names_after (Value t) names name = names ++ name ∷ []
names_after Badarg names name = names
names_after SystemLimit names name = names
names_after NoProcess names name = names

-- the answer to `spawn`: a name can be spawned only once, and its process has the next number
abbrev pub Spawns : Option ℕ → ScriptState → List ℕ → Answer → ScriptState → Type 0
Spawns (Some p) old name answer new = KeepsState old (Replied Badarg) answer new
Spawns None old name answer new =
    (r : Reply) × (answer ≡ Replied r)
    × step old.node (Enrol (length old.names)) r new.node × (new.names ≡ names_after r old.names name)

-- the answer to a command, and the state after it
abbrev pub Executes : Command → ScriptState → Answer → ScriptState → Type 0
Executes (faulty at) old answer new = KeepsState old (Syntax at) answer new
Executes (spawn name) old answer new = Spawns (pid_of old name) old name answer new
Executes (exit name) old answer new = StepsOf (pid_of old name) (λ p. End p) old answer new
Executes (ask name word terms) old answer new =
    StepsOf (pid_of old name) (λ p. Ask p (record { name = word; args = terms })) old answer new
Executes (grow t) old answer new = Steps old (Grow (table_of old t)) answer new
Executes (ready t bucket) old answer new = Steps old (Ready (table_of old t) bucket) answer new

-- the answer to a line that is silent, or is not; if it is not, memory may run out, and nothing changes
abbrev pub AnswersText : Bool → ScriptState → List ℕ → Answer → ScriptState → Type 0
AnswersText true old t answer new = KeepsState old Silent answer new
AnswersText false old t answer new = Executes (command t) old answer new ⊎ KeepsState old NoMemory answer new

-- the answer to a line, and the state after it
abbrev pub AnswersLine : ScriptState → Line → Answer → ScriptState → Type 0
AnswersLine old (text t) answer new = AnswersText (is_silent t) old t answer new
AnswersLine old too_long answer new = KeepsState old TooLong answer new

-- These bytes are one line, which has this output. If `last` holds, the line may lack its LF.
pub record IsAnswered (old : ScriptState) (bytes out : List ℕ) (new : ScriptState) (last : Type 0) : Type 0 where
  pub line : Line
  pub answer : Answer
  pub is_line : IsLine bytes line last
  pub answers : AnswersLine old line answer new
  pub prints : out ≡ answer_text answer

-- The input is this number of lines, and the output is their answers, from one state of the script to another. If
-- `last` holds, the last line may lack its LF.
abbrev pub ScriptText : ℕ → Type 0 → ScriptState → List ℕ → List ℕ → ScriptState → Type 0
ScriptText zero last old input output new = (input ≡ []) × (output ≡ []) × (new ≡ old)
ScriptText (suc n) last old input output new =
    (mid : ScriptState) × (bytes : List ℕ) × (rest : List ℕ) × (first : List ℕ) × (others : List ℕ)
    × (input ≡ bytes ++ rest) × (output ≡ first ++ others)
    × IsAnswered old bytes first mid ((rest ≡ []) × last) × ScriptText n last mid rest others new

-- the same for any number of lines
abbrev pub AreLines : Type 0 → ScriptState → List ℕ → List ℕ → ScriptState → Type 0
AreLines last old input output new = (count : ℕ) × ScriptText count last old input output new

-- the input is lines that all have their LF, and the output is their answers
abbrev pub AreWholeLines : ScriptState → List ℕ → List ℕ → ScriptState → Type 0
AreWholeLines = AreLines ⊥

-- the input is a whole script, whose last line may lack its LF, and the output is the answers to its lines
abbrev pub IsScript : ScriptState → List ℕ → List ℕ → ScriptState → Type 0
IsScript = AreLines ⊤

-- the state before the first line, on a node with these limits
abbrev pub at_start : Limits → ScriptState
at_start limits = record { names = []; node = empty limits }
