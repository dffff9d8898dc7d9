-- The output of a script as the text of a run.
use Rattle.std.specs.Prelude.{◌≡◌, ◌≢◌, ℕ, List, [], ◌∷◌, length, Option, Some, None, zip, flat_map, filter_map}
use Rattle.ets_term.specs.declared.term.Term.{Term}
use Rattle.node_core.specs.declared.limits.Limits.{Limits}
use Rattle.node_core.specs.declared.step.Step.{Step}
use Rattle.node_core.specs.declared.step.Step.TheVariants.{Enrol, End, Ask, Grow, Ready}
use Rattle.node_core.specs.declared.step.Reply.{Reply}
use Rattle.node_core.specs.declared.step.Reply.TheVariants.{Value}
use Rattle.node_core.specs.Machine.{run}
use Rattle.node_core.specs.laws.Kept.{StaysFixed}
use Rattle.node_core.specs.laws.Walk.{states, Walks, IsWholeOverStates}
use Rattle.ets_script.specs.Lines.{Line, text, too_long, IsCutInto}
use Rattle.ets_script.specs.Commands.{Command, spawn, exit, ask, grow, ready, command}
use Rattle.ets_script.specs.Replies.{answer_text}
use Rattle.ets_script.specs.Script.{ScriptState, pid_of, table_of, AnswersLine, AreLines, AreWholeLines, at_start}
use Rattle.ets_script.specs.declared.answer.Answer.{Answer}
use Rattle.ets_script.specs.declared.answer.Answer.TheVariants.{Replied}

-- in this state of a script, the command asks for this step
abbrev pub Asks : ScriptState → Command → Step → Type 0
Asks s c (Enrol p) = (name : List ℕ) × (c ≡ spawn name) × (p ≡ length s.names)
Asks s c (End p) = (name : List ℕ) × (c ≡ exit name) × (pid_of s name ≡ Some p)
Asks s c (Ask p call) = (name : List ℕ) × (c ≡ ask name call.name call.args) × (pid_of s name ≡ Some p)
Asks s c (Grow u) = (t : Term) × (c ≡ grow t) × (u ≡ table_of s t)
Asks s c (Ready u bucket) = (t : Term) × (c ≡ ready t bucket) × (u ≡ table_of s t)

-- the line makes the step that its command asks for, and its answer is the reply; or it makes none, and its answer is no
-- value
abbrev pub Makes : ScriptState → Line → Answer → Option (Step × Reply) → Type 0
Makes s (text t) answer (Some made) = (answer ≡ Replied made.1) × Asks s (command t) made.0
Makes s too_long answer (Some made) = ⊥
Makes s line answer None = (t : Term) → answer ≢ Replied (Value t)

-- lines have these answers, one after another, and make these steps
abbrev pub AreAnswered : ScriptState → List Line → List (Answer × Option (Step × Reply)) → ScriptState → Type 0
AreAnswered old [] [] new = new ≡ old
AreAnswered old (line ∷ lines) (a ∷ answers) new =
    (mid : ScriptState) × AnswersLine old line a.0 mid × Makes old line a.0 a.1 × AreAnswered mid lines answers new
AreAnswered old _ _ new = ⊥

-- The output is the text of a run: the answers to the lines of the input, in order. The run has the steps that the
-- lines make, with their replies.
pub record IsTextOfRun (old : ScriptState) (input output : List ℕ) (new : ScriptState) : Type 0 where
  pub lines : List Line
  pub answers : List (Answer × Option (Step × Reply))
  pub steps : List Step
  pub replies : List Reply
  pub cut : IsCutInto input lines
  pub each : AreAnswered old lines answers new
  pub prints : output ≡ flat_map (λ a. answer_text a.0) answers
  pub made : filter_map (λ a. a.1) answers ≡ zip steps replies
  pub runs : run old.node steps replies new.node

-- the output of lines is the text of a run; if `last` holds, the last line may lack its LF
abbrev pub LinesAreRuns : Type 0 → Type 0
LinesAreRuns last =
    (old : ScriptState) (input output : List ℕ) (new : ScriptState)
    → AreLines last old input output new → IsTextOfRun old input output new

-- Of lines that follow whole lines of a script: each finished traversal in their run is exact, of any table that stays
-- fixed, by any process.
abbrev pub ScriptWalksAreWhole : Type 0
ScriptWalksAreWhole =
    (limits : Limits) (before said input output : List ℕ) (old new : ScriptState) (p t : ℕ) (keys : List Term)
    → AreWholeLines (at_start limits) before said old → (told : IsTextOfRun old input output new)
    → StaysFixed t (states old.node told.steps told.replies new.node told.runs)
    → Walks p t None keys old.node told.steps told.replies new.node told.runs
    → IsWholeOverStates t (states old.node told.steps told.replies new.node told.runs) keys
