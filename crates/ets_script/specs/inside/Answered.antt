-- What private contracts say of one line of a script and its answer.
use Rattle.std.specs.Prelude.{◌≡◌, ℕ, ◌≤◌, ◌<◌, Bool, true, false, List, ◌++◌, length, Option, Some, None}
use Rattle.std.specs.Io.KnownBytes.{Appends}
use Rattle.ets_packets.specs.Traffic.{Flow}
use Rattle.ets_packets.specs.Output.{Breaks}
use Rattle.ets_script.specs.Lines.{Line, text, too_long, IsOneLine}
use Rattle.ets_script.specs.Replies.{answer_text}
use Rattle.ets_script.specs.Script.{ScriptState, AnswersLine}
use Rattle.ets_script.specs.inside.LineBuffers.{LineBufferState, EndsLine}
use Rattle.ets_script.specs.declared.answer.Answer.{Answer}

-- the buffered bytes begin with a line, and this is its answer
pub record AnswersFirstLine (h : LineBufferState) (old new : ScriptState) (answer : Answer) (taken : ℕ) : Type 0 where
  pub line : Line
  pub some : 0 < taken
  pub within : taken ≤ length h.bytes
  pub ends : EndsLine h.bytes h.is_skipping taken line
  pub answers : AnswersLine old line answer new

-- the next line and its answer, or the buffered bytes have no LF
abbrev pub AnswersNext : LineBufferState → ScriptState → ScriptState → Answer → Option ℕ → Type 0
AnswersNext h old new answer (Some taken) = AnswersFirstLine h old new answer taken
AnswersNext h old new answer None = IsOneLine h.bytes × (new ≡ old)

-- the rest of the buffer is answered as a line that ends with the input; an empty one prints nothing
abbrev pub AnswersPart : Bool → ScriptState → List ℕ → Answer → ScriptState → Type 0
AnswersPart true old bytes answer new = AnswersLine old too_long answer new
AnswersPart false old bytes answer new = AnswersLine old (text bytes) answer new

-- the last answer was written after the buffered text
pub record EndsAll (h : LineBufferState) (start now : ScriptState) (waiting : List ℕ) (writer : Flow) : Type 0 where
  pub answer : Answer
  pub answers : AnswersPart h.is_skipping start h.bytes answer now
  pub written : Appends writer.before writer.after (waiting ++ answer_text answer)

-- the last answer was known, and the writer failed
pub record BreaksAtEnd (h : LineBufferState) (start now : ScriptState) (waiting : List ℕ) (writer : Flow) : Type 0 where
  pub answer : Answer
  pub answers : AnswersPart h.is_skipping start h.bytes answer now
  pub broken : Breaks writer (waiting ++ answer_text answer)
