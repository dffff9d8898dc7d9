-- What private contracts say of the planning of lines that are read part by part.
use Rattle.std.specs.Prelude.{◌≡◌, ℕ, ◌≤◌, ◌<◌, Bool, true, false, List, [], ◌∷◌, ◌++◌, length, Option, Some, None, ⊤}
use Rattle.std.specs.Io.KnownBytes.{Consumes, IsAtEnd}
use Rattle.node_shared.specs.declared.job.Job.{Job}
use Rattle.ets_packets.specs.Traffic.{Flow}
use Rattle.ets_script.specs.Commands.{Command}
use Rattle.ets_script.specs.Lines.{Line, text, too_long, IsOneLine, IsLine, IsCutInto}
use Rattle.ets_script.specs.Plan.{PlanState, empty_plan, index_of, add_answer, add_job_for, add_spawn, add_command, line_plan, lines_plan}
use Rattle.ets_script.specs.declared.answer.Answer.{Answer}
use Rattle.ets_script.specs.declared.plan.PlannedAnswers.{PlannedAnswers}
use Rattle.ets_script.specs.declared.plan.ProcessJobs.{ProcessJobs}
use Rattle.ets_script.specs.declared.fault.ScriptFault.{ScriptFault}
use Rattle.ets_script.specs.declared.fault.ScriptFault.TheVariants.{Read, Memory}
use Rattle.ets_script.specs.inside.LineBuffers.{LineBufferState, EndsLine}
use Rattle.ets_script.specs.inside.PlanCodes.{LimitedPlanState}

-- the plan of no lines, with this greatest number of names
abbrev pub no_lines : ℕ → LimitedPlanState
no_lines max_names = record { max_names = max_names; plan = empty_plan }

-- the plan with one more planned answer
abbrev pub with_answer : Answer → LimitedPlanState → LimitedPlanState
with_answer answer l = record l { plan = add_answer answer l.plan }

-- the plan with one more job for the process with this number, if there is one
abbrev pub with_job : Option ℕ → Job → LimitedPlanState → LimitedPlanState
with_job number job l = record l { plan = add_job_for number job l.plan }

-- the plan with one more spawned name
abbrev pub with_name : List ℕ → LimitedPlanState → LimitedPlanState
with_name name l = record l { plan = add_spawn l.max_names (index_of l.plan name) name l.plan }

-- the plan with what a command adds
abbrev pub with_command : Command → LimitedPlanState → LimitedPlanState
with_command command l = record l { plan = add_command l.max_names command l.plan }

-- the plan with what a line adds; and with what lines add, in order
abbrev pub with_line : Line → LimitedPlanState → LimitedPlanState
with_line line l = record l { plan = line_plan l.max_names line l.plan }

abbrev pub with_lines : List Line → LimitedPlanState → LimitedPlanState
with_lines lines l = record l { plan = lines_plan l.max_names lines l.plan }

-- the buffered bytes begin with a line of this many bytes, which was added
pub record PlansFirstLine (h : LineBufferState) (old new : LimitedPlanState) (taken : ℕ) : Type 0 where
  pub line : Line
  pub some : 0 < taken
  pub within : taken ≤ length h.bytes
  pub ends : EndsLine h.bytes h.is_skipping taken line
  pub plans : new ≡ with_line line old

-- the next line was added, or the buffered bytes have no LF
abbrev pub PlansNext : LineBufferState → LimitedPlanState → LimitedPlanState → Option ℕ → Type 0
PlansNext h old new (Some taken) = PlansFirstLine h old new taken
PlansNext h old new None = IsOneLine h.bytes × (new ≡ old)

-- the rest of the buffer when the input ends, as a line
abbrev pub last_line : Bool → List ℕ → Line
last_line true bytes = too_long
last_line false bytes = text bytes

-- lines that all have their LF
abbrev pub AreWhole : List ℕ → List Line → Type 0
AreWhole input [] = input ≡ []
AreWhole input (line ∷ lines) =
    (bytes : List ℕ) × (rest : List ℕ) × (input ≡ bytes ++ rest) × IsLine bytes line ⊥ × AreWhole rest lines

-- the reader had these lines and no more, and they were added
abbrev pub PlansAll : LimitedPlanState → Flow → LimitedPlanState → Type 0
PlansAll start reader now =
    (input : List ℕ) × (lines : List Line) × Consumes reader.before reader.after input × IsAtEnd reader.after
    × IsCutInto input lines × (now ≡ with_lines lines start)

-- a plan's parts
abbrev pub AreParts : PlannedAnswers → ProcessJobs → PlanState → Type 0
AreParts planned work plan = (planned.answers ≡ plan.answers) × (planned.names ≡ plan.names) × (work.jobs ≡ plan.jobs)

-- the reasons for which the planning of a script stops
abbrev pub IsUnplanned : ScriptFault → Type 0
IsUnplanned Read = ⊤
IsUnplanned Memory = ⊤
IsUnplanned _ = ⊥
