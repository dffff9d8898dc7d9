-- What private contracts say of a script's processes, from their enrolment to the end of their jobs.
use Rattle.std.specs.Prelude.{◌≡◌, ℕ, suc, ◌≤◌, List, [], ◌∷◌, map, length, All, ⊤, min}
use Rattle.std.specs.Io.KnownBytes.{Consumes, IsAtEnd}
use Rattle.std.specs.declared.vec.Vec.{Vec}
use Rattle.std.specs.declared.alloc.Global.{Global}
use Rattle.node_core.specs.declared.limits.Limits.{Limits}
use Rattle.node_core.specs.declared.step.Reply.{Reply}
use Rattle.node_core.specs.declared.step.Step.TheVariants.{Enrol}
use Rattle.node_shared.specs.declared.job.Job.{Job}
use Rattle.node_shared.specs.declared.pids.Pids.{Pids}
use Rattle.node_shared.specs.declared.pids.Seat.{Seat}
use Rattle.node_shared.specs.declared.pids.TheConstants.{MAX_PIDS}
use Rattle.node_shared.specs.declared.transcript.CloseFault.TheVariants as close
use Rattle.node_shared.specs.Journal.{entry}
use Rattle.node_shared.specs.Records.{RecordState}
use Rattle.ets_packets.specs.Traffic.{Flow}
use Rattle.ets_script.specs.Lines.{Line, IsCutInto}
use Rattle.ets_script.specs.Plan.{PlanState, empty_plan, lines_plan}
use Rattle.ets_script.specs.Threads.{IsUnclosed, RunsJobs, steps_done}
use Rattle.ets_script.specs.declared.fault.ScriptFault.{ScriptFault}
use Rattle.ets_script.specs.declared.fault.ScriptFault.TheVariants.{Read, Write, Memory, Differs, Missing}
use Rattle.ets_script.specs.declared.plan.PlannedAnswers.{PlannedAnswers}
use Rattle.ets_script.specs.declared.processes.RunResult.{RunResult}

-- the seats draw numbers of this word
abbrev pub AreSeatsOf : Pids → List Seat → Type 0
AreSeatsOf pids seats = All (λ s. s.seat.table_id ≡ pids.table.shared.table_id) seats

-- a new client of a process: its record has only the enrolment
abbrev pub IsNew : ℕ → RecordState → Type 0
IsNew p client = (r : Reply) × (client ≡ record { pid = p; entries = entry (Enrol p) r ∷ [] })

-- from process p on, each has a client and its jobs
abbrev pub AreEnrolled : ℕ → List (List Job) → List (RecordState × Vec Job Global) → Type 0
AreEnrolled p [] [] = Unit {0}
AreEnrolled p (jobs ∷ others) (x ∷ xs) = IsNew p x.0 × (x.1.items ≡ jobs) × AreEnrolled (suc p) others xs
AreEnrolled p [] (x ∷ xs) = ⊥
AreEnrolled p (jobs ∷ others) [] = ⊥

-- a process ran its jobs, in order, without the last n
abbrev pub DidJobs : ℕ → List Job → RecordState → ℕ → Type 0
DidJobs p jobs client n =
    (client.pid ≡ p) × (n ≤ length jobs) × (map (λ e. e.step) client.entries ≡ steps_done p jobs n)

-- from process p on, each process ran its jobs in this way
abbrev pub HaveRun : ℕ → List (List Job) → List RecordState → List ℕ → Type 0
HaveRun p [] [] [] = Unit {0}
HaveRun p (jobs ∷ others) (client ∷ clients) (n ∷ left) =
    DidJobs p jobs client n × HaveRun (suc p) others clients left
HaveRun p [] [] (n ∷ left) = ⊥
HaveRun p [] (client ∷ clients) left = ⊥
HaveRun p (jobs ∷ others) [] left = ⊥
HaveRun p (jobs ∷ others) (client ∷ clients) [] = ⊥

-- the reasons for which a script stops before anything is printed
abbrev pub StopsBeforeOutput : Limits → ScriptFault → Type 0
StopsBeforeOutput limits Read = ⊤
StopsBeforeOutput limits Write = ⊥
StopsBeforeOutput limits Memory = ⊤
StopsBeforeOutput limits (Differs p) = IsUnclosed limits (close.Differs p)
StopsBeforeOutput limits (Missing p) = IsUnclosed limits (close.Missing p)

-- a whole script was read, and the jobs of its processes were run
pub record RunsInput (limits : Limits) (reader : Flow) (planned : PlannedAnswers) (run : RunResult) : Type 0 where
  pub input : List ℕ
  pub lines : List Line
  pub plan : PlanState
  pub consumed : Consumes reader.before reader.after input
  pub end : IsAtEnd reader.after
  pub cut : IsCutInto input lines
  pub plans : plan ≡ lines_plan (min limits.processes MAX_PIDS) lines empty_plan
  pub answers : planned.answers ≡ plan.answers
  pub names : planned.names ≡ plan.names
  pub runs : RunsJobs limits plan.jobs run.entries.items run.left.items
  pub named : length run.left.items ≤ length planned.names
