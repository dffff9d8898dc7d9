-- The output of a script whose processes run in threads of their own.
use Rattle.std.specs.Prelude.{◌≡◌, ◌⊎◌, ℕ, zero, suc, ◌-◌, ◌≤◌, ◌<◌, true, List, [], ◌∷◌, ◌++◌, map, flat_map, take, length, Option, Some, None, Err, slice_index_or, codes, min}
use Rattle.std.specs.Io.KnownBytes.{Appends, Consumes, IsAtEnd}
use Rattle.node_core.specs.declared.limits.Limits.{Limits}
use Rattle.node_core.specs.declared.step.Step.{Step}
use Rattle.node_core.specs.declared.step.Step.TheVariants.{Enrol}
use Rattle.node_core.specs.declared.step.Reply.{Reply}
use Rattle.node_core.specs.State.{State}
use Rattle.node_shared.specs.declared.entry.Entry.{Entry}
use Rattle.node_shared.specs.declared.job.Job.{Job}
use Rattle.node_shared.specs.declared.pids.TheConstants.{MAX_PIDS}
use Rattle.node_shared.specs.declared.transcript.CloseFault.{CloseFault}
use Rattle.node_shared.specs.declared.transcript.CloseFault.TheVariants as close
use Rattle.node_shared.specs.Closing.{Closes}
use Rattle.node_shared.specs.Journal.{IsRun, entries_of, has_entries, process_of}
use Rattle.node_shared.specs.Records.{RecordState}
use Rattle.node_shared.specs.Working.{job_step}
use Rattle.ets_packets.specs.Traffic.{Traffic}
use Rattle.ets_script.specs.Lines.{Line, IsCutInto}
use Rattle.ets_script.specs.Plan.{PlanState, empty_plan, lines_plan}
use Rattle.ets_script.specs.Replies.{answer_text, reply_text}
use Rattle.ets_script.specs.Stops.{usual}
use Rattle.ets_script.specs.declared.answer.Answer.{Answer}
use Rattle.ets_script.specs.declared.fault.ScriptFault.{ScriptFault}
use Rattle.ets_script.specs.declared.fault.ScriptFault.TheVariants.{Read, Write, Memory, Differs, Missing}

-- a line of the output: the name, a space, and what follows
abbrev pub line_of : List ℕ → List ℕ → List ℕ
line_of name text = name ++ (codes " " ++ (text ++ codes "\n"))

-- the line of a process's reply; a growth step is not of a process, and has no line
abbrev pub own_text : List (List ℕ) → Option ℕ → Reply → List ℕ
own_text names None r = []
own_text names (Some p) r = line_of (slice_index_or names p []) (reply_text r)

-- the line of an entry
abbrev pub entry_text : List (List ℕ) → Entry → List ℕ
entry_text names e = own_text names (process_of e.step) e.reply

-- the lines of the processes that ran out of memory: those, in order, that did not run all their jobs
abbrev pub stopped_text : List (List ℕ) → List ℕ → List ℕ
stopped_text (name ∷ names) (zero ∷ left) = stopped_text names left
stopped_text (name ∷ names) (suc n ∷ left) = line_of name (codes "** nomem") ++ stopped_text names left
stopped_text names left = []

-- the output: the planned answers, the replies of the processes in the order of the journal, and the processes that
-- stopped
abbrev pub threads_text : List Answer → List (List ℕ) → List Entry → List ℕ → List ℕ
threads_text answers names done left =
    flat_map answer_text answers ++ (flat_map (entry_text names) done ++ stopped_text names left)

-- the steps of a process that is enrolled and then runs its jobs, in order, without the last n
abbrev pub steps_done : ℕ → List Job → ℕ → List Step
steps_done p jobs n = Enrol p ∷ map (job_step p) (take (length jobs - n) jobs)

-- From process p on, each is enrolled and then runs its jobs, in order, without the last ones, whose number is in the
-- last list.
abbrev pub AreDone : List Entry → ℕ → List (List Job) → List ℕ → Type 0
AreDone done p [] [] = Unit {0}
AreDone done p (jobs ∷ others) (n ∷ left) =
    (n ≤ length jobs) × (map (λ e. e.step) (entries_of p done) ≡ steps_done p jobs n) × AreDone done (suc p) others left
AreDone done p [] (n ∷ left) = ⊥
AreDone done p (jobs ∷ others) [] = ⊥

-- The journal is a run of the node from its empty state, in which each process runs its jobs, without the last `left`
-- of them, and no other process has entries.
pub record RunsJobs (limits : Limits) (jobs : List (List Job)) (done : List Entry) (left : List ℕ) : Type 0 where
  pub end : State
  pub run : IsRun limits done end
  pub each : AreDone done 0 jobs left
  pub no_others : (p : ℕ) → has_entries p done ≡ true → p < length jobs

-- The input's lines are planned, and the jobs of the processes are run in one run of a node. The output is the planned
-- answers and then that run.
pub record ThreadsText (limits : Limits) (input output : List ℕ) : Type 0 where
  pub lines : List Line
  pub plan : PlanState
  pub done : List Entry
  pub left : List ℕ
  pub cut : IsCutInto input lines
  pub planned : plan ≡ lines_plan (min limits.processes MAX_PIDS) lines empty_plan
  pub runs : RunsJobs limits plan.jobs done left
  pub prints : output ≡ threads_text plan.answers plan.names done left

-- a whole script was read, to the end of the input, and all of its output was written
abbrev pub ThreadsEnd : Limits → Traffic → Type 0
ThreadsEnd limits streams =
    (input : List ℕ) × (output : List ℕ)
    × Consumes streams.reader.before streams.reader.after input × IsAtEnd streams.reader.after
    × Appends streams.writer.before streams.writer.after output × ThreadsText limits input output

-- the comparison of the journal of some run of a node with the records of some clients gives this fault
abbrev pub IsUnclosed : Limits → CloseFault → Type 0
IsUnclosed limits fault = (clients : List RecordState) × Closes limits clients (Err fault)

-- After a write fault, a prefix of the output of a whole script was written. After any other fault, nothing was
-- written. `Differs` and `Missing` are the faults only if the comparison of a journal with the records of clients gives
-- them.
abbrev pub ThreadsStop : Limits → Traffic → ScriptFault → Type 0
ThreadsStop limits streams Write =
    (input : List ℕ) × (output : List ℕ) × (unsent : List ℕ)
    × Consumes streams.reader.before streams.reader.after input × IsAtEnd streams.reader.after
    × Appends streams.writer.before streams.writer.after output × ThreadsText limits input (output ++ unsent)
ThreadsStop limits streams Read = Appends streams.writer.before streams.writer.after []
ThreadsStop limits streams Memory = Appends streams.writer.before streams.writer.after []
ThreadsStop limits streams (Differs p) =
    Appends streams.writer.before streams.writer.after [] × IsUnclosed limits (close.Differs p)
ThreadsStop limits streams (Missing p) =
    Appends streams.writer.before streams.writer.after [] × IsUnclosed limits (close.Missing p)

-- the program's status: 0 after a whole script, else 1
abbrev pub ThreadsStatus : Limits → Traffic → ℕ → Type 0
ThreadsStatus limits streams status =
    ((status ≡ 0) × ThreadsEnd limits streams)
    ⊎ ((status ≡ 1) × (fault : ScriptFault) × ThreadsStop limits streams fault)

-- the same with the usual limits, but this limit of objects in one table
abbrev pub ProgramThreads : ℕ → Traffic → ℕ → Type 0
ProgramThreads objects = ThreadsStatus (usual objects)
