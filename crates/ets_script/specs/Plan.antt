-- The plan of the lines of a script, before any of its steps is run, if each process is to run in a thread of its own.
use Rattle.std.specs.Prelude.{ℕ, nat_le, if◌then◌else◌, List, [], ◌∷◌, ◌++◌, length, Option, Some, None, position, slice_set, slice_index_or}
use Rattle.std.specs.Str.{bytes_eq}
use Rattle.node_core.specs.declared.step.Reply.TheVariants.{Badarg, SystemLimit, NoProcess}
use Rattle.ets_script.specs.Lines.{Line, text, too_long}
use Rattle.ets_script.specs.Commands.{Command, faulty, spawn, exit, ask, grow, ready, command, is_silent}
use Rattle.ets_script.specs.declared.answer.Answer.{Answer}
use Rattle.ets_script.specs.declared.answer.Answer.TheVariants.{Replied, Syntax, TooLong}
use Rattle.node_shared.specs.declared.job.Job.{Job}
use Rattle.node_shared.specs.declared.job.Job.TheVariants as job

-- A plan: the answers that are known before any step is run, in the order of their lines; the names that are spawned,
-- in the order of the numbers of their processes, from 0; and the jobs of each process, in the order of its lines.
pub record PlanState : Type 0 where
  pub answers : List Answer
  pub names : List (List ℕ)
  pub jobs : List (List Job)

-- the plan of no lines
abbrev pub empty_plan : PlanState
empty_plan = record { answers = []; names = []; jobs = [] }

-- the number of the process with this name
abbrev pub index_of : PlanState → List ℕ → Option ℕ
index_of plan name = position (bytes_eq name) plan.names

-- one more planned answer
abbrev pub add_answer : Answer → PlanState → PlanState
add_answer answer plan = record plan { answers = plan.answers ++ answer ∷ [] }

-- the jobs of each process, with one more for process p, after its other jobs
abbrev pub jobs_with : ℕ → Job → List (List Job) → List (List Job)
jobs_with p job jobs = slice_set jobs p (slice_index_or jobs p [] ++ job ∷ [])

-- one more job for a process; for a name that was not spawned, one more planned answer
abbrev pub add_job_for : Option ℕ → Job → PlanState → PlanState
add_job_for None job plan = add_answer (Replied NoProcess) plan
add_job_for (Some p) job plan = record plan { jobs = jobs_with p job plan.jobs }

-- one more name; or a refusal, if the name is already spawned, or there is the greatest number of names
abbrev pub add_spawn : ℕ → Option ℕ → List ℕ → PlanState → PlanState
add_spawn max_names (Some p) name plan = add_answer (Replied Badarg) plan
add_spawn max_names None name plan =
    if nat_le max_names (length plan.names) then add_answer (Replied SystemLimit) plan
    else record plan { names = plan.names ++ name ∷ []; jobs = plan.jobs ++ [] ∷ [] }

-- what a command adds to the plan; growth steps are not planned
abbrev pub add_command : ℕ → Command → PlanState → PlanState
add_command max_names (faulty at) plan = add_answer (Syntax at) plan
add_command max_names (spawn name) plan = add_spawn max_names (index_of plan name) name plan
add_command max_names (exit name) plan = add_job_for (index_of plan name) job.End plan
add_command max_names (ask name word terms) plan =
    add_job_for (index_of plan name) (job.Ask (record { name = word; args = terms })) plan
add_command max_names (grow t) plan = plan
add_command max_names (ready t bucket) plan = plan

-- what a line adds to the plan
abbrev pub line_plan : ℕ → Line → PlanState → PlanState
line_plan max_names (text t) plan = if is_silent t then plan else add_command max_names (command t) plan
line_plan max_names too_long plan = add_answer TooLong plan

-- what these lines add to the plan, in order
abbrev pub lines_plan : ℕ → List Line → PlanState → PlanState
lines_plan max_names [] plan = plan
lines_plan max_names (line ∷ lines) plan = lines_plan max_names lines (line_plan max_names line plan)
