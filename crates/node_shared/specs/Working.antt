-- The entries of a client's jobs in its record.
use Rattle.std.specs.Prelude.{◌≡◌, ℕ, ◌≤◌, ◌-◌, List, ◌++◌, map, take, length}
use Rattle.std.specs.List.{AllZip}
use Rattle.std.specs.declared.vec.Vec.{Vec}
use Rattle.std.specs.declared.alloc.Global.{Global}
use Rattle.node_core.specs.declared.step.Step.{Step}
use Rattle.node_core.specs.declared.step.Step.TheVariants as step
use Rattle.node_shared.specs.declared.entry.Entry.{Entry}
use Rattle.node_shared.specs.declared.job.Job.{Job}
use Rattle.node_shared.specs.declared.job.Job.TheVariants.{Ask, End}
use Rattle.node_shared.specs.declared.job.Worked.{Worked}
use Rattle.node_shared.specs.Records.{RecordState}

-- a job as a step of a process
abbrev pub job_step : ℕ → Job → Step
job_step p (Ask call) = step.Ask p call
job_step p End = step.End p

-- these entries are those of the jobs of a process, in order, without the last `left` jobs
abbrev pub AreOfJobs : ℕ → List Job → ℕ → List Entry → Type 0
AreOfJobs p jobs left done = map (λ e. e.step) done ≡ map (job_step p) (take (length jobs - left) jobs)

-- the record has further entries: those of all jobs but the last `left`
abbrev pub DidAll : RecordState → List Job → ℕ → RecordState → Type 0
DidAll old jobs left new =
    (left ≤ length jobs)
    × ((done : List Entry) × (new ≡ record old { entries = old.entries ++ done }) × AreOfJobs old.pid jobs left done)

-- the finished client ran all its jobs but those that are left
abbrev pub HasWorked : {T : Type 0} → RecordState → List Job → Worked T → Type 0
HasWorked old jobs worked = DidAll old jobs worked.left worked.client

-- each client, in their order, ran its jobs
abbrev pub AllWorked : {T : Type 0} → List (RecordState × Vec Job Global) → List (Worked T) → Type 0
AllWorked xs ws = AllZip (λ x w. HasWorked x.0 x.1.items w) xs ws
