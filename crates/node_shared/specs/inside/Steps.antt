-- What private contracts say of the steps of a server, a book or a client, and of their number.
use Rattle.std.specs.Prelude.{◌≡◌, ℕ, ◌^◌, ◌-◌, Bool, List, [], ◌∷◌, ◌++◌, None, length, min}
use Rattle.std.specs.Bool.{MatchBool}
use Rattle.std.specs.Option.{IsSomeAnd}
use Rattle.node_core.specs.declared.step.Step.{Step}
use Rattle.node_core.specs.declared.step.Reply.{Reply}
use Rattle.node_core.specs.Pending.{due}
use Rattle.node_shared.specs.declared.entry.Entry.{Entry}
use Rattle.node_shared.specs.declared.job.Job.{Job}
use Rattle.node_shared.specs.Journal.{entry, TakesStep}
use Rattle.node_shared.specs.Records.{BookState, Enters, RecordState, with_entry}
use Rattle.node_shared.specs.Serving.{ServedState}
use Rattle.node_shared.specs.Working.{job_step}

-- the node runs the step with this reply, and its entry is the last of the history
abbrev pub ServesStep : ServedState → Step → Reply → ServedState → Type 0
ServesStep old s r new = TakesStep old.state s r new.state × (new.history ≡ old.history ++ entry s r ∷ [])

-- the pending growth step is run, and its entry is the last of the history; or none is pending, and nothing changes
abbrev pub ServesGrowth : ServedState → ServedState → Bool → Type 0
ServesGrowth old new did =
    MatchBool did
    (IsSomeAnd (due old.state) (λ event. (r : Reply) × ServesStep old event r new))
    ((due old.state ≡ None) × (new ≡ old))

-- the pending growth step is run, and its entry is the last of the history; or nothing changes
abbrev pub TriesServingGrowth : ServedState → ServedState → Bool → Type 0
TriesServingGrowth old new did =
    MatchBool did
    (IsSomeAnd (due old.state) (λ event. (r : Reply) × ServesStep old event r new))
    (new ≡ old)

-- the number of these entries, at most the greatest `u64`
abbrev pub entry_count : List Entry → ℕ
entry_count entries = min (length entries) (2 ^ 64 - 1)

-- the pending growth step is run, and its entry is the last of the journal; or nothing changes
abbrev pub TriesGrowth : BookState → BookState → Bool → Type 0
TriesGrowth old new did =
    MatchBool did
    (IsSomeAnd (due old.state) (λ event. (r : Reply) × Enters old event r new))
    (new ≡ old)

-- the last entry has this reply
abbrev pub IsLast : List Entry → Reply → Type 0
IsLast entries r = (before : List Entry) × (s : Step) × (entries ≡ before ++ entry s r ∷ [])

-- the record has one entry more, that of the job
abbrev pub DidJob : RecordState → Job → RecordState → Type 0
DidJob old job new = (r : Reply) × (new ≡ with_entry old (job_step old.pid job) r)
