-- The states of a served node and of a caller, and what holds of each reply.
use Rattle.std.specs.Prelude.{◌≡◌, ℕ, List, [], ◌∷◌, ◌++◌, Option}
use mathlib.Core.List.{IsPrefix}
use Rattle.std.specs.List.{AllZip}
use Rattle.node_core.specs.declared.limits.Limits.{Limits}
use Rattle.node_core.specs.declared.step.Step.{Step}
use Rattle.node_core.specs.declared.step.Step.TheVariants.{Enrol}
use Rattle.node_core.specs.declared.step.Call.{Call}
use Rattle.node_core.specs.declared.step.Reply.{Reply}
use Rattle.node_core.specs.declared.step.Reply.TheVariants.{Value}
use Rattle.ets_term.specs.declared.term.Term.TheVariants.{Pid}
use Rattle.node_core.specs.State.{State}
use Rattle.node_core.specs.Observable.{observable}
use Rattle.node_core.specs.Reads.{Reads}
use Rattle.node_shared.specs.declared.entry.Entry.{Entry}
use Rattle.node_shared.specs.Journal.{entry, IsRun, entries_of}
use Rattle.node_shared.specs.Records.{RecordState}
use Rattle.node_shared.specs.Running.{IsEnrolRefusal}

-- a state, and the steps with their replies that led to it
pub record ServedState : Type 0 where
  pub state : State
  pub history : List Entry

-- a run of a node with these limits has these entries, and this is the result of reading in the state after it
abbrev pub AnswersRead : Limits → List Entry → ℕ → Call → Option Reply → Type 0
AnswersRead limits entries p asked answer =
    (state : State) × IsRun limits entries state × Reads (observable state) p asked answer

-- each answer is the result of reading by the call of the same index, in this state
abbrev pub AreRead : State → ℕ → List Call → List (Option Reply) → Type 0
AreRead s p calls answers = AllZip (Reads s p) calls answers

-- the same as AnswersRead, for several calls in one state
abbrev pub AnswersReads : Limits → List Entry → ℕ → List Call → List (Option Reply) → Type 0
AnswersReads limits entries p calls answers =
    (state : State) × IsRun limits entries state × AreRead (observable state) p calls answers

-- this refusal to enrol p ends some run of a node with these limits
abbrev pub RefusesCaller : Limits → ℕ → Reply → Type 0
RefusesCaller limits p r =
    IsEnrolRefusal r × (before : List Entry) × (state : State) × IsRun limits (before ++ entry (Enrol p) r ∷ []) state

-- a caller's own record, and the entries of the server's history that it saw
pub record CallerState : Type 0 where
  pub own : RecordState
  pub seen : List Entry

-- The caller saw more: all that it saw before, perhaps with further entries. Those of its process are exactly its record.
pub record SeesMore (old new : CallerState) : Type 0 where
  pub own : new.own ≡ old.own
  pub saw : IsPrefix old.seen new.seen
  pub exact : entries_of old.own.pid new.seen ≡ old.own.entries

-- The caller added these entries, one right after another, at the end of a run of a node with these limits. The entries
-- before them begin with all that the caller saw, and those of its process among them are exactly its record. Its
-- record has the added entries too.
pub record Continues (limits : Limits) (old : CallerState) (added : List Entry) (new : CallerState) : Type 0 where
  pub own : new.own ≡ record { pid = old.own.pid; entries = old.own.entries ++ added }
  pub before : List Entry
  pub saw : IsPrefix old.seen before
  pub exact : entries_of old.own.pid before ≡ old.own.entries
  pub last : new.seen ≡ before ++ added
  pub state : State
  pub run : IsRun limits new.seen state

-- the same of one step with its reply
abbrev pub ContinuesBy : Limits → CallerState → Step → Reply → CallerState → Type 0
ContinuesBy limits old s r new = Continues limits old (entry s r ∷ []) new

-- a process that was not enrolled yet, and saw nothing
abbrev pub no_caller : ℕ → CallerState
no_caller p = record { own = record { pid = p; entries = [] }; seen = [] }

-- a new caller of p: it saw its enrolment, after entries of other processes
abbrev pub IsEnrolledCaller : Limits → ℕ → CallerState → Type 0
IsEnrolledCaller limits p caller = ContinuesBy limits (no_caller p) (Enrol p) (Value (Pid p)) caller
