-- The end: each client's record is its part of the journal, and no process with entries is without a client.
use Rattle.std.specs.Prelude.{◌≡◌, ◌≤◌, ◌<◌, ℕ, ◌==◌, Bool, true, false, List, take, length, get_or, Result, Ok, Err}
use Rattle.std.specs.List.{AllByRecursion, list_any}
use Rattle.node_core.specs.declared.limits.Limits.{Limits}
use Rattle.node_core.specs.State.{State}
use Rattle.node_shared.specs.declared.entry.Entry.{Entry}
use Rattle.node_shared.specs.declared.transcript.Transcript.{Transcript}
use Rattle.node_shared.specs.declared.transcript.CloseFault.{CloseFault}
use Rattle.node_shared.specs.declared.transcript.CloseFault.TheVariants.{Differs, Missing, Memory}
use Rattle.node_shared.specs.Journal.{IsRun, entries_of, has_entries}
use Rattle.node_shared.specs.Records.{RecordState}

-- the record is the client's part of the journal
abbrev pub IsPart : List Entry → RecordState → Type 0
IsPart journal client = entries_of client.pid journal ≡ client.entries

-- each record is its client's part of the journal
abbrev pub AreParts : List Entry → List RecordState → Type 0
AreParts journal clients = AllByRecursion (IsPart journal) clients

-- whether one of the clients acts for the process p
abbrev pub has_client : ℕ → List RecordState → Bool
has_client p clients = list_any (λ client. client.pid == p) clients

-- each process that has entries has a client
abbrev pub NoneMissing : List Entry → List RecordState → Type 0
NoneMissing journal clients = (q : ℕ) → has_entries q journal ≡ true → has_client q clients ≡ true

-- p is the process of the first client whose record is not its part of the journal
pub record IsFirstMismatch (journal : List Entry) (clients : List RecordState) (p : ℕ) : Type 0 where
  pub place : ℕ
  pub client : RecordState
  pub inside : place < length clients
  pub here : get_or clients place client ≡ client
  pub before : AreParts journal (take place clients)
  pub other : ¬ IsPart journal client
  pub pid : client.pid ≡ p

-- p is the lowest process that has entries and no client
pub record IsLeastMissing (journal : List Entry) (clients : List RecordState) (p : ℕ) : Type 0 where
  pub entries : has_entries p journal ≡ true
  pub none : has_client p clients ≡ false
  pub least : (q : ℕ) → has_entries q journal ≡ true → has_client q clients ≡ false → p ≤ q

-- the result of the comparison of the journal with the clients' records
abbrev pub Compares : List Entry → List RecordState → Result Transcript CloseFault → Type 0
Compares journal clients (Ok transcript) =
    (transcript.entries.items ≡ journal) × AreParts journal clients × NoneMissing journal clients
Compares journal clients (Err (Differs p)) = IsFirstMismatch journal clients p
Compares journal clients (Err (Missing p)) = AreParts journal clients × IsLeastMissing journal clients p
Compares journal clients (Err Memory) = Unit {0}

-- the result is that of a comparison: memory did not run out
abbrev pub IsDecided : Result Transcript CloseFault → Type 0
IsDecided (Ok transcript) = Unit {0}
IsDecided (Err (Differs p)) = Unit {0}
IsDecided (Err (Missing p)) = Unit {0}
IsDecided (Err Memory) = ⊥

-- the result of closing: that of the comparison with some journal, which is a run of a node with these limits
abbrev pub Closes : Limits → List RecordState → Result Transcript CloseFault → Type 0
Closes limits clients result =
    (journal : List Entry) × (state : State) × IsRun limits journal state × Compares journal clients result
