-- The states of a book, of a share and of a client, and how they change.
use Rattle.std.specs.Prelude.{◌≡◌, ℕ, Bool, true, List, [], ◌∷◌, ◌++◌, None}
use Rattle.std.specs.Bool.{MatchBool}
use Rattle.std.specs.Option.{IsSomeAnd}
use Rattle.node_core.specs.declared.step.Step.{Step}
use Rattle.node_core.specs.declared.step.Step.TheVariants.{Enrol}
use Rattle.node_core.specs.declared.step.Reply.{Reply}
use Rattle.node_core.specs.State.{State}
use Rattle.node_core.specs.Pending.{due}
use Rattle.node_core.specs.Values.{is_value}
use Rattle.node_shared.specs.declared.entry.Entry.{Entry}
use Rattle.node_shared.specs.Journal.{entry, TakesStep}

-- the node's state, the journal, and the ledger's total
pub record BookState : Type 0 where
  pub state : State
  pub journal : List Entry
  pub total : ℕ

-- the node runs the step with this reply, and its entry is the last of the journal
abbrev pub Enters : BookState → Step → Reply → BookState → Type 0
Enters old s r new = TakesStep old.state s r new.state × (new.journal ≡ old.journal ++ entry s r ∷ [])

-- the pending growth step is run, and its entry is the last of the journal; or none is pending, and nothing changes
abbrev pub Tends : BookState → BookState → Bool → Type 0
Tends old new did =
    MatchBool did
    (IsSomeAnd (due old.state) (λ event. (r : Reply) × Enters old event r new))
    ((due old.state ≡ None) × (new ≡ old))

-- a process, and the number of entries that are counted for it
pub record ShareState : Type 0 where
  pub pid : ℕ
  pub amount : ℕ

-- a process, and its record: the steps that its client ran, with the replies that it got
pub record RecordState : Type 0 where
  pub pid : ℕ
  pub entries : List Entry

-- the record of a process that was enrolled with this reply, and did nothing else
abbrev pub enrolled_record : ℕ → Reply → RecordState
enrolled_record p r = record { pid = p; entries = entry (Enrol p) r ∷ [] }

-- a new client of p: its record has only the enrolment, whose reply is not a refusal
abbrev pub IsEnrolled : ℕ → RecordState → Type 0
IsEnrolled p client = (r : Reply) × (is_value r ≡ true) × (client ≡ enrolled_record p r)

-- the record with one more entry
abbrev pub with_entry : RecordState → Step → Reply → RecordState
with_entry client s r = record client { entries = client.entries ++ entry s r ∷ [] }

-- the first entry is the enrolment of p
abbrev pub Begins : ℕ → List Entry → Type 0
Begins p [] = ⊥
Begins p (e ∷ es) = e.step ≡ Enrol p
