-- What was found so far in the comparison of the journal with the records.
use Rattle.std.specs.Prelude.{ℕ, List, [], ◌∷◌, ◌++◌, Option, Some, None}
use Rattle.node_shared.specs.declared.entry.Entry.{Entry}
use Rattle.node_shared.specs.Records.{RecordState}
use Rattle.node_shared.specs.Closing.{AreParts, IsFirstMismatch, NoneMissing, IsLeastMissing}

-- the process of the first client whose record differs, if any
abbrev pub FindsMismatch : List Entry → List RecordState → Option ℕ → Type 0
FindsMismatch journal clients None = AreParts journal clients
FindsMismatch journal clients (Some p) = IsFirstMismatch journal clients p

-- the lowest process without a client, if any
abbrev pub FindsMissing : List Entry → List RecordState → Option ℕ → Type 0
FindsMissing journal clients None = NoneMissing journal clients
FindsMissing journal clients (Some p) = IsLeastMissing journal clients p

-- if `found` is the lowest process without a client in a journal, then `next` is that with this further entry
abbrev pub FindsMissingNext : Entry → List RecordState → Option ℕ → Option ℕ → Type 0
FindsMissingNext e clients found next =
    (journal : List Entry) → FindsMissing journal clients found → FindsMissing (journal ++ e ∷ []) clients next
