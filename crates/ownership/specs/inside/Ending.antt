-- Messages posted table by table, and tables reassigned one by one.
use Rattle.std.specs.Prelude.{◌≡◌, ℕ, List, [], ◌∷◌, Option, Some, None, map}
use Rattle.std.specs.Option.{option_map_or}
use Rattle.ets_term.specs.declared.term.Term.{Term}
use Rattle.ownership.specs.World.{Table, Tables, Processes, table_at}
use Rattle.ownership.specs.Messages.{push_message, push_messages}
use Rattle.ownership.specs.End.{message_of}
use Rattle.ownership.specs.inside.Indices.{IsAmong}

-- the processes after a message, if there is one
abbrev pub after_message : Processes → Option (ℕ × Term) → Processes
after_message processes None = processes
after_message processes (Some message) = push_message processes message.0 message.1

-- the processes after the transfer message of the table with this identifier
abbrev pub after_transfer_of : Processes → ℕ → Tables → ℕ → Processes
after_transfer_of processes p tables t = after_message processes (message_of processes p t (table_at tables t))

-- the transfer messages of these tables
abbrev pub messages_at : Processes → ℕ → (ℕ → Option Table) → List ℕ → List (ℕ × Term)
messages_at processes p at [] = []
messages_at processes p at (t ∷ ids) =
    option_map_or (λ message. message ∷ messages_at processes p at ids)
    (message_of processes p t (at t)) (messages_at processes p at ids)

abbrev pub after_transfers : Processes → ℕ → Tables → List ℕ → Processes
after_transfers processes p tables ids = push_messages processes (messages_at processes p (table_at tables) ids)

-- the end of the process leaves the table at a place as it is
abbrev pub IsReassigned : (Option Table → Option Table) → Tables → ℕ → Type 0
IsReassigned after tables t = after (table_at tables t) ≡ table_at tables t

-- These tables are reassigned, and tables reassigned before stay so. The tables after the whole end are the same.
pub record ReassignsTables (after : Option Table → Option Table) (ids : List ℕ)
    (old new : Tables) : Type 0 where
  pub same : map after new ≡ map after old
  pub here : (t : ℕ) → IsAmong t ids → IsReassigned after new t
  pub there : (t : ℕ) → IsReassigned after old t → IsReassigned after new t
