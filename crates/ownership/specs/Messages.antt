-- Mailboxes and the transfer message (stdlib manual, module ets, give_away/3 and the option heir of new/2).
use Rattle.std.specs.Prelude.{ℕ, ◌==◌, ◌++◌, Bool, if◌then◌else◌, List, [], ◌∷◌, codes}
use Rattle.std.specs.Option.{option_map_or}
use Rattle.std.specs.Map.{set_value}
use Rattle.ets_term.specs.declared.term.Term.{Term}
use Rattle.ets_term.specs.declared.term.Term.TheVariants.{Atom, Pid, Tid, Tuple}
use Rattle.ownership.specs.declared.metadata.Metadata.{Metadata}
use Rattle.ownership.specs.declared.process.Process.{Process}
use Rattle.ownership.specs.World.{Processes, process_at}

-- the answer of `new`: the name of a named table, else the identifier
abbrev pub name_or_identifier : Bool → List ℕ → ℕ → Term
name_or_identifier named name t = if named then Atom name else Tid t

-- the transfer message of a table: its name or identifier, the previous owner, and the gift
abbrev pub transfer_message : Metadata → ℕ → ℕ → Term → Term
transfer_message metadata t from gift =
    Tuple (Atom (codes "ETS-TRANSFER") ∷ name_or_identifier metadata.named metadata.name t ∷ Pid from ∷ gift ∷ [])

-- the process with one more message, which is the newest
abbrev pub with_message : Process → Term → Process
with_message process message = record process { mailbox = process.mailbox ++ message ∷ [] }

-- the processes after a message is posted to one of them; nothing changes if it was never enrolled
abbrev pub push_message : Processes → ℕ → Term → Processes
push_message processes p message =
    option_map_or (λ process. set_value (λ q. p == q) processes (with_message process message))
    (process_at processes p) processes

-- the processes after several messages are posted in order, each with the number of its receiver
abbrev pub push_messages : Processes → List (ℕ × Term) → Processes
push_messages processes [] = processes
push_messages processes (message ∷ messages) = push_messages (push_message processes message.0 message.1) messages

-- the messages that a process has not yet received, oldest first
abbrev pub mailbox_of : Processes → ℕ → List Term
mailbox_of processes p = option_map_or (λ process. process.mailbox) (process_at processes p) []

-- the processes after one has received its messages
abbrev pub after_receive : Processes → ℕ → Processes
after_receive processes p =
    option_map_or (λ process. set_value (λ q. p == q) processes (record process { mailbox = [] }))
    (process_at processes p) processes
