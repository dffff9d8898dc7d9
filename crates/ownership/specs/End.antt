-- The end of a process (stdlib manual, module ets, the introduction and the option heir of new/2).
use Rattle.std.specs.Prelude.{ℕ, ◌==◌, not, false, suc, if◌then◌else◌, List, [], ◌∷◌, Option, Some, None, map, option_map, Result, Ok, Err}
use Rattle.std.specs.Option.{option_and_then, option_map_or}
use Rattle.std.specs.Map.{set_value}
use Rattle.ets_term.specs.declared.term.Term.{Term}
use Rattle.table_ops.specs.Outcomes.{Outcome, gives, refuse}
use Rattle.fixed_walk.specs.TableState.{after_release_all}
use Rattle.ownership.specs.declared.fault.WorldFault.{WorldFault}
use Rattle.ownership.specs.declared.fault.WorldFault.TheVariants.{NoProcess}
use Rattle.ownership.specs.declared.metadata.Metadata.{Metadata}
use Rattle.ownership.specs.declared.metadata.Heir.{Heir}
use Rattle.ownership.specs.World.{Table, Tables, Processes, World, lives}
use Rattle.ownership.specs.Access.{is_owner}
use Rattle.ownership.specs.Messages.{transfer_message, push_messages}
use Rattle.ownership.specs.Tables.{with_owner}

-- the processes after the end of one of them: it does not live, and its mailbox is empty
abbrev pub with_ended : Processes → ℕ → Processes
with_ended processes p = set_value (λ q. p == q) processes (record { lives = false; mailbox = [] })

-- the heir of a table, None if it has no heir or the heir does not live
abbrev pub living_heir : Processes → Metadata → Option Heir
living_heir processes metadata =
    option_and_then (λ heir. if lives processes heir.pid then Some heir else None) metadata.heir

-- a table after the fixes of a process are released; its tombstones are removed if no other process fixes it
abbrev pub without_fixes : ℕ → Table → Table
without_fixes p table = record table { state = after_release_all p table.state }

-- a table after the end of a process, whose fixes are released; if the process owned the table, the table passes to its
-- heir, or is deleted (None) if no heir lives
abbrev pub table_after_exit : Processes → ℕ → Option Table → Option Table
table_after_exit processes p None = None
table_after_exit processes p (Some table) =
    if is_owner table.metadata p
    then option_map (λ heir. with_owner heir.pid (without_fixes p table)) (living_heir processes table.metadata)
    else Some (without_fixes p table)

-- the heir that gets the table when the process ends; None if the process does not own it or no heir lives
abbrev pub receiver_of : Processes → ℕ → Table → Option Heir
receiver_of processes p table =
    if is_owner table.metadata p then living_heir processes table.metadata else None

-- the transfer message of a table, with the number of its receiver
abbrev pub message_of : Processes → ℕ → ℕ → Option Table → Option (ℕ × Term)
message_of processes p t None = None
message_of processes p t (Some table) =
    option_map (λ heir. (heir.pid, transfer_message table.metadata t p heir.gift))
    (receiver_of processes p table)

-- the transfer messages of the tables from this identifier on, in order of creation
abbrev pub messages_from : Processes → ℕ → ℕ → Tables → List (ℕ × Term)
messages_from processes p t [] = []
messages_from processes p t (table ∷ tables) =
    option_map_or (λ message. message ∷ messages_from processes p (suc t) tables)
    (message_of processes p t table) (messages_from processes p (suc t) tables)

-- the world after the end of a process: the heirs of its tables get messages, and the tables are passed on or deleted;
-- `processes` are the processes after the end, before these messages
abbrev pub after_exit : World → Processes → ℕ → World
after_exit w processes p =
    record w {
      processes = push_messages processes (messages_from processes p 0 w.tables);
      tables = map (table_after_exit processes p) w.tables;
    }

-- The end of a process, which must live. Afterwards it does not live, so no table passes to it, and it has no messages
-- and no fixes. Each of its tables passes to its heir, which gets the transfer message, or is deleted if no heir lives.
abbrev pub End : World → ℕ → Outcome (Result (Unit {0}) WorldFault) World
End old p =
    refuse old (not (lives old.processes p)) (Err NoProcess) (
    gives (Ok tt) (after_exit old (with_ended old.processes p) p))
