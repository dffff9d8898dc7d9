-- Processes are enrolled; tables are created, deleted and passed on (stdlib manual, module ets, new/2, delete/1,
-- give_away/3, setopts/2).
use Rattle.std.specs.Prelude.{ℕ, ◌==◌, ◌&&◌, not, nat_le, true, List, [], ◌∷◌, ◌++◌, Option, Some, None, is_some, length, slice_set, Result, Ok, Err}
use Rattle.ets_term.specs.declared.term.Term.{Term}
use Rattle.table_ops.specs.Outcomes.{Outcome, gives, refuse, refuse_none}
use Rattle.fixed_walk.specs.TableState.{TableState}
use Rattle.ownership.specs.declared.fault.WorldFault.{WorldFault}
use Rattle.ownership.specs.declared.fault.WorldFault.TheVariants.{Badarg, SystemLimit}
use Rattle.ownership.specs.declared.metadata.Metadata.{Metadata}
use Rattle.ownership.specs.declared.metadata.Heir.{Heir}
use Rattle.ownership.specs.declared.options.NewOptions.{NewOptions}
use Rattle.ownership.specs.World.{Table, World, with_changed, process_at, lives, table_at, whereis}
use Rattle.ownership.specs.Access.{is_owner}
use Rattle.ownership.specs.Messages.{name_or_identifier, transfer_message, push_message}
use Rattle.ownership.specs.Options.{heir_after}

-- the world after a process was enrolled
abbrev pub after_enrol : World → ℕ → World
after_enrol w p =
    record w { processes = w.processes ++ (p, record { lives = true; mailbox = [] }) ∷ [] }

-- enrolment: badarg if the number was ever enrolled; system limit if the greatest number of processes is reached
abbrev pub Enrol : World → ℕ → Outcome (Result (Unit {0}) WorldFault) World
Enrol old p =
    refuse old (is_some (process_at old.processes p)) (Err Badarg) (
    refuse old (nat_le old.max_processes (length old.processes)) (Err SystemLimit) (
    gives (Ok tt) (after_enrol old p)))

-- the metadata of a new table of a process, with this name and these options
abbrev pub new_metadata : ℕ → List ℕ → NewOptions → Metadata
new_metadata p name options =
    record {
      name = name;
      named = options.named;
      owner = p;
      heir = options.heir;
      protection = options.protection;
    }

-- the world with a new table under the next identifier
abbrev pub with_table : World → Metadata → TableState → World
with_table w metadata state =
    record w { tables = w.tables ++ Some (record { metadata = metadata; state = state }) ∷ [] }

-- new: badarg if the table is to be named and another named table has the name; system limit if the greatest number of
-- tables is reached; the answer is the name of a named table, else the identifier
abbrev pub New : World → ℕ → List ℕ → NewOptions → TableState → Outcome (Result Term WorldFault) World
New old p name options state =
    refuse old (options.named && is_some (whereis old.tables name)) (Err Badarg) (
    refuse old (nat_le old.max_tables (length old.tables)) (Err SystemLimit) (
    gives (Ok (name_or_identifier options.named name (length old.tables)))
    (with_table old (new_metadata p name options) state)))

-- the world after a table is deleted, with its name and its fixes
abbrev pub without_table : World → ℕ → World
without_table w t = record w { tables = slice_set w.tables t None }

-- a table with another owner; its heir stays
abbrev pub with_owner : ℕ → Table → Table
with_owner q table = record table { metadata = record table.metadata { owner = q } }

-- a table with another heir, or none
abbrev pub with_heir : Option Heir → Table → Table
with_heir heir table = record table { metadata = record table.metadata { heir = heir } }

-- the world after a table is passed to another owner, which gets a message
abbrev pub after_transfer : World → ℕ → ℕ → Term → World
after_transfer w t q message =
    record w { processes = push_message w.processes q message; tables = with_changed (with_owner q) w.tables t }

-- give_away: the owner gives the table to another living process, which gets the transfer message; badarg if the
-- process is not the owner, or the receiver is the owner or does not live
abbrev pub GiveAway : World → ℕ → ℕ → ℕ → Term → Outcome (Result (Unit {0}) WorldFault) World
GiveAway old p t q gift =
    refuse_none old (table_at old.tables t) (Err Badarg) (λ table.
    refuse old (not (is_owner table.metadata p)) (Err Badarg) (
    refuse old (q == p) (Err Badarg) (
    refuse old (not (lives old.processes q)) (Err Badarg) (
    gives (Ok tt) (after_transfer old t q (transfer_message table.metadata t p gift))))))

-- the world after the heir of a table was set or removed
abbrev pub after_set_heir : World → ℕ → Option Heir → World
after_set_heir w t heir = record w { tables = with_changed (with_heir heir) w.tables t }

-- setopts: the owner of a table sets or removes its heir by options; badarg for any other process, and for a term that
-- is not an option or list of options
abbrev pub SetOptions : World → ℕ → ℕ → Term → Outcome (Result (Unit {0}) WorldFault) World
SetOptions old p t options =
    refuse_none old (table_at old.tables t) (Err Badarg) (λ table.
    refuse old (not (is_owner table.metadata p)) (Err Badarg) (
    refuse_none old (heir_after table.metadata.heir options) (Err Badarg) (λ heir.
    gives (Ok tt) (after_set_heir old t heir))))
