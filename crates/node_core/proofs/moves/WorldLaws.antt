-- What becomes of processes and tables: no outcome depends on buckets, and what holds of the world before it and of all that it may
-- leave holds after it. Each outcome of the world is treated here once.
use Rattle.std.proofs.Common.{◌≡◌, ℕ, suc, Bool, true, false, ◌&&◌, not, ◌==◌, nat_le, cond, List, [], ◌∷◌, Option, None, Some, option_map, Result, Ok, Err, refl, sym, subst, subst₂, ap, ap₂, ◌∙◌, length, map}
use Rattle.std.specs.Prelude.{is_some}
use Rattle.std.specs.Option.{option_map_or}
use Rattle.ets_term.specs.declared.term.Term.{Term}
use Rattle.table_ops.specs.Outcomes.{Outcome, gives, refuse, refuse_none}
use Rattle.fixed_walk.specs.TableState.{TableState}
use Rattle.ownership.specs.declared.fault.WorldFault.{WorldFault}
use Rattle.ownership.specs.declared.fault.WorldFault.TheVariants.{Badarg, SystemLimit, NoProcess, Memory}
use Rattle.ownership.specs.declared.metadata.Metadata.{Metadata}
use Rattle.ownership.specs.declared.metadata.Heir.{Heir}
use Rattle.ownership.specs.declared.options.NewOptions.{NewOptions}
use Rattle.ownership.specs.World.{Table, Tables, Processes, World, process_at, lives, table_at, whereis, with_changed}
use Rattle.ownership.specs.Access.{is_owner}
use Rattle.ownership.specs.Messages.{name_or_identifier, transfer_message, push_message, push_messages}
use Rattle.ownership.specs.Options.{heir_after}
use Rattle.ownership.specs.Tables as tables
use Rattle.ownership.specs.Tables.{after_enrol, new_metadata, with_table, with_owner, with_heir, after_set_heir}
use Rattle.ownership.specs.End as ends
use Rattle.ownership.specs.End.{with_ended, living_heir, without_fixes, table_after_exit, message_of, messages_from, after_exit}
use Rattle.ownership.specs.Outcomes.{RefinesWorld}
use Rattle.node_core.specs.Observable.{observable_table_state, observable_table, observable_tables}
use Rattle.node_core.proofs.buckets.ObservableTables.{observable_world, at-observable, length-observable, whereis-observable, push-observable, changed-observable}
use Rattle.node_core.proofs.moves.Preserves.{all_released-observable}

-- an answer, or a refusal, is as good without the buckets, and leaves a world of which this holds
pub record IsLawfulOutcome (P : World → Type 0) (X : Type 0) (outcome unobservable : Outcome (Result X WorldFault) World) : Type 0 where
  pub observable : (r : Result X WorldFault) (new : World) → outcome r new → unobservable r (observable_world new)
  pub keeps : (r : Result X WorldFault) (new : World) → outcome r new → P new

-- a table that was given away, in the world without its metadata
abbrev pub given : World → ℕ → ℕ → ℕ → Term → Metadata → World
given w p t q gift metadata =
    record w { processes = push_message w.processes q (transfer_message metadata t p gift); tables = with_changed (with_owner q) w.tables t }

module _ (P : World → Type 0) (old : World) (same : P old) where
  abbrev Lawful : (X : Type 0) → Outcome (Result X WorldFault) World → Outcome (Result X WorldFault) World → Type 0
  Lawful X outcome unobservable = IsLawfulOutcome P X outcome unobservable

  refused-lawful : {X : Type 0} (fault : WorldFault) → Lawful X (gives (Err fault) old) (gives (Err fault) (observable_world old))
  refused-lawful fault =
      record { observable = λ r new h. (h.0, ap observable_world h.1); keeps = λ r new h. subst P (sym h.1) same }

  gives-lawful : {X : Type 0} (answer : X) (after unobservable : World) → observable_world after ≡ unobservable → P after
      → Lawful X (gives (Ok answer) after) (gives (Ok answer) unobservable)
  gives-lawful answer after unobservable e keeps =
      record { observable = λ r new h. (h.0, ap observable_world h.1 ∙ e); keeps = λ r new h. subst P (sym h.1) keeps }

  refuse-lawful : {X : Type 0} (test : Bool) (fault : WorldFault) {otherwise unobservable : Outcome (Result X WorldFault) World}
      → (test ≡ false → Lawful X otherwise unobservable)
      → Lawful X (refuse old test (Err fault) otherwise) (refuse (observable_world old) test (Err fault) unobservable)
  refuse-lawful true fault lawful = refused-lawful fault
  refuse-lawful false fault lawful = lawful refl

  where-lawful : {X Y : Type 0} (o : Option Y) {outcome unobservable : Y → Outcome (Result X WorldFault) World}
      → ((y : Y) → Lawful X (outcome y) (unobservable y))
      → Lawful X (refuse_none old o (Err Badarg) outcome) (refuse_none (observable_world old) o (Err Badarg) unobservable)
  where-lawful None lawful = refused-lawful Badarg
  where-lawful (Some y) lawful = lawful y

  table-lawful : {X : Type 0} (o : Option Table) (outcome unobservable : Table → Outcome (Result X WorldFault) World)
      → ((table : Table) → Lawful X (outcome table) (unobservable (observable_table table)))
      → Lawful X (refuse_none old o (Err Badarg) outcome) (refuse_none (observable_world old) (option_map observable_table o) (Err Badarg) unobservable)
  table-lawful None outcome unobservable lawful = refused-lawful Badarg
  table-lawful (Some table) outcome unobservable lawful = lawful table

  place-lawful : {X : Type 0} (t : ℕ) (outcome unobservable : Table → Outcome (Result X WorldFault) World)
      → ((table : Table) → Lawful X (outcome table) (unobservable (observable_table table)))
      → Lawful X (refuse_none old (table_at old.tables t) (Err Badarg) outcome)
      (refuse_none (observable_world old) (table_at (observable_tables old.tables) t) (Err Badarg) unobservable)
  place-lawful {X = X} t outcome unobservable lawful =
      subst (λ (o : Option Table). Lawful X (refuse_none old (table_at old.tables t) (Err Badarg) outcome) (refuse_none (observable_world old) o (Err Badarg) unobservable))
      (sym (at-observable old.tables t)) (table-lawful (table_at old.tables t) outcome unobservable lawful)

  -- ---- processes start
  pub enrol-lawful : (p : ℕ) → P (after_enrol old p)
      → Lawful (Unit {0}) (tables.Enrol old p) (tables.Enrol (observable_world old) p)
  enrol-lawful p after =
      refuse-lawful (is_some (process_at old.processes p)) Badarg (λ fresh.
      refuse-lawful (nat_le old.max_processes (length old.processes)) SystemLimit (λ room.
      gives-lawful tt (after_enrol old p) (after_enrol (observable_world old) p) refl after))

  -- ---- tables are made
  module _ (p : ℕ) (name : List ℕ) (options : NewOptions) where
    abbrev Makes : World → Option ℕ → ℕ → TableState → Outcome (Result Term WorldFault) World
    Makes w found count fixed =
        refuse w (options.named && is_some found) (Err Badarg) (
        refuse w (nat_le w.max_tables count) (Err SystemLimit) (
        gives (Ok (name_or_identifier options.named name count)) (with_table w (new_metadata p name options) fixed)))

    made : (fixed : TableState)
        → ((options.named && is_some (whereis old.tables name)) ≡ false → P (with_table old (new_metadata p name options) fixed))
        → Lawful Term (Makes old (whereis old.tables name) (length old.tables) fixed) (Makes (observable_world old) (whereis old.tables name) (length old.tables) (observable_table_state fixed))
    made fixed after =
        refuse-lawful (options.named && is_some (whereis old.tables name)) Badarg (λ fresh.
        refuse-lawful (nat_le old.max_tables (length old.tables)) SystemLimit (λ room.
        gives-lawful (name_or_identifier options.named name (length old.tables)) (with_table old (new_metadata p name options) fixed) (with_table (observable_world old) (new_metadata p name options) (observable_table_state fixed))
        (ap (λ ts. record old { tables = ts }) (sym (push-observable old.tables (record { metadata = new_metadata p name options; state = fixed })))) (after fresh)))

    pub new-lawful : (fixed : TableState)
        → ((options.named && is_some (whereis old.tables name)) ≡ false → P (with_table old (new_metadata p name options) fixed))
        → Lawful Term (tables.New old p name options fixed) (tables.New (observable_world old) p name options (observable_table_state fixed))
    new-lawful fixed after =
        subst₂ (λ (found : Option ℕ) (count : ℕ). Lawful Term (tables.New old p name options fixed) (Makes (observable_world old) found count (observable_table_state fixed)))
        (sym (whereis-observable old.tables name)) (sym (length-observable old.tables)) (made fixed after)

  -- ---- tables pass to another owner
  module _ (p t : ℕ) where
    module _ (q : ℕ) (gift : Term) where
      abbrev Gives : World → Metadata → Outcome (Result (Unit {0}) WorldFault) World
      Gives w metadata =
          refuse w (not (is_owner metadata p)) (Err Badarg) (
          refuse w (q == p) (Err Badarg) (
          refuse w (not (lives w.processes q)) (Err Badarg) (
          gives (Ok tt) (given w p t q gift metadata))))

      gives-to : (metadata : Metadata) → P (given old p t q gift metadata)
          → Lawful (Unit {0}) (Gives old metadata) (Gives (observable_world old) metadata)
      gives-to metadata after =
          refuse-lawful (not (is_owner metadata p)) Badarg (λ its.
          refuse-lawful (q == p) Badarg (λ another.
          refuse-lawful (not (lives old.processes q)) Badarg (λ living.
          gives-lawful tt (given old p t q gift metadata) (given (observable_world old) p t q gift metadata)
          (ap (λ ts. record old { processes = push_message old.processes q (transfer_message metadata t p gift); tables = ts }) (sym (changed-observable (with_owner q) (λ table. refl) old.tables t))) after)))

      pub give-lawful : ((metadata : Metadata) → P (given old p t q gift metadata))
          → Lawful (Unit {0}) (tables.GiveAway old p t q gift) (tables.GiveAway (observable_world old) p t q gift)
      give-lawful after =
          place-lawful t (λ table. Gives old table.metadata) (λ table. Gives (observable_world old) table.metadata) (λ table. gives-to table.metadata (after table.metadata))

    module _ (options : Term) (after : (heir : Option Heir) → P (after_set_heir old t heir)) where
      abbrev Sets : World → Metadata → Outcome (Result (Unit {0}) WorldFault) World
      Sets w metadata =
          refuse w (not (is_owner metadata p)) (Err Badarg) (
          refuse_none w (heir_after metadata.heir options) (Err Badarg) (λ heir. gives (Ok tt) (after_set_heir w t heir)))

      sets : (metadata : Metadata) → Lawful (Unit {0}) (Sets old metadata) (Sets (observable_world old) metadata)
      sets metadata =
          refuse-lawful (not (is_owner metadata p)) Badarg (λ its.
          where-lawful (heir_after metadata.heir options) (λ heir.
          gives-lawful tt (after_set_heir old t heir) (after_set_heir (observable_world old) t heir)
          (ap (λ ts. record old { tables = ts }) (sym (changed-observable (with_heir heir) (λ table. refl) old.tables t))) (after heir)))

      pub set_options-lawful : Lawful (Unit {0}) (tables.SetOptions old p t options) (tables.SetOptions (observable_world old) p t options)
      set_options-lawful =
          place-lawful t (λ table. Sets old table.metadata) (λ table. Sets (observable_world old) table.metadata) (λ table. sets table.metadata)

  -- running out of memory changes nothing
  pub comes-keep : {X : Type 0} {unobservable : Outcome (Result X WorldFault) World} (outcome : Outcome (Result X WorldFault) World) → Lawful X outcome unobservable
      → (r : Result X WorldFault) (new : World) → RefinesWorld outcome old r new → P new
  comes-keep outcome lawful (Ok x) new h = lawful.keeps (Ok x) new h
  comes-keep outcome lawful (Err Badarg) new h = lawful.keeps (Err Badarg) new h
  comes-keep outcome lawful (Err SystemLimit) new h = lawful.keeps (Err SystemLimit) new h
  comes-keep outcome lawful (Err NoProcess) new h = lawful.keeps (Err NoProcess) new h
  comes-keep outcome lawful (Err Memory) new h = subst P (sym h) same

-- ---- a process ends
module _ (processes : Processes) (p : ℕ) where
  without_fixes-observable : (table : Table) → without_fixes p (observable_table table) ≡ observable_table (without_fixes p table)
  without_fixes-observable table = ap (λ f. record table { state = f }) (all_released-observable p table.state)

  heir-observable : (heir : Option Heir) (table : Table)
      → option_map (λ h. with_owner h.pid (without_fixes p (observable_table table))) heir ≡ option_map observable_table (option_map (λ h. with_owner h.pid (without_fixes p table)) heir)
  heir-observable None table = refl
  heir-observable (Some heir) table = ap (λ t. Some (with_owner heir.pid t)) (without_fixes-observable table)

  either-observable : (own : Bool) (heir : Option Heir) (table : Table)
      → cond own (option_map (λ h. with_owner h.pid (without_fixes p (observable_table table))) heir) (Some (without_fixes p (observable_table table)))
      ≡ option_map observable_table (cond own (option_map (λ h. with_owner h.pid (without_fixes p table)) heir) (Some (without_fixes p table)))
  either-observable true heir table = heir-observable heir table
  either-observable false heir table = ap Some (without_fixes-observable table)

  after-observable : (o : Option Table)
      → table_after_exit processes p (option_map observable_table o) ≡ option_map observable_table (table_after_exit processes p o)
  after-observable None = refl
  after-observable (Some table) = either-observable (is_owner table.metadata p) (living_heir processes table.metadata) table

  all-observable : (ts : Tables)
      → map (table_after_exit processes p) (observable_tables ts) ≡ observable_tables (map (table_after_exit processes p) ts)
  all-observable [] = refl
  all-observable (x ∷ xs) = ap₂ (λ o ts. o ∷ ts) (after-observable x) (all-observable xs)

  message-observable : (t : ℕ) (o : Option Table)
      → message_of processes p t (option_map observable_table o) ≡ message_of processes p t o
  message-observable t None = refl
  message-observable t (Some table) = refl

  messages-observable : (t : ℕ) (ts : Tables) → messages_from processes p t (observable_tables ts) ≡ messages_from processes p t ts
  messages-observable t [] = refl
  messages-observable t (x ∷ xs) =
      ap₂ (λ o ms. option_map_or (λ m. m ∷ ms) o ms) (message-observable t x) (messages-observable (suc t) xs)

  handed-observable : (w : World) → observable_world (after_exit w processes p) ≡ after_exit (observable_world w) processes p
  handed-observable w =
      ap₂ (λ ms ts. record w { processes = push_messages processes ms; tables = ts }) (sym (messages-observable 0 w.tables)) (sym (all-observable w.tables))

pub end-lawful : (P : World → Type 0) (old : World) → P old → (p : ℕ) → P (after_exit old (with_ended old.processes p) p)
    → IsLawfulOutcome P (Unit {0}) (ends.End old p) (ends.End (observable_world old) p)
end-lawful P old same p after =
    refuse-lawful P old same (not (lives old.processes p)) NoProcess (λ living.
    gives-lawful P old same tt (after_exit old (with_ended old.processes p) p) (after_exit (observable_world old) (with_ended old.processes p) p) (handed-observable (with_ended old.processes p) p old) after)
