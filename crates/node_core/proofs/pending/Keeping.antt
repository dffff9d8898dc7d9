-- What the world does keeps the queue of pending tables.
use Rattle.std.proofs.Common.{◌≡◌, ℕ, Bool, true, false, List, refl, length}
use Rattle.std.specs.Prelude.{Result, Ok, Err, ◌&&◌, is_some, nat_le}
use Rattle.ets_term.specs.declared.term.Term.{Term}
use Rattle.table_ops.specs.Outcomes.{gives, refuse}
use Rattle.fixed_walk.specs.TableState.{TableState}
use Rattle.ownership.specs.declared.fault.WorldFault.{WorldFault}
use Rattle.ownership.specs.declared.fault.WorldFault.TheVariants.{Badarg, SystemLimit, NoProcess, Memory}
use Rattle.ownership.specs.declared.options.NewOptions.{NewOptions}
use Rattle.ownership.specs.World.{World, whereis}
use Rattle.ownership.specs.Messages.{name_or_identifier}
use Rattle.ownership.specs.Outcomes.{RefinesWorld}
use Rattle.ownership.specs.Tables.{Enrol, New, GiveAway, SetOptions, new_metadata, with_table, with_owner, with_heir}
use Rattle.ownership.specs.End.{End, with_ended}
use Rattle.node_core.specs.inside.PendingTables.{PendingTablesState}
use Rattle.node_core.specs.inside.Due.{TracksPending}
use Rattle.node_core.proofs.pending.Index as index
use Rattle.node_core.proofs.moves.WorldLaws.{enrol-lawful, end-lawful, give-lawful, set_options-lawful, comes-keep}

module _ (all : PendingTablesState) (old new : World) (is : TracksPending old.tables all) where
  abbrev P : World → Type 0
  P w = TracksPending w.tables all

  pub enrol-keeps : (p : ℕ) (r : Result (Unit {0}) WorldFault) → RefinesWorld (Enrol old p) old r new → P new
  enrol-keeps p r = comes-keep P old is (Enrol old p) (enrol-lawful P old is p is) r new

  pub end-keeps : (p : ℕ) (r : Result (Unit {0}) WorldFault) → RefinesWorld (End old p) old r new → P new
  end-keeps p r = comes-keep P old is (End old p) (end-lawful P old is p (index.ended old.tables all (with_ended old.processes p) p is)) r new

  pub give-keeps : (p t q : ℕ) (gift : Term) (r : Result (Unit {0}) WorldFault) → RefinesWorld (GiveAway old p t q gift) old r new → P new
  give-keeps p t q gift r = comes-keep P old is (GiveAway old p t q gift) (give-lawful P old is p t q gift (λ metadata. index.rehead old.tables all t (with_owner q) (λ _. refl) is)) r new

  pub set-keeps : (p t : ℕ) (options : Term) (r : Result (Unit {0}) WorldFault) → RefinesWorld (SetOptions old p t options) old r new → P new
  set-keeps p t options r = comes-keep P old is (SetOptions old p t options) (set_options-lawful P old is p t options (λ heir. index.rehead old.tables all t (with_heir heir) (λ _. refl) is)) r new

module _ (old new : World) (p : ℕ) (name : List ℕ) (options : NewOptions) (fixed : TableState) where
  abbrev made : World
  made = with_table old (new_metadata p name options) fixed

  abbrev answer : Term
  answer = name_or_identifier options.named name (length old.tables)

  refused-same : (taken full : Bool) (fault : WorldFault) → refuse old taken (Err Badarg) (refuse old full (Err SystemLimit) (gives (Ok answer) made)) (Err fault) new → new ≡ old
  refused-same true full fault h = h.1
  refused-same false true fault h = h.1
  refused-same false false fault h = let e = h.0 in cc

  -- a table that is refused changes nothing
  pub new-refused : (fault : WorldFault) → RefinesWorld (New old p name options fixed) old (Err fault) new → new ≡ old
  new-refused Badarg h = refused-same (options.named && is_some (whereis old.tables name)) (nat_le old.max_tables (length old.tables)) Badarg h
  new-refused SystemLimit h = refused-same (options.named && is_some (whereis old.tables name)) (nat_le old.max_tables (length old.tables)) SystemLimit h
  new-refused NoProcess h = refused-same (options.named && is_some (whereis old.tables name)) (nat_le old.max_tables (length old.tables)) NoProcess h
  new-refused Memory h = h

  -- else there is one more
  pub new-made : (x : Term) → RefinesWorld (New old p name options fixed) old (Ok x) new → new ≡ made
  new-made x h = by (options.named && is_some (whereis old.tables name)) (nat_le old.max_tables (length old.tables)) h
    where
      by : (taken full : Bool) → refuse old taken (Err Badarg) (refuse old full (Err SystemLimit) (gives (Ok answer) made)) (Ok x) new → new ≡ made
      by true full h = let e = h.0 in cc
      by false true h = let e = h.0 in cc
      by false false h = h.1
