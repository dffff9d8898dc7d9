-- Each change of processes and tables has one result, and one world after it but for the order of slots.
use Rattle.std.proofs.Common.{◌≡◌, ℕ, suc, ◌==◌, ◌&&◌, Bool, true, false, not, nat_le, cond, List, [], ◌∷◌, Option, None, Some, option_map, Result, Ok, Err, refl, sym, ap, ap₂, subst, subst₂, length, map}
use Rattle.std.specs.Prelude.{is_some}
use Rattle.std.specs.Option.{option_map_or}
use Rattle.ets_term.specs.declared.term.Term.{Term}
use Rattle.table_ops.specs.Outcomes.{Outcome, gives, refuse, refuse_none}
use Rattle.fixed_walk.specs.TableState.{TableState}
use Rattle.ownership.specs.declared.fault.WorldFault.{WorldFault}
use Rattle.ownership.specs.declared.fault.WorldFault.TheVariants.{Badarg, SystemLimit, NoProcess}
use Rattle.ownership.specs.declared.metadata.Metadata.{Metadata}
use Rattle.ownership.specs.declared.metadata.Heir.{Heir}
use Rattle.ownership.specs.declared.options.NewOptions.{NewOptions}
use Rattle.ownership.specs.World.{Table, Tables, Processes, World, process_at, lives, table_at, whereis, with_changed}
use Rattle.ownership.specs.Access.{is_owner}
use Rattle.ownership.specs.Messages.{name_or_identifier, transfer_message, push_messages}
use Rattle.ownership.specs.Options.{heir_after}
use Rattle.ownership.specs.Tables as tables
use Rattle.ownership.specs.Tables.{after_enrol, new_metadata, with_table, with_owner, with_heir, after_set_heir}
use Rattle.ownership.specs.End as ends
use Rattle.ownership.specs.End.{with_ended, living_heir, without_fixes, table_after_exit, message_of, messages_from, after_exit}
use Rattle.node_core.proofs.determined.Alike.{AlikeTable, AlikePlace, AlikeTables, AlikeWorlds, world_with, place-itself, at-alike, length-alike, whereis-alike, set-alike, push-alike, map-alike, change-alike}
use Rattle.node_core.proofs.determined.Unique.{Unique, Same, gives-unique, refuse-unique, refuse_none-unique}
use Rattle.node_core.proofs.determined.UniqueRules.{all_released-alike}
use Rattle.node_core.proofs.moves.WorldLaws.{given}

-- a table that changes in the same way in both
pub changed-alike : (change : Table → Table) → ((t u : Table) → AlikeTable t u → AlikeTable (change t) (change u)) → (ts us : Tables) → AlikeTables ts us → (t : ℕ)
    → AlikeTables (with_changed change ts t) (with_changed change us t)
changed-alike change each ts us a t =
    set-alike ts us a t (option_map change (table_at ts t)) (option_map change (table_at us t)) (change-alike change change each (table_at ts t) (table_at us t) (at-alike ts us a t))

module _ (w : World) (us : Tables) (a : AlikeTables w.tables us) where
  abbrev v : World
  v = world_with w us

  before : AlikeWorlds w v
  before = record { tables = a; rest = refl }

  abbrev pub UniqueWorld : {X : Type 0} → Outcome (Result X WorldFault) World → Outcome (Result X WorldFault) World → Type 0
  UniqueWorld one other = Unique Same AlikeWorlds one other

  module _ {X : Type 0} where
    refuses : (test : Bool) (why : WorldFault) {one other : Outcome (Result X WorldFault) World} → UniqueWorld one other → UniqueWorld (refuse w test (Err why) one) (refuse v test (Err why) other)
    refuses test why u = refuse-unique Same AlikeWorlds w v before (Err why) refl test u

    does : (x : X) (one other : World) → AlikeWorlds one other → UniqueWorld (gives (Ok x) one) (gives (Ok x) other)
    does x one other alike = gives-unique Same AlikeWorlds (Ok x) (Ok x) one other refl alike

    place-at : (o u : Option Table) → AlikePlace o u → (one other : Table → Outcome (Result X WorldFault) World) → ((t u : Table) → AlikeTable t u → UniqueWorld (one t) (other u))
        → UniqueWorld (refuse_none w o (Err Badarg) one) (refuse_none v u (Err Badarg) other)
    place-at None None p one other each = gives-unique Same AlikeWorlds (Err Badarg) (Err Badarg) w v refl before
    place-at None (Some u) p one other each = absurd p
    place-at (Some t) None p one other each = absurd p
    place-at (Some t) (Some u) p one other each = each t u p

    -- what is done depends on the metadata of the table alone
    by-metadata : (t : ℕ) (one other : Metadata → Outcome (Result X WorldFault) World) → ((m : Metadata) → UniqueWorld (one m) (other m))
        → UniqueWorld (refuse_none w (table_at w.tables t) (Err Badarg) (λ table. one table.metadata)) (refuse_none v (table_at us t) (Err Badarg) (λ table. other table.metadata))
    by-metadata t one other each =
        place-at (table_at w.tables t) (table_at us t) (at-alike w.tables us a t) (λ table. one table.metadata) (λ table. other table.metadata) (λ t u p.
        subst (λ (m : Metadata). UniqueWorld (one t.metadata) (other m)) (sym p.metadata) (each t.metadata))

  pub enrol-unique : (p : ℕ) → UniqueWorld (tables.Enrol w p) (tables.Enrol v p)
  enrol-unique p =
      refuses (is_some (process_at w.processes p)) Badarg (
      refuses (nat_le w.max_processes (length w.processes)) SystemLimit (
      does tt (after_enrol w p) (after_enrol v p) (record { tables = a; rest = refl })))

  -- ---- tables are made
  module _ (p : ℕ) (name : List ℕ) (options : NewOptions) (state : TableState) where
    abbrev Makes : World → Option ℕ → ℕ → Outcome (Result Term WorldFault) World
    Makes x found count =
        refuse x (options.named && is_some found) (Err Badarg) (
        refuse x (nat_le x.max_tables count) (Err SystemLimit) (
        gives (Ok (name_or_identifier options.named name count)) (with_table x (new_metadata p name options) state)))

    made : (found : Option ℕ) (count : ℕ) → UniqueWorld (Makes w found count) (Makes v found count)
    made found count =
        refuses (options.named && is_some found) Badarg (
        refuses (nat_le w.max_tables count) SystemLimit (
        does (name_or_identifier options.named name count) _ _ (record {
          tables = push-alike w.tables us a _ _ (place-itself (Some (record { metadata = new_metadata p name options; state = state })));
          rest = refl;
        })))

    pub new-unique : UniqueWorld (tables.New w p name options state) (tables.New v p name options state)
    new-unique =
        subst₂ (λ (found : Option ℕ) (count : ℕ). UniqueWorld (tables.New w p name options state) (Makes v found count))
        (sym (whereis-alike w.tables us a name)) (sym (length-alike w.tables us a)) (made (whereis w.tables name) (length w.tables))

  -- ---- tables pass to another owner
  owned : (q : ℕ) (t u : Table) → AlikeTable t u → AlikeTable (with_owner q t) (with_owner q u)
  owned q t u p = record { metadata = ap (λ (m : Metadata). record m { owner = q }) p.metadata; state = p.state }

  inherited : (heir : Option Heir) (t u : Table) → AlikeTable t u → AlikeTable (with_heir heir t) (with_heir heir u)
  inherited heir t u p = record { metadata = ap (λ (m : Metadata). record m { heir = heir }) p.metadata; state = p.state }

  module _ (p t : ℕ) where
    abbrev Gives : World → ℕ → Term → Metadata → Outcome (Result (Unit {0}) WorldFault) World
    Gives x q gift m =
        refuse x (not (is_owner m p)) (Err Badarg) (
        refuse x (q == p) (Err Badarg) (
        refuse x (not (lives x.processes q)) (Err Badarg) (
        gives (Ok tt) (given x p t q gift m))))

    pub give-unique : (q : ℕ) (gift : Term) → UniqueWorld (tables.GiveAway w p t q gift) (tables.GiveAway v p t q gift)
    give-unique q gift =
        by-metadata t (Gives w q gift) (Gives v q gift) (λ m.
        refuses (not (is_owner m p)) Badarg (
        refuses (q == p) Badarg (
        refuses (not (lives w.processes q)) Badarg (
        does tt (given w p t q gift m) (given v p t q gift m) (record { tables = changed-alike (with_owner q) (owned q) w.tables us a t; rest = refl })))))

    abbrev Sets : World → Term → Metadata → Outcome (Result (Unit {0}) WorldFault) World
    Sets x options m =
        refuse x (not (is_owner m p)) (Err Badarg) (
        refuse_none x (heir_after m.heir options) (Err Badarg) (λ heir. gives (Ok tt) (after_set_heir x t heir)))

    pub options-unique : (options : Term) → UniqueWorld (tables.SetOptions w p t options) (tables.SetOptions v p t options)
    options-unique options =
        by-metadata t (Sets w options) (Sets v options) (λ m.
        refuses (not (is_owner m p)) Badarg (
        refuse_none-unique Same AlikeWorlds w v before (Err Badarg) refl (heir_after m.heir options) (λ heir.
        does tt (after_set_heir w t heir) (after_set_heir v t heir) (record { tables = changed-alike (with_heir heir) (inherited heir) w.tables us a t; rest = refl }))))

  -- ---- a process ends
  module _ (processes : Processes) (p : ℕ) where
    freed : (t u : Table) → AlikeTable t u → AlikeTable (without_fixes p t) (without_fixes p u)
    freed t u e = record { metadata = e.metadata; state = all_released-alike p t.state u.state e.state }

    passed : (heir : Option Heir) (t u : Table) → AlikeTable t u
        → AlikePlace (option_map (λ h. with_owner h.pid (without_fixes p t)) heir) (option_map (λ h. with_owner h.pid (without_fixes p u)) heir)
    passed None t u e = tt
    passed (Some h) t u e = owned h.pid (without_fixes p t) (without_fixes p u) (freed t u e)

    either : (b : Bool) (heir : Option Heir) (t u : Table) → AlikeTable t u
        → AlikePlace (cond b (option_map (λ h. with_owner h.pid (without_fixes p t)) heir) (Some (without_fixes p t))) (cond b (option_map (λ h. with_owner h.pid (without_fixes p u)) heir) (Some (without_fixes p u)))
    either true heir t u e = passed heir t u e
    either false heir t u e = freed t u e

    exits : (o u : Option Table) → AlikePlace o u → AlikePlace (table_after_exit processes p o) (table_after_exit processes p u)
    exits None None e = tt
    exits None (Some u) e = absurd e
    exits (Some t) None e = absurd e
    exits (Some t) (Some u) e =
        subst (λ (m : Metadata). AlikePlace (table_after_exit processes p (Some t)) (cond (is_owner m p) (option_map (λ h. with_owner h.pid (without_fixes p u)) (living_heir processes m)) (Some (without_fixes p u))))
        (sym e.metadata) (either (is_owner t.metadata p) (living_heir processes t.metadata) t u e)

    message-same : (t : ℕ) (o u : Option Table) → AlikePlace o u → message_of processes p t u ≡ message_of processes p t o
    message-same t None None e = refl
    message-same t None (Some u) e = absurd e
    message-same t (Some o) None e = absurd e
    message-same t (Some o) (Some u) e =
        ap (λ (m : Metadata). option_map (λ heir. (heir.pid, transfer_message m t p heir.gift)) (cond (is_owner m p) (living_heir processes m) None)) e.metadata

    messages-same : (t : ℕ) (xs ys : Tables) → AlikeTables xs ys → messages_from processes p t ys ≡ messages_from processes p t xs
    messages-same t [] [] e = refl
    messages-same t [] (y ∷ ys) e = absurd e
    messages-same t (x ∷ xs) [] e = absurd e
    messages-same t (x ∷ xs) (y ∷ ys) e =
        ap₂ (λ o ms. option_map_or (λ m. m ∷ ms) o ms) (message-same t x y e.0) (messages-same (suc t) xs ys e.1)

    after-alike : AlikeWorlds (after_exit w processes p) (after_exit v processes p)
    after-alike = record {
      tables = map-alike (table_after_exit processes p) exits w.tables us a;
      rest = ap (λ ms. record w { processes = push_messages processes ms; tables = map (table_after_exit processes p) us }) (messages-same 0 w.tables us a);
    }

  pub end-unique : (p : ℕ) → UniqueWorld (ends.End w p) (ends.End v p)
  end-unique p =
      refuses (not (lives w.processes p)) NoProcess (
      does tt (after_exit w (with_ended w.processes p) p) (after_exit v (with_ended w.processes p) p) (after-alike (with_ended w.processes p) p))
