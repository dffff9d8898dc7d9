-- Calls on processes, names, owners and new tables, which each part makes.
use Rattle.std.proofs.Common.{◌≡◌, ◌⊎◌, inl, inr, ℕ, zero, suc, ◌==◌, Bool, true, false, ◌&&◌, not, nat_le, [], ◌∷◌, ◌++◌, Option, None, Some, option_map, option_and_then, Result, Ok, Err, refl, sym, ap, subst, ◌∙◌, length, arith}
use Rattle.std.specs.Prelude.{is_some, filter_map}
use Rattle.std.specs.Bool.{MatchBool}
use Rattle.std.specs.List.{IsDistinct}
use Rattle.std.specs.Option.{option_map_or}
use Rattle.ets_term.specs.declared.term.Term.{Term, out-Term}
use Rattle.ets_term.specs.declared.term.Term.TheVariants.{Pid, Tid, List as terms}
use Rattle.ets_term.specs.Views.{as_atom, as_pid}
use Rattle.bucket_table.specs.Slots.{Slot}
use Rattle.table_ops.specs.Invariants.{IsContent}
use Rattle.table_ops.specs.Outcomes.{Outcome, gives, refuse, refuse_none}
use Rattle.fixed_walk.specs.TableState.{TableState}
use Rattle.ownership.specs.declared.fault.WorldFault.{WorldFault}
use Rattle.ownership.specs.declared.fault.WorldFault.TheVariants as fault
use Rattle.ownership.specs.declared.info.InfoItem.{InfoItem}
use Rattle.ownership.specs.declared.info.InfoItem.TheVariants as item
use Rattle.ownership.specs.declared.metadata.Heir.{Heir}
use Rattle.ownership.specs.declared.metadata.Metadata.{Metadata}
use Rattle.ownership.specs.declared.options.NewOptions.{NewOptions}
use Rattle.ownership.specs.World.{Table, Tables, Processes, World, process_at, lives, table_at, whereis, resolve}
use Rattle.ownership.specs.Access.{is_owner}
use Rattle.ownership.specs.Info.{item_of, info_of}
use Rattle.ownership.specs.Messages.{name_or_identifier, transfer_message, mailbox_of, after_receive}
use Rattle.ownership.specs.Options.{options_of, heir_after}
use Rattle.ownership.specs.Tables as tables
use Rattle.ownership.specs.Tables.{after_enrol, new_metadata, with_owner, with_heir, after_set_heir, after_transfer}
use Rattle.node_core.specs.declared.step.Reply.{Reply}
use Rattle.node_core.specs.declared.step.Reply.TheVariants.{Value, Badarg}
use Rattle.node_core.specs.State.{State}
use Rattle.node_core.specs.Access.{changes_world}
use Rattle.node_core.specs.laws.Kept.{slots_in}
use Rattle.node_core.specs.rules.Growth.{ok_reply, growth_reply}
use Rattle.node_core.specs.rules.Owning.{GiveAway, SetOptions, Receive, value_or_undefined, Whereis, names_form, info_at, Info}
use Rattle.node_core.specs.rules.Replies.{true_reply}
use Rattle.node_core.specs.rules.Tables.{new_table_of, New}
use Rattle.node_parts.specs.Parts.{replicated_table, replicated, limit_in, limit_of_new, HasContents}
use Rattle.node_parts.specs.ForAll.{is_size}
use Rattle.node_parts.proofs.ForAll.{Fate, made, limit_after, stay, stay-slots, stay-limit, Moves, ForAll, gives-all, tells-all, refuse_none-all, either-all, through, world-refuse, world-where, world-gives}
use Rattle.node_parts.proofs.ForAllTables.{push-replicated, changed-replicated, processes-same, lengths-same, whereis-same, metadata-same, state_at, slots-by, limit-by, contents-of, states-changed, moves-states, only, only-this, only-other}
use Rattle.node_parts.proofs.Lists.{same-or-not}
use Rattle.node_parts.proofs.Whole.{resolve-same, table-same}

module _ (whole : State) where
  -- ---- processes
  processes-moves : (change : Processes → Processes) (part : State) → replicated part ≡ replicated whole
      → Moves (λ t. stay) (record whole { world = record whole.world { processes = change whole.world.processes } }) part (record part { world = record part.world { processes = change part.world.processes } })
  processes-moves change part same =
      moves-states part (record part { world = record part.world { processes = change part.world.processes } }) (record whole { world = record whole.world { processes = change whole.world.processes } })
      (ap (λ (s : State). record s { world = record s.world { processes = change s.world.processes } }) same) refl (λ u. refl)

  pub enrol-all : (p : ℕ) → ForAll (λ s. changes_world s (λ _. Value (Pid p)) (tables.Enrol s.world p)) whole
  enrol-all p =
      let answer : Unit {0} → Reply = λ _. Value (Pid p) in
      world-refuse whole answer fault.Badarg refl (λ s. is_some (process_at s.world.processes p))
      (λ s. refuse s.world (nat_le s.world.max_processes (length s.world.processes)) (Err fault.SystemLimit) (gives (Ok tt) (after_enrol s.world p)))
      (λ part same. ap (λ ps. is_some (process_at ps p)) (processes-same part whole same)) (λ e.
      world-refuse whole answer fault.SystemLimit refl (λ s. nat_le s.world.max_processes (length s.world.processes)) (λ s. gives (Ok tt) (after_enrol s.world p))
      (λ part same. ap (λ (s : State). nat_le s.world.max_processes (length s.world.processes)) same) (λ f.
      world-gives whole answer (λ s. tt) (λ s. after_enrol s.world p) (λ t. stay) (λ part same.
      (refl, processes-moves (λ ps. ps ++ (p, record { lives = true; mailbox = [] }) ∷ []) part same))))

  pub receive-all : (p : ℕ) → ForAll (λ s. Receive s p) whole
  receive-all p =
      gives-all whole (λ s. Value (terms (mailbox_of s.world.processes p))) (λ s. record s { world = record s.world { processes = after_receive s.world.processes p } }) (λ t. stay) (λ part same.
      (ap (λ ps. Value (terms (mailbox_of ps p))) (processes-same part whole same), processes-moves (λ ps. after_receive ps p) part same))

  -- ---- reading what all parts have
  pub whereis-all : (x : Term) → ForAll (λ s. Whereis s x) whole
  whereis-all x =
      refuse_none-all whole (λ s. as_atom x) Badarg (λ text s. gives (value_or_undefined (option_map Tid (whereis s.world.tables text))) s) (λ part same. refl) (λ text e.
      tells-all whole (λ s. value_or_undefined (option_map Tid (whereis s.world.tables text))) (λ part same.
      ap (λ o. value_or_undefined (option_map Tid o)) (whereis-same part whole same text)))

  item-same : (i : InfoItem) → is_size i ≡ false → (t : ℕ) (table : Table) → info_of i t (replicated_table table) ≡ info_of i t table
  item-same item.Name e t table = refl
  item-same item.NamedTable e t table = refl
  item-same item.Owner e t table = refl
  item-same item.Protection e t table = refl
  item-same item.Heir e t table = refl
  item-same item.Id e t table = refl
  item-same item.Size e t table = cc
  item-same item.Kind e t table = refl
  item-same item.Keypos e t table = refl
  item-same item.Fixed e t table = refl

  item-at : (i : InfoItem) → is_size i ≡ false → (t : ℕ) (o : Option Table) → option_map (info_of i t) (option_map replicated_table o) ≡ option_map (info_of i t) o
  item-at i e t None = refl
  item-at i e t (Some table) = ap Some (item-same i e t table)

  items-same : (i : InfoItem) → is_size i ≡ false → (part : State) → replicated part ≡ replicated whole → (o : Option ℕ) → option_and_then (info_at i part.world) o ≡ option_and_then (info_at i whole.world) o
  items-same i e part same None = refl
  items-same i e part same (Some t) =
      sym (item-at i e t (table_at part.world.tables t))
      ∙ (ap (option_map (info_of i t)) (table-same part whole same t) ∙ item-at i e t (table_at whole.world.tables t))

  abbrev info_outcome : Term → Bool → InfoItem → State → Outcome Reply State
  info_outcome x test i s r new = MatchBool test (gives (value_or_undefined (option_and_then (info_at i s.world) (resolve s.world.tables x))) s r new) (gives Badarg s r new)

  pub info-all : (x y : Term) → option_map_or (λ i. not (is_size i)) (item_of y) true ≡ true → ForAll (λ s. Info s x y) whole
  info-all x y known =
      refuse_none-all whole (λ s. item_of y) Badarg
      (info_outcome x (names_form (out-Term x))) (λ part same. refl) (λ i e.
      either-all whole (names_form (out-Term x)) (λ s. gives (value_or_undefined (option_and_then (info_at i s.world) (resolve s.world.tables x))) s) (λ s. gives Badarg s)
      (tells-all whole (λ s. value_or_undefined (option_and_then (info_at i s.world) (resolve s.world.tables x))) (λ part same.
      ap value_or_undefined (items-same i (not-size i e) part same (resolve part.world.tables x) ∙ ap (option_and_then (info_at i whole.world)) (sym (resolve-same part whole same x)))))
      (tells-all whole (λ s. Badarg) (λ part same. refl)))
    where
      not-size : (i : InfoItem) → item_of y ≡ Some i → is_size i ≡ false
      not-size i e = by (is_size i) (subst (λ o. option_map_or (λ i. not (is_size i)) o true ≡ true) e known)
        where
          by : (b : Bool) → not b ≡ true → b ≡ false
          by true f = cc
          by false f = refl

  growth-at : (o : Option Table) → option_map_or (λ _. ok_reply) (option_map replicated_table o) Badarg ≡ option_map_or (λ _. ok_reply) o Badarg
  growth-at None = refl
  growth-at (Some table) = refl

  pub growth-all : (t : ℕ) → ForAll (λ s. gives (growth_reply s t) s) whole
  growth-all t = tells-all whole (λ s. growth_reply s t) (λ part same.
      sym (growth-at (table_at part.world.tables t))
      ∙ (ap (λ o. option_map_or (λ _. ok_reply) o Badarg) (table-same part whole same t) ∙ growth-at (table_at whole.world.tables t)))

  -- ---- owners and heirs
  module _ {X : Type 0} (answer : X → Reply) (t : ℕ) (outcome : Metadata → State → Outcome (Result X WorldFault) World) where
    abbrev ByTable : State → Outcome Reply State
    ByTable s = changes_world s answer (refuse_none s.world (table_at s.world.tables t) (Err fault.Badarg) (λ table. outcome table.metadata s))

    abbrev ByMetadata : State → Outcome Reply State
    ByMetadata s = changes_world s answer (refuse_none s.world (option_map (λ (table : Table). table.metadata) (table_at s.world.tables t)) (Err fault.Badarg) (λ m. outcome m s))

    to-metadata : (s : State) (o : Option Table) (r : Reply) (new : State) → changes_world s answer (refuse_none s.world o (Err fault.Badarg) (λ table. outcome table.metadata s)) r new
        → changes_world s answer (refuse_none s.world (option_map (λ (table : Table). table.metadata) o) (Err fault.Badarg) (λ m. outcome m s)) r new
    to-metadata s None r new h = h
    to-metadata s (Some table) r new h = h

    from-metadata : (s : State) (o : Option Table) (r : Reply) (new : State) → changes_world s answer (refuse_none s.world (option_map (λ (table : Table). table.metadata) o) (Err fault.Badarg) (λ m. outcome m s)) r new
        → changes_world s answer (refuse_none s.world o (Err fault.Badarg) (λ table. outcome table.metadata s)) r new
    from-metadata s None r new h = h
    from-metadata s (Some table) r new h = h

    -- what depends on the metadata of a table alone
    metadata-all : ((m : Metadata) → ForAll (λ s. changes_world s answer (outcome m s)) whole) → ForAll ByTable whole
    metadata-all all =
        through whole ByTable ByMetadata (λ s. to-metadata s (table_at s.world.tables t)) (λ s. from-metadata s (table_at s.world.tables t))
        (world-where whole answer (λ s. option_map (λ (table : Table). table.metadata) (table_at s.world.tables t)) outcome (λ part same. metadata-same part whole same t) (λ m e. all m))

  resolved : (x : Term) (outcome : ℕ → State → Outcome Reply State) → ((t : ℕ) → ForAll (outcome t) whole) → ForAll (λ s. refuse_none s (resolve s.world.tables x) Badarg (λ t. outcome t s)) whole
  resolved x outcome all = refuse_none-all whole (λ s. resolve s.world.tables x) Badarg outcome (λ part same. sym (resolve-same part whole same x)) (λ t e. all t)

  heir-moves : (t : ℕ) (heir : Option Heir) (part : State) → replicated part ≡ replicated whole
      → Moves (λ u. stay) (record whole { world = after_set_heir whole.world t heir }) part (record part { world = after_set_heir part.world t heir })
  heir-moves t heir part same =
      moves-states part (record part { world = after_set_heir part.world t heir }) (record whole { world = after_set_heir whole.world t heir })
      (sym (commutes part) ∙ (ap (λ (s : State). record s { world = after_set_heir s.world t heir }) same ∙ commutes whole)) refl
      (λ u. states-changed (with_heir heir) (λ table. refl) part.world.tables t u)
    where
      commutes : (s : State) → record (replicated s) { world = after_set_heir (replicated s).world t heir } ≡ replicated (record s { world = after_set_heir s.world t heir })
      commutes s = ap (λ (ts : Tables). record { limits = record s.limits { objects = 0 }; world = record s.world { tables = ts } }) (changed-replicated (with_heir heir) (λ table. refl) s.world.tables t)

  pub set_options-all : (p : ℕ) (x options : Term) → ForAll (λ s. SetOptions s p x options) whole
  set_options-all p x options =
      let answer : Unit {0} → Reply = λ _. true_reply in
      resolved x (λ t s. changes_world s (λ _. true_reply) (tables.SetOptions s.world p t options)) (λ t.
      metadata-all answer t (λ m s. refuse s.world (not (is_owner m p)) (Err fault.Badarg) (refuse_none s.world (heir_after m.heir options) (Err fault.Badarg) (λ heir. gives (Ok tt) (after_set_heir s.world t heir)))) (λ m.
      world-refuse whole answer fault.Badarg refl (λ s. not (is_owner m p)) (λ s. refuse_none s.world (heir_after m.heir options) (Err fault.Badarg) (λ heir. gives (Ok tt) (after_set_heir s.world t heir))) (λ part same. refl) (λ e.
      world-where whole answer (λ s. heir_after m.heir options) (λ heir s. gives (Ok tt) (after_set_heir s.world t heir)) (λ part same. refl) (λ heir f.
      world-gives whole answer (λ s. tt) (λ s. after_set_heir s.world t heir) (λ u. stay) (λ part same. (refl, heir-moves t heir part same))))))

  transfer-moves : (t q : ℕ) (message : Term) (part : State) → replicated part ≡ replicated whole
      → Moves (λ u. stay) (record whole { world = after_transfer whole.world t q message }) part (record part { world = after_transfer part.world t q message })
  transfer-moves t q message part same =
      moves-states part (record part { world = after_transfer part.world t q message }) (record whole { world = after_transfer whole.world t q message })
      (sym (commutes part) ∙ (ap (λ (s : State). record s { world = after_transfer s.world t q message }) same ∙ commutes whole)) refl
      (λ u. states-changed (with_owner q) (λ table. refl) part.world.tables t u)
    where
      commutes : (s : State) → record (replicated s) { world = after_transfer (replicated s).world t q message } ≡ replicated (record s { world = after_transfer s.world t q message })
      commutes s = ap (λ (ts : Tables). record { limits = record s.limits { objects = 0 }; world = record (after_transfer s.world t q message) { tables = ts } }) (changed-replicated (with_owner q) (λ table. refl) s.world.tables t)

  pub give_away-all : (p : ℕ) (x pid gift : Term) → ForAll (λ s. GiveAway s p x pid gift) whole
  give_away-all p x pid gift =
      let answer : Unit {0} → Reply = λ _. true_reply in
      resolved x (λ t s. refuse_none s (as_pid pid) Badarg (λ q. changes_world s (λ _. true_reply) (tables.GiveAway s.world p t q gift))) (λ t.
      refuse_none-all whole (λ s. as_pid pid) Badarg (λ q s. changes_world s (λ _. true_reply) (tables.GiveAway s.world p t q gift)) (λ part same. refl) (λ q g.
      metadata-all answer t (λ m s.
      refuse s.world (not (is_owner m p)) (Err fault.Badarg) (
      refuse s.world (q == p) (Err fault.Badarg) (
      refuse s.world (not (lives s.world.processes q)) (Err fault.Badarg) (
      gives (Ok tt) (after_transfer s.world t q (transfer_message m t p gift)))))) (λ m.
      world-refuse whole answer fault.Badarg refl (λ s. not (is_owner m p)) (λ s. refuse s.world (q == p) (Err fault.Badarg) (refuse s.world (not (lives s.world.processes q)) (Err fault.Badarg) (gives (Ok tt) (after_transfer s.world t q (transfer_message m t p gift))))) (λ part same. refl) (λ e.
      world-refuse whole answer fault.Badarg refl (λ s. q == p) (λ s. refuse s.world (not (lives s.world.processes q)) (Err fault.Badarg) (gives (Ok tt) (after_transfer s.world t q (transfer_message m t p gift)))) (λ part same. refl) (λ f.
      world-refuse whole answer fault.Badarg refl (λ s. not (lives s.world.processes q)) (λ s. gives (Ok tt) (after_transfer s.world t q (transfer_message m t p gift))) (λ part same. ap (λ ps. not (lives ps q)) (processes-same part whole same)) (λ i.
      world-gives whole answer (λ s. tt) (λ s. after_transfer s.world t q (transfer_message m t p gift)) (λ u. stay) (λ part same. (refl, transfer-moves t q (transfer_message m t p gift) part same))))))))

  -- ---- new tables
  pushed-other : (ts : Tables) (x : Option Table) (u : ℕ) → (u ≡ length ts → ⊥) → table_at (ts ++ x ∷ []) u ≡ table_at ts u
  pushed-other [] x zero apart = absurd (apart refl)
  pushed-other [] x (suc u) apart = refl
  pushed-other (y ∷ ts) x zero apart = refl
  pushed-other (y ∷ ts) x (suc u) apart = pushed-other ts x u (λ e. apart (ap (λ n. suc n) e))

  pushed-own : (ts : Tables) (x : Option Table) → table_at (ts ++ x ∷ []) (length ts) ≡ x
  pushed-own [] x = refl
  pushed-own (y ∷ ts) x = pushed-own ts x

  absent : (ts : Tables) → table_at ts (length ts) ≡ None
  absent [] = refl
  absent (y ∷ ts) = absent ts

  -- a new table has the limit of new ones
  makes_limit : Fate
  makes_limit = record { slot = λ s. Some s; own_key = λ s t e. let is : s ≡ t = cc in ap (λ (x : Slot). x.0) (sym is); limit = made }

  made-slots : [] ≡ filter_map makes_limit.slot []
  made-slots = refl

  made-limit : (old new : ℕ) → new ≡ limit_after makes_limit.limit old new
  unfolding makes_limit
  made-limit old new = refl

  abbrev fate : ℕ → Fate
  fate = only (length whole.world.tables) makes_limit

  empty-content : (n : ℕ) (options : NewOptions) → IsContent (new_table_of n options).content
  unfolding IsDistinct
  empty-content n options = record { distinct = tt; slots = tt; within = omega arith }

  module _ (m : Metadata) (options : NewOptions) where
    abbrev with_new : State → State
    with_new s = record s { world = tables.with_table s.world m (new_table_of s.limits.objects options) }

    new-same : (part : State) → replicated part ≡ replicated whole → replicated (with_new part) ≡ replicated (with_new whole)
    new-same part same = sym (commutes part) ∙ (ap with_new same ∙ commutes whole)
      where
        commutes : (s : State) → with_new (replicated s) ≡ replicated (with_new s)
        commutes s = ap (λ (ts : Tables). record { limits = record s.limits { objects = 0 }; world = record s.world { tables = ts } }) (push-replicated s.world.tables (record { metadata = m; state = new_table_of s.limits.objects options }))

    module _ (part : State) where
      own-state : (u : ℕ) → u ≡ length part.world.tables → state_at (with_new part).world.tables u ≡ Some (new_table_of part.limits.objects options)
      own-state u e =
          ap (state_at (with_new part).world.tables) e
          ∙ ap (option_map (λ (table : Table). table.state)) (pushed-own part.world.tables (Some (record { metadata = m; state = new_table_of part.limits.objects options })))

      no-state : (u : ℕ) → u ≡ length part.world.tables → state_at part.world.tables u ≡ None
      no-state u e = ap (state_at part.world.tables) e ∙ ap (option_map (λ (table : Table). table.state)) (absent part.world.tables)

      other-state : (u : ℕ) → (u ≡ length part.world.tables → ⊥) → state_at (with_new part).world.tables u ≡ state_at part.world.tables u
      other-state u apart = ap (option_map (λ (table : Table). table.state)) (pushed-other part.world.tables (Some (record { metadata = m; state = new_table_of part.limits.objects options })) u apart)

    new-moves : (part : State) → replicated part ≡ replicated whole → Moves (only (length whole.world.tables) makes_limit) (with_new whole) part (with_new part)
    new-moves part same = record {
      same = new-same part same;
      slots = λ u. slots-at u (same-or-not u (length part.world.tables));
      limits = λ u. limits-at u (same-or-not u (length part.world.tables));
      new_limit = refl;
      contents = λ contents u table at. contents-at contents u table at (same-or-not u (length part.world.tables));
    }
      where
        last : length part.world.tables ≡ length whole.world.tables
        last = lengths-same part whole same

        fate-own : (u : ℕ) → u ≡ length part.world.tables → fate u ≡ makes_limit
        fate-own u e = ap fate (e ∙ last) ∙ only-this (length whole.world.tables) makes_limit

        fate-other : (u : ℕ) → (u ≡ length part.world.tables → ⊥) → fate u ≡ stay
        fate-other u apart = only-other (length whole.world.tables) u makes_limit (λ e. apart (e ∙ sym last))

        slots-at : (u : ℕ) → (u ≡ length part.world.tables) ⊎ (u ≡ length part.world.tables → ⊥) → slots_in u (with_new part) ≡ filter_map (fate u).slot (slots_in u part)
        slots-at u (inl e) =
            slots-by (with_new part) u
            ∙ (ap (λ o. option_map_or (λ (f : TableState). f.content.slots) o []) (own-state part u e)
            ∙ (made-slots ∙ (ap (λ (f : Fate). filter_map f.slot []) (sym (fate-own u e))
            ∙ ap (filter_map (fate u).slot) (sym (slots-by part u ∙ ap (λ o. option_map_or (λ (f : TableState). f.content.slots) o []) (no-state part u e))))))
        slots-at u (inr apart) =
            slots-by (with_new part) u
            ∙ (ap (λ o. option_map_or (λ (f : TableState). f.content.slots) o []) (other-state part u apart)
            ∙ (sym (slots-by part u) ∙ (stay-slots (slots_in u part) ∙ ap (λ (f : Fate). filter_map f.slot (slots_in u part)) (sym (fate-other u apart)))))

        limits-at : (u : ℕ) → (u ≡ length part.world.tables) ⊎ (u ≡ length part.world.tables → ⊥) → limit_in u (with_new part) ≡ limit_after (fate u).limit (limit_in u part) (limit_of_new part)
        limits-at u (inl e) =
            limit-by (with_new part) u
            ∙ (ap (λ o. option_map_or (λ (f : TableState). f.content.limit) o 0) (own-state part u e)
            ∙ (made-limit (limit_in u part) (limit_of_new part) ∙ ap (λ (f : Fate). limit_after f.limit (limit_in u part) (limit_of_new part)) (sym (fate-own u e))))
        limits-at u (inr apart) =
            limit-by (with_new part) u
            ∙ (ap (λ o. option_map_or (λ (f : TableState). f.content.limit) o 0) (other-state part u apart)
            ∙ (sym (limit-by part u) ∙ (stay-limit (limit_in u part) (limit_of_new part) ∙ ap (λ (f : Fate). limit_after f.limit (limit_in u part) (limit_of_new part)) (sym (fate-other u apart)))))

        contents-at : HasContents part → (u : ℕ) (table : Table) → table_at (with_new part).world.tables u ≡ Some table → (u ≡ length part.world.tables) ⊎ (u ≡ length part.world.tables → ⊥) → IsContent table.state.content
        contents-at contents u table at (inl e) =
            let is : Some (new_table_of part.limits.objects options) ≡ Some table.state = sym (own-state part u e) ∙ ap (option_map (λ (own : Table). own.state)) at in
            let state : new_table_of part.limits.objects options ≡ table.state = cc in
            subst (λ (f : TableState). IsContent f.content) state (empty-content part.limits.objects options)
        contents-at contents u table at (inr apart) =
            contents-of part u contents table.state (sym (other-state part u apart) ∙ ap (option_map (λ (own : Table). own.state)) at)

  pub new-all : (p : ℕ) (x options : Term) → ForAll (λ s. New s p x options) whole
  new-all p x options =
      refuse_none-all whole (λ s. as_atom x) Badarg (λ text s. refuse_none s (options_of options) Badarg (λ o. changes_world s Value (tables.New s.world p text o (new_table_of s.limits.objects o)))) (λ part same. refl) (λ text e.
      refuse_none-all whole (λ s. options_of options) Badarg (λ o s. changes_world s Value (tables.New s.world p text o (new_table_of s.limits.objects o))) (λ part same. refl) (λ o f.
      world-refuse whole Value fault.Badarg refl (λ s. o.named && is_some (whereis s.world.tables text))
      (λ s. refuse s.world (nat_le s.world.max_tables (length s.world.tables)) (Err fault.SystemLimit) (gives (Ok (name_or_identifier o.named text (length s.world.tables))) (tables.with_table s.world (new_metadata p text o) (new_table_of s.limits.objects o))))
      (λ part same. ap (λ w. o.named && is_some w) (whereis-same part whole same text)) (λ g.
      world-refuse whole Value fault.SystemLimit refl (λ s. nat_le s.world.max_tables (length s.world.tables))
      (λ s. gives (Ok (name_or_identifier o.named text (length s.world.tables))) (tables.with_table s.world (new_metadata p text o) (new_table_of s.limits.objects o)))
      (λ part same. λ i. nat_le (ap (λ (s : State). s.world.max_tables) same i) (lengths-same part whole same i)) (λ h.
      world-gives whole Value (λ s. name_or_identifier o.named text (length s.world.tables)) (λ s. tables.with_table s.world (new_metadata p text o) (new_table_of s.limits.objects o)) (only (length whole.world.tables) makes_limit) (λ part same.
      (ap (λ n. Value (name_or_identifier o.named text n)) (lengths-same part whole same), new-moves (new_metadata p text o) o part same))))))
