-- The laws of calls: no call sees the buckets of a table, each moves the world as a step may, and a reply that takes memory to copy is one
-- of a call that changed nothing, or that is named. What holds of a call is proved here once for each form that a call may have.
use Rattle.std.proofs.Common.{◌≡◌, ℕ, ◌==◌, ◌⊎◌, inl, inr, Bool, true, false, List, Option, None, Some, option_map, option_and_then, Result, Ok, Err, refl, sym, subst, subst₂, ap, ◌∙◌, codes}
use Rattle.std.specs.Bool.{MatchBool}
use Rattle.ets_term.specs.declared.term.Term.{Term, out-Term}
use Rattle.ets_term.specs.declared.term.Term.TheVariants.{Tid}
use Rattle.ets_term.specs.Atoms.{is_atom}
use Rattle.ets_term.specs.Views.{as_atom, pid_form}
use Rattle.table_ops.specs.Outcomes.{Outcome, gives, refuse_none}
use Rattle.fixed_walk.specs.TableState.{TableState}
use Rattle.ownership.specs.declared.fault.WorldFault.{WorldFault}
use Rattle.ownership.specs.declared.fault.WorldFault.TheVariants as fault
use Rattle.ownership.specs.declared.info.InfoItem.{InfoItem}
use Rattle.ownership.specs.declared.info.InfoItem.TheVariants as item
use Rattle.ownership.specs.declared.options.NewOptions.{NewOptions}
use Rattle.ownership.specs.World.{Table, World, table_at, resolve, whereis}
use Rattle.ownership.specs.Info.{item_of, info_of}
use Rattle.ownership.specs.Options.{options_of}
use Rattle.ownership.specs.Tables.{without_table}
use Rattle.node_core.specs.declared.node.access.Access.{Access}
use Rattle.node_core.specs.declared.node.access.Access.TheVariants.{Read, Write}
use Rattle.node_core.specs.declared.step.Reply.{Reply}
use Rattle.node_core.specs.declared.step.Reply.TheVariants.{Value, Badarg}
use Rattle.node_core.specs.State.{State}
use Rattle.node_core.specs.Observable.{observable_table_state, observable_table, observable_tables, observable}
use Rattle.node_core.specs.Access.{usable, with_table, CallRule, WorldResultToReply, changes_world, reads, changes}
use Rattle.node_core.specs.rules.Owning.{GiveAway, SetOptions, Receive, value_or_undefined, Whereis, names_form, info_at, Info}
use Rattle.node_core.specs.rules.Replies.{true_reply}
use Rattle.node_core.specs.rules.Tables.{new_table_of, makes, New, DeleteTable}
use Rattle.node_core.specs.rules.Walking.{SafeFixtable}
use Rattle.node_core.specs.inside.ReplyReserve.{is_flat}
use Rattle.node_core.proofs.calls.Changes.{usable-there}
use Rattle.node_core.proofs.moves.Moves.{Moves, moves-same, follows-fixed}
use Rattle.node_core.proofs.calls.Rules.{IsLawful, contrary, true-flat, fixes-lawful, releases-lawful}
use Rattle.node_core.proofs.buckets.ObservableTables.{observable_world, observable_found, at-observable, whereis-observable, resolve-observable, usable-observable, set-observable, with_table-observable}
use Rattle.node_core.proofs.moves.Preserves.{none-bounded, Preserves}
use Rattle.node_core.proofs.moves.WorldLaws.{IsLawfulOutcome, new-lawful, give-lawful, set_options-lawful}
use Rattle.node_core.proofs.moves.WorldMoves.{receive-moves, new-moves, gone-moves, give-moves, heir-moves}

-- what is shown of a step that these processes do, where `needs` says that its reply may take memory although it changes something
pub record IsLawfulReply (own : ℕ → Bool) (needs : Bool) (old : State) (reply : Reply) (new : State) : Type 0 where
  pub limits : new.limits ≡ old.limits
  pub moves : Moves own old.world new.world
  pub quiet : needs ≡ false → (is_flat reply ≡ true) ⊎ (new ≡ old)

-- what is shown of a call: it may come to the same where the buckets are left out, and holds then
pub record IsLawfulCall (own : ℕ → Bool) (needs : Bool) (old : State) (outcome unobservable : Outcome Reply State) : Type 0 where
  pub observable : (reply : Reply) (new : State) → outcome reply new → unobservable reply (observable new)
  pub lawful : (reply : Reply) (new : State) → outcome reply new → IsLawfulReply own needs old reply new

abbrev pub Either : Bool → Outcome Reply State → Outcome Reply State → Outcome Reply State
Either test one other reply new = MatchBool test (one reply new) (other reply new)

world-flat : {X : Type 0} (answer : X → Reply) → ((x : X) → is_flat (answer x) ≡ true)
    → (r : Result X WorldFault) (reply : Reply) → WorldResultToReply answer r reply → is_flat reply ≡ true
world-flat answer flat (Ok x) reply e = ap is_flat e ∙ flat x
world-flat answer flat (Err fault.Badarg) reply e = ap is_flat e
world-flat answer flat (Err fault.SystemLimit) reply e = ap is_flat e
world-flat answer flat (Err fault.NoProcess) reply e = ap is_flat e
world-flat answer flat (Err fault.Memory) reply e = absurd e

-- ---- the replies of `info` and `whereis`
abbrev wheres : State → List ℕ → Reply
wheres s text = value_or_undefined (option_map Tid (whereis s.world.tables text))

item-observable : (i : InfoItem) (t : ℕ) (table : Table) → info_of i t (observable_table table) ≡ info_of i t table
item-observable item.Name t table = refl
item-observable item.NamedTable t table = refl
item-observable item.Owner t table = refl
item-observable item.Protection t table = refl
item-observable item.Heir t table = refl
item-observable item.Id t table = refl
item-observable item.Size t table = refl
item-observable item.Kind t table = refl
item-observable item.Keypos t table = refl
item-observable item.Fixed t table = refl

info-value : (i : InfoItem) (t : ℕ) (o : Option Table)
    → option_map (info_of i t) (option_map observable_table o) ≡ option_map (info_of i t) o
info-value i t None = refl
info-value i t (Some table) = ap Some (item-observable i t table)

info-observable : (w : World) (i : InfoItem) (o : Option ℕ)
    → option_and_then (info_at i (observable_world w)) o ≡ option_and_then (info_at i w) o
info-observable w i None = refl
info-observable w i (Some t) =
    ap (option_map (info_of i t)) (at-observable w.tables t)
    ∙ info-value i t (table_at w.tables t)

abbrev informs : State → Term → InfoItem → Reply
informs s term i = value_or_undefined (option_and_then (info_at i s.world) (resolve s.world.tables term))

informs-observable : (s : State) (term : Term) (i : InfoItem) → informs (observable s) term i ≡ informs s term i
informs-observable s term i =
    ap (λ o. value_or_undefined (option_and_then (info_at i (observable_world s.world)) o)) (resolve-observable s.world.tables term)
    ∙ ap value_or_undefined (info-observable s.world i (resolve s.world.tables term))

-- ---- forms of calls
module _ (own : ℕ → Bool) (needs : Bool) (old : State) where
  abbrev pub Lawful : Outcome Reply State → Outcome Reply State → Type 0
  Lawful outcome unobservable = IsLawfulCall own needs old outcome unobservable

  same-lawful : (answer : Reply) → IsLawfulReply own needs old answer old
  same-lawful answer = record { limits = refl; moves = moves-same own old.world; quiet = λ n. inr refl }

  gives-lawful : (answer : Reply) (after unobservable : State) → observable after ≡ unobservable → IsLawfulReply own needs old answer after
      → Lawful (gives answer after) (gives answer unobservable)
  gives-lawful answer after unobservable same lawful = record {
    observable = λ reply new h. (h.0, ap observable h.1 ∙ same);
    lawful = λ reply new h. subst₂ (IsLawfulReply own needs old) (sym h.0) (sym h.1) lawful;
  }

  -- a call that changes nothing
  pub tells-lawful : (answer : Reply) → Lawful (gives answer old) (gives answer (observable old))
  tells-lawful answer = gives-lawful answer old (observable old) refl (same-lawful answer)

  -- one that reads the same in the observable state
  pub tells-as : (answer other : Reply) → other ≡ answer → Lawful (gives answer old) (gives other (observable old))
  tells-as answer other same =
      subst (λ (r : Reply). Lawful (gives answer old) (gives r (observable old))) (sym same) (tells-lawful answer)

  pub either-lawful : (test : Bool) {one other one' other' : Outcome Reply State} → (test ≡ true → Lawful one one')
      → Lawful other other' → Lawful (Either test one other) (Either test one' other')
  either-lawful true a b = a refl
  either-lawful false a b = b

  where-lawful : {X : Type 0} (o : Option X) {outcome unobservable : X → Outcome Reply State} → ((x : X) → Lawful (outcome x) (unobservable x))
      → Lawful (refuse_none old o Badarg outcome) (refuse_none (observable old) o Badarg unobservable)
  where-lawful None lawful = tells-lawful Badarg
  where-lawful (Some x) lawful = lawful x

  -- the table that was found, and that without its buckets
  found-lawful : (o : Option (ℕ × Table)) (outcome unobservable : ℕ × Table → Outcome Reply State)
      → ((found : ℕ × Table) → o ≡ Some found → Lawful (outcome found) (unobservable (observable_found found)))
      → Lawful (refuse_none old o Badarg outcome) (refuse_none (observable old) (option_map observable_found o) Badarg unobservable)
  found-lawful None outcome unobservable lawful = tells-lawful Badarg
  found-lawful (Some found) outcome unobservable lawful = lawful found refl

  usable-lawful : (access : Access) (p : ℕ) (term : Term) (outcome unobservable : ℕ × Table → Outcome Reply State)
      → ((found : ℕ × Table) → usable access old.world.tables p term ≡ Some found
      → Lawful (outcome found) (unobservable (observable_found found)))
      → Lawful (refuse_none old (usable access old.world.tables p term) Badarg outcome)
      (refuse_none (observable old) (usable access (observable_tables old.world.tables) p term) Badarg unobservable)
  usable-lawful access p term outcome unobservable lawful =
      subst (λ o. Lawful (refuse_none old (usable access old.world.tables p term) Badarg outcome) (refuse_none (observable old) o Badarg unobservable))
      (sym (usable-observable access old.world.tables p term))
      (found-lawful (usable access old.world.tables p term) outcome unobservable lawful)

  -- the identifier that a term names, passed to the rest of the rule
  resolved-lawful : (term : Term) {outcome unobservable : ℕ → Outcome Reply State} → ((t : ℕ) → Lawful (outcome t) (unobservable t))
      → Lawful (refuse_none old (resolve old.world.tables term) Badarg outcome)
      (refuse_none (observable old) (resolve (observable_tables old.world.tables) term) Badarg unobservable)
  resolved-lawful term {outcome = outcome} {unobservable = unobservable} lawful =
      subst (λ o. Lawful (refuse_none old (resolve old.world.tables term) Badarg outcome) (refuse_none (observable old) o Badarg unobservable))
      (sym (resolve-observable old.world.tables term))
      (where-lawful (resolve old.world.tables term) lawful)

  -- a call that reads a table changes nothing
  pub reads-lawful : (p : ℕ) (term : Term) (answer : TableState → Reply) → ((f : TableState) → answer (observable_table_state f) ≡ answer f)
      → Lawful (reads old p term answer) (reads (observable old) p term answer)
  reads-lawful p term answer same =
      usable-lawful Read p term (λ found. gives (answer found.1.state) old) (λ found. gives (answer found.1.state) (observable old)) (λ found there.
      tells-as (answer found.1.state) (answer (observable_table_state found.1.state)) (same found.1.state))

  abbrev AfterRelease : State → CallRule → ℕ × Table → Outcome Reply State
  AfterRelease s rule found reply new = (fixed : TableState) × rule found.1.state reply fixed × (new ≡ with_table s found.0 fixed)

  leaves-lawful : (rule : CallRule) (found : ℕ × Table) → IsLawful own needs rule
      → table_at old.world.tables found.0 ≡ Some found.1
      → Lawful (AfterRelease old rule found) (AfterRelease (observable old) rule (observable_found found))
  leaves-lawful rule found lawful at = record {
    observable =
        λ reply new h. (observable_table_state h.0, lawful.unobservable found.1.state h.0 reply h.1, ap observable h.2 ∙ sym (with_table-observable old found.0 h.0));
    lawful = λ reply new h. subst (λ (s : State). IsLawfulReply own needs old reply s) (sym h.2) (record {
      limits = refl;
      moves =
          record { most = refl; known = same.known; stay = same.stay; tables = follows-fixed own old.world.tables found.0 h.0 (λ was here. preserves_at reply h.0 h.1 was here) };
      quiet = λ n. inl (lawful.flat n found.1.state h.0 reply h.1);
    });
  }
    where
      same : Moves own old.world old.world
      same = moves-same own old.world

      preserves_at : (reply : Reply) (f : TableState) → rule found.1.state reply f → (was : Table)
          → table_at old.world.tables found.0 ≡ Some was → Preserves own was.state f
      preserves_at reply f h was here =
          let e : Some found.1 ≡ Some was = sym at ∙ here in
          let is : found.1 ≡ was = cc in
          subst (λ (table : Table). Preserves own table.state f) is (lawful.preserves found.1.state f reply h)

  -- one that changes it by a rule
  pub changes-lawful : (p : ℕ) (access : Access) (term : Term) {rule : CallRule} → IsLawful own needs rule
      → Lawful (changes old p access term rule) (changes (observable old) p access term rule)
  changes-lawful p access term {rule = rule} lawful =
      usable-lawful access p term (AfterRelease old rule) (AfterRelease (observable old) rule) (λ found there.
      leaves-lawful rule found lawful (usable-there old.world.tables access p term found there).at)

  -- one on processes, heads and names
  pub changes_world-lawful : {X : Type 0} (answer : X → Reply) {outcome unobservable : Outcome (Result X WorldFault) World}
      → (needs ≡ false → (x : X) → is_flat (answer x) ≡ true) → IsLawfulOutcome (Moves own old.world) X outcome unobservable
      → Lawful (changes_world old answer outcome) (changes_world (observable old) answer unobservable)
  changes_world-lawful answer flat lawful = record {
    observable = λ reply new h. (h.0, lawful.observable h.0 new.world h.1, h.2, ap observable h.3);
    lawful = λ reply new h. record {
      limits = ap (λ (s : State). s.limits) h.3;
      moves = lawful.keeps h.0 new.world h.1;
      quiet = λ n. inl (world-flat answer (flat n) h.0 reply h.2);
    };
  }

  -- ---- the calls that do not read or change one table's objects
  still : Moves own old.world old.world
  still = moves-same own old.world

  module _ (p : ℕ) where
    makes-lawful : needs ≡ true → (text : List ℕ) (options : NewOptions)
        → Lawful (makes old p text options) (makes (observable old) p text options)
    makes-lawful needed text options =
        let fixed = new_table_of old.limits.objects options in
        changes_world-lawful Value (λ n. contrary needed n)
        (new-lawful (Moves own old.world) old.world still p text options fixed
        (new-moves own old.world p text options fixed refl refl none-bounded))

    pub new_call-lawful : needs ≡ true → (name options : Term)
        → Lawful (New old p name options) (New (observable old) p name options)
    new_call-lawful needed name options =
        where-lawful (as_atom name) (λ text.
        where-lawful (options_of options) (λ options.
        makes-lawful needed text options))

    abbrev gone : State → ℕ → State
    gone s t = record s { world = without_table s.world t }

    pub delete_table-lawful : (term : Term) → Lawful (DeleteTable old p term) (DeleteTable (observable old) p term)
    delete_table-lawful term =
        usable-lawful Write p term (λ found. gives true_reply (gone old found.0))
        (λ found. gives true_reply (gone (observable old) found.0)) (λ found there.
        gives-lawful true_reply (gone old found.0) (gone (observable old) found.0)
        (ap (λ ts. record old { world = record old.world { tables = ts } }) (sym (set-observable old.world.tables found.0 None)))
        (record { limits = refl; moves = gone-moves own old.world found.0; quiet = λ n. inl true-flat }))

    pub give_away-lawful : (term pid gift : Term)
        → Lawful (GiveAway old p term pid gift) (GiveAway (observable old) p term pid gift)
    give_away-lawful term pid gift =
        resolved-lawful term (λ t.
        where-lawful (pid_form (out-Term pid)) (λ q.
        changes_world-lawful (λ _. true_reply) (λ n x. true-flat)
        (give-lawful (Moves own old.world) old.world still p t q gift (give-moves own old.world p t q gift))))

    pub set_options_call-lawful : (term options : Term)
        → Lawful (SetOptions old p term options) (SetOptions (observable old) p term options)
    set_options_call-lawful term options =
        resolved-lawful term (λ t.
        changes_world-lawful (λ _. true_reply) (λ n x. true-flat)
        (set_options-lawful (Moves own old.world) old.world still p t options (heir-moves own old.world t)))

    pub receive-lawful : needs ≡ true → Lawful (Receive old p) (Receive (observable old) p)
    receive-lawful needed =
        gives-lawful _ _ _ refl (record { limits = refl; moves = receive-moves own old.world p; quiet = λ n. contrary needed n })

  pub whereis-lawful : (name : Term) → Lawful (Whereis old name) (Whereis (observable old) name)
  whereis-lawful name =
      where-lawful (as_atom name) (λ text.
      tells-as (wheres old text) (wheres (observable old) text)
      (ap (λ o. value_or_undefined (option_map Tid o)) (whereis-observable old.world.tables text)))

  pub info-lawful : (term item : Term) → Lawful (Info old term item) (Info (observable old) term item)
  info-lawful term item =
      where-lawful (item_of item) (λ i.
      either-lawful (names_form (out-Term term))
      (λ _. tells-as (informs old term i) (informs (observable old) term i) (informs-observable old term i)) (
      tells-lawful Badarg))

pub fixtable-lawful : (p : ℕ) (needs : Bool) (old : State) (term flag : Term)
    → IsLawfulCall (λ w. p == w) needs old (SafeFixtable old p term flag) (SafeFixtable (observable old) p term flag)
fixtable-lawful p needs old term flag =
    either-lawful own needs old (is_atom (codes "true") flag)
    (λ _. changes-lawful own needs old p Read term (fixes-lawful p needs)) (
    either-lawful own needs old (is_atom (codes "false") flag)
    (λ _. changes-lawful own needs old p Read term (releases-lawful p needs)) (
    tells-lawful own needs old Badarg))
  where
    own : ℕ → Bool
    own w = p == w
