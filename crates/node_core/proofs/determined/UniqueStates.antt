-- Calls over two states that differ in the order of slots alone, by their forms.
use Rattle.std.proofs.Common.{◌≡◌, ℕ, List, Option, None, Some, option_map, option_and_then, Result, refl, sym, ap, subst, subst₂, ◌∙◌, codes}
use Rattle.ets_term.specs.declared.term.Term.{Term, out-Term}
use Rattle.ets_term.specs.declared.term.Term.TheVariants.{Tid}
use Rattle.ets_term.specs.Atoms.{is_atom}
use Rattle.ets_term.specs.Views.{as_atom, as_pid}
use Rattle.bucket_table.specs.Slots.{Slot}
use Rattle.bucket_table.specs.Rows.{HasDistinctKeys}
use Rattle.table_ops.specs.Outcomes.{Outcome, gives, refuse_none}
use Rattle.fixed_walk.specs.TableState.{TableState}
use Rattle.ownership.specs.declared.fault.WorldFault.{WorldFault}
use Rattle.ownership.specs.declared.info.InfoItem.{InfoItem}
use Rattle.ownership.specs.World.{Table, Tables, World, table_at, resolve}
use Rattle.node_core.specs.laws.Reached.{HasNoEnd}
use Rattle.ownership.specs.Info.{item_of}
use Rattle.ownership.specs.Options.{options_of}
use Rattle.ownership.specs.Tables.{without_table}
use Rattle.node_core.specs.declared.node.access.Access.{Access}
use Rattle.node_core.specs.declared.node.access.Access.TheVariants.{Read, Write}
use Rattle.node_core.specs.declared.step.Reply.{Reply}
use Rattle.node_core.specs.declared.step.Reply.TheVariants.{Value, Badarg}
use Rattle.node_core.specs.State.{State}
use Rattle.node_core.specs.Access.{usable, with_table, CallRule, changes_world, reads, changes}
use Rattle.node_core.specs.rules.Owning.{GiveAway, SetOptions, Receive, value_or_undefined, Whereis, names_form, info_at, Info}
use Rattle.node_core.specs.rules.Replies.{true_reply}
use Rattle.node_core.specs.rules.Tables.{new_table_of, New, DeleteTable}
use Rattle.node_core.specs.rules.Walking.{SafeFixtable}
use Rattle.node_core.proofs.calls.Changes.{usable-there}
use Rattle.node_core.proofs.determined.Slots.{SameSlots}
use Rattle.node_core.proofs.determined.Alike.{Alike, AlikeTable, AlikeTables, AlikeStates, AlikeFound, state_with, world_with, with_tables, at-alike, whereis-alike, resolve-alike, usable-alike, set-alike, change-alike}
use Rattle.node_core.proofs.determined.Unique.{Unique, Same, gives-unique, either-unique, refuse_none-unique, UniqueRule, world-reply}
use Rattle.node_core.proofs.determined.UniqueRules.{by-slots, releases-unique, fixes-unique}
use Rattle.node_core.proofs.determined.UniqueWorlds.{UniqueWorld, new-unique, give-unique, options-unique}
use Rattle.node_core.proofs.determined.UniqueInfo.{item-at}

-- no two slots of a table have the same key
abbrev pub HasDistinctSlots : State → Type 0
HasDistinctSlots s = (t : ℕ) (table : Table) → table_at s.world.tables t ≡ Some table → HasDistinctKeys table.state.content.slots

module _ (old : State) (us : Tables) (a : AlikeTables old.world.tables us) (distinct : HasDistinctSlots old) where
  abbrev pub old' : State
  old' = with_tables old us

  pub before : AlikeStates old old'
  before = record { tables = a; rest = refl }

  abbrev pub UniqueBy : (Reply → Reply → Type 0) → Outcome Reply State → Outcome Reply State → Type 0
  UniqueBy R one other = Unique R AlikeStates one other

  pub tells : (x y : Reply) → x ≡ y → UniqueBy Same (gives x old) (gives y old')
  tells x y e = gives-unique Same AlikeStates x y old old' e before

  where-unique : {X : Type 0} (o : Option X) {one other : X → Outcome Reply State} → ((x : X) → UniqueBy Same (one x) (other x)) → UniqueBy Same (refuse_none old o Badarg one) (refuse_none old' o Badarg other)
  where-unique o u = refuse_none-unique Same AlikeStates old old' before Badarg refl o u

  -- ---- the table that a term names
  module _ (R : Reply → Reply → Type 0) (badarg : R Badarg Badarg) where
    found-at : (o u : Option (ℕ × Table)) → AlikeFound o u → (one other : ℕ × Table → Outcome Reply State)
        → ((t u : ℕ × Table) → o ≡ Some t → (u.0 ≡ t.0) × AlikeTable t.1 u.1 → UniqueBy R (one t) (other u)) → UniqueBy R (refuse_none old o Badarg one) (refuse_none old' u Badarg other)
    found-at None None e one other each = gives-unique R AlikeStates Badarg Badarg old old' badarg before
    found-at None (Some u) e one other each = absurd e
    found-at (Some t) None e one other each = absurd e
    found-at (Some t) (Some u) e one other each = each t u refl e

    named : (access : Access) (p : ℕ) (x : Term) (one other : ℕ × Table → Outcome Reply State)
        → ((t u : ℕ × Table) → usable access old.world.tables p x ≡ Some t → (u.0 ≡ t.0) × AlikeTable t.1 u.1 → UniqueBy R (one t) (other u))
        → UniqueBy R (refuse_none old (usable access old.world.tables p x) Badarg one) (refuse_none old' (usable access us p x) Badarg other)
    named access p x one other each =
        found-at (usable access old.world.tables p x) (usable access us p x) (usable-alike access p old.world.tables us a x) one other each

    pub reads-unique : (p : ℕ) (x : Term) (answer : TableState → Reply)
        → ((f : TableState) (ss : List Slot) → SameSlots f.content.slots ss → HasDistinctKeys f.content.slots → R (answer f) (answer (state_with f ss))) → UniqueBy R (reads old p x answer) (reads old' p x answer)
    reads-unique p x answer each =
        named Read p x (λ found. gives (answer found.1.state) old) (λ found. gives (answer found.1.state) old') (λ t u there e.
        let is = usable-there old.world.tables Read p x t there in
        gives-unique R AlikeStates (answer t.1.state) (answer u.1.state) old old'
        (by-slots (λ f g. R (answer f) (answer g)) each t.1.state u.1.state e.1.state (distinct t.0 t.1 is.at)) before)

    -- the same where no key is the end of a table
    pub reads-unique-free : ((t : ℕ) (table : Table) → table_at old.world.tables t ≡ Some table → HasNoEnd table.state.content.slots) → (p : ℕ) (x : Term) (answer : TableState → Reply)
        → ((f : TableState) (ss : List Slot) → SameSlots f.content.slots ss → HasDistinctKeys f.content.slots → HasNoEnd f.content.slots → R (answer f) (answer (state_with f ss))) → UniqueBy R (reads old p x answer) (reads old' p x answer)
    reads-unique-free free p x answer each =
        named Read p x (λ found. gives (answer found.1.state) old) (λ found. gives (answer found.1.state) old') (λ t u there e.
        let is = usable-there old.world.tables Read p x t there in
        gives-unique R AlikeStates (answer t.1.state) (answer u.1.state) old old'
        (by-slots (λ f g. HasNoEnd f.content.slots → R (answer f) (answer g)) each t.1.state u.1.state e.1.state (distinct t.0 t.1 is.at) (free t.0 t.1 is.at)) before)

  -- a change of a table
  written : (n m : ℕ) → m ≡ n → (f g : TableState) → Alike f g → AlikeStates (with_table old n f) (with_table old' m g)
  written n m e f g alike =
      subst (λ (k : ℕ). AlikeStates (with_table old n f) (with_table old' k g)) (sym e) (record {
        tables = set-alike old.world.tables us a n _ _ (change-alike (λ table. record table { state = f }) (λ table. record table { state = g }) (λ t u h. record { metadata = h.metadata; state = alike }) (table_at old.world.tables n) (table_at us n) (at-alike old.world.tables us a n));
        rest = refl;
      })

  pub changes-unique : (p : ℕ) (access : Access) (x : Term) {rule : CallRule} → UniqueRule rule → UniqueBy Same (changes old p access x rule) (changes old' p access x rule)
  changes-unique p access x {rule = rule} unique =
      named Same refl access p x _ _ (λ t u there e r q new next h k.
      let is = usable-there old.world.tables access p x t there in
      let both = unique t.1.state u.1.state e.1.state (distinct t.0 t.1 is.at) r q h.0 k.0 h.1 k.1 in
      (both.0, subst₂ AlikeStates (sym h.2) (sym k.2) (written t.0 u.0 e.0 h.0 k.0 both.1)))

  -- ---- processes and tables
  pub world-unique : {X : Type 0} (answer : X → Reply) {one other : Outcome (Result X WorldFault) World} → UniqueWorld old.world us a one other
      → UniqueBy Same (changes_world old answer one) (changes_world old' answer other)
  world-unique answer unique r q new next h k =
      let both = unique h.0 k.0 new.world next.world h.1 k.1 in (
        world-reply answer h.0 k.0 r q both.0 h.2 k.2,
        record {
          tables = both.1.tables;
          rest = k.3 ∙ (ap (λ (w : World). record old { world = w }) both.1.rest ∙ ap (λ l. record { limits = l; world = world_with new.world next.world.tables }) (sym (ap (λ (s : State). s.limits) h.3)));
        },
      )

  resolved : (x : Term) {one other : ℕ → Outcome Reply State} → ((t : ℕ) → UniqueBy Same (one t) (other t))
      → UniqueBy Same (refuse_none old (resolve old.world.tables x) Badarg one) (refuse_none old' (resolve us x) Badarg other)
  resolved x {one = one} {other = other} each =
      subst (λ o. UniqueBy Same (refuse_none old (resolve old.world.tables x) Badarg one) (refuse_none old' o Badarg other)) (sym (resolve-alike old.world.tables us a x)) (where-unique (resolve old.world.tables x) each)

  pub new_call-unique : (p : ℕ) (x options : Term) → UniqueBy Same (New old p x options) (New old' p x options)
  new_call-unique p x options =
      where-unique (as_atom x) (λ text. where-unique (options_of options) (λ o.
      world-unique Value (new-unique old.world us a p text o (new_table_of old.limits.objects o))))

  pub delete_table-unique : (p : ℕ) (x : Term) → UniqueBy Same (DeleteTable old p x) (DeleteTable old' p x)
  delete_table-unique p x =
      named Same refl Write p x (λ found. gives true_reply (record old { world = without_table old.world found.0 })) (λ found. gives true_reply (record old' { world = without_table old'.world found.0 })) (λ t u there e.
      gives-unique Same AlikeStates true_reply true_reply (record old { world = without_table old.world t.0 }) (record old' { world = without_table old'.world u.0 }) refl
      (subst (λ (n : ℕ). AlikeStates (record old { world = without_table old.world t.0 }) (record old' { world = without_table old'.world n })) (sym e.0)
      (record { tables = set-alike old.world.tables us a t.0 None None tt; rest = refl })))

  pub give_away-unique : (p : ℕ) (x pid gift : Term) → UniqueBy Same (GiveAway old p x pid gift) (GiveAway old' p x pid gift)
  give_away-unique p x pid gift = resolved x (λ t. where-unique (as_pid pid) (λ q. world-unique (λ _. true_reply) (give-unique old.world us a p t q gift)))

  pub set_options-unique : (p : ℕ) (x options : Term) → UniqueBy Same (SetOptions old p x options) (SetOptions old' p x options)
  set_options-unique p x options = resolved x (λ t. world-unique (λ _. true_reply) (options-unique old.world us a p t options))

  pub receive-unique : (p : ℕ) → UniqueBy Same (Receive old p) (Receive old' p)
  receive-unique p = gives-unique Same AlikeStates _ _ _ _ refl (record { tables = a; rest = refl })

  pub whereis_call-unique : (x : Term) → UniqueBy Same (Whereis old x) (Whereis old' x)
  whereis_call-unique x = where-unique (as_atom x) (λ text.
      tells _ _ (ap (λ o. value_or_undefined (option_map Tid o)) (sym (whereis-alike old.world.tables us a text))))

  informed : (i : InfoItem) (o : Option ℕ) → option_and_then (info_at i old.world) o ≡ option_and_then (info_at i old'.world) o
  informed i None = refl
  informed i (Some t) = item-at i t (table_at old.world.tables t) (table_at us t) (at-alike old.world.tables us a t)

  pub info-unique : (x item : Term) → UniqueBy Same (Info old x item) (Info old' x item)
  info-unique x item = where-unique (item_of item) (λ i.
      either-unique Same AlikeStates (names_form (out-Term x))
      (tells _ _ (ap value_or_undefined (informed i (resolve old.world.tables x) ∙ ap (option_and_then (info_at i old'.world)) (sym (resolve-alike old.world.tables us a x)))))
      (tells Badarg Badarg refl))

  pub fixtable-unique : (p : ℕ) (x flag : Term) → UniqueBy Same (SafeFixtable old p x flag) (SafeFixtable old' p x flag)
  fixtable-unique p x flag =
      either-unique Same AlikeStates (is_atom (codes "true") flag) (changes-unique p Read x (fixes-unique p)) (
      either-unique Same AlikeStates (is_atom (codes "false") flag) (changes-unique p Read x (releases-unique p)) (
      tells Badarg Badarg refl))
