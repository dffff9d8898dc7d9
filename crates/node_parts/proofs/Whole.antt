-- One part among the parts of a state: its tables, the slots of the other parts, and the room that they leave.
use Rattle.std.proofs.Common.{◌≡◌, ℕ, ◌+◌, ◌≤◌, Bool, true, false, cond, List, [], ◌∷◌, Option, None, Some, option_map, option_and_then, refl, sym, ap, subst, ◌∙◌, arith}
use Rattle.std.specs.Prelude.{slice_get}
use Rattle.std.specs.List.{AllByRecursion, flat_map, sum_by}
use Rattle.std.specs.Option.{option_map_or}
use Rattle.ets_term.specs.declared.term.Term.{Term}
use Rattle.ets_term.specs.Order.{same}
use Rattle.ets_term.specs.laws.Same.{same-exact}
use Rattle.bucket_table.specs.Slots.{Slot, objects_of, object_count}
use Rattle.table_ops.specs.Invariants.{IsSlot, AreSlots}
use Rattle.ownership.specs.declared.metadata.Metadata.{Metadata}
use Rattle.ownership.specs.World.{Table, table_at, resolve}
use Rattle.node_core.specs.declared.node.access.Access.{Access}
use Rattle.node_core.specs.State.{State}
use Rattle.node_core.specs.Access.{may_access, table_if_allowed, usable}
use Rattle.node_core.specs.laws.Kept.{slots_in}
use Rattle.node_parts.specs.Parts.{replicated_table, replicated_tables, replicated, limit_in, HasAllRoom, HasContents, IsPart, ArePartsOf}
use Rattle.node_parts.proofs.Around.{around, count-around, count-parts}
use Rattle.node_parts.proofs.AroundContents.{Rest, IsMine}
use Rattle.node_parts.proofs.AroundContents as content
use Rattle.node_parts.proofs.Found.{at-replicated, resolve-replicated}
use Rattle.node_parts.proofs.Lists.{Split, split, sum-around, flat-around, flat-all, flat-within}
use Rattle.node_parts.proofs.Rules.{around_state}

-- a key that none of these slots has
none-of : (key : Term) (slots : List Slot) → AllByRecursion (λ slot. same key slot.0 ≡ false) slots → objects_of slots key ≡ None
none-of key [] h = refl
none-of key (s ∷ ss) h = ap (λ b. cond b (Some s.1) (objects_of ss key)) h.0 ∙ none-of key ss h.1

-- keys of two parts differ
apart-keys : (part_of : Term → ℕ) (key own : Term) (j k : ℕ) → part_of key ≡ k → part_of own ≡ j → (j ≡ k → ⊥) → same key own ≡ false
apart-keys part_of key own j k mine other apart = by (same key own) refl
  where
    by : (b : Bool) → same key own ≡ b → same key own ≡ false
    by false e = e
    by true e = absurd (apart (sym other ∙ ap part_of (sym (same-exact key own e)) ∙ mine))

apart-slots : (part_of : Term → ℕ) (key : Term) (j k : ℕ) → part_of key ≡ k → (j ≡ k → ⊥) → (slots : List Slot) → AllByRecursion (λ slot. part_of slot.0 ≡ j) slots
    → AllByRecursion (λ slot. same key slot.0 ≡ false) slots
apart-slots part_of key j k mine apart [] h = tt
apart-slots part_of key j k mine apart (s ∷ ss) h = (apart-keys part_of key s.0 j k mine h.0 apart, apart-slots part_of key j k mine apart ss h.1)

-- ---- two states that have the same in each part
module _ (one other : State) (same : replicated one ≡ replicated other) where
  tables-same : replicated_tables one.world.tables ≡ replicated_tables other.world.tables
  tables-same = ap (λ (s : State). s.world.tables) same

  pub resolve-same : (x : Term) → resolve other.world.tables x ≡ resolve one.world.tables x
  resolve-same x =
      sym (resolve-replicated other.world.tables x)
      ∙ (ap (λ ts. resolve ts x) (sym tables-same) ∙ resolve-replicated one.world.tables x)

  pub table-same : (t : ℕ) → option_map replicated_table (table_at one.world.tables t) ≡ option_map replicated_table (table_at other.world.tables t)
  table-same t =
      sym (at-replicated one.world.tables t)
      ∙ (ap (λ ts. table_at ts t) tables-same ∙ at-replicated other.world.tables t)

-- a table of two states that a term names and a process may use, or none in either
pub record AreFound (one other : State) (x : Term) (mine all : ℕ × Table) : Type 0 where
  pub named : resolve one.world.tables x ≡ Some mine.0
  pub at : table_at one.world.tables mine.0 ≡ Some mine.1
  pub there : table_at other.world.tables mine.0 ≡ Some all.1
  pub number : all.0 ≡ mine.0

abbrev pub FoundInBoth : State → State → Term → Option (ℕ × Table) → Option (ℕ × Table) → Type 0
FoundInBoth one other x None None = Unit {0}
FoundInBoth one other x None (Some all) = ⊥
FoundInBoth one other x (Some mine) None = ⊥
FoundInBoth one other x (Some mine) (Some all) = AreFound one other x mine all

module _ (one other : State) (same : replicated one ≡ replicated other) (access : Access) (p : ℕ) (x : Term) where
  allowed-at : (b c : Bool) (t : ℕ) (mine all : Table) → c ≡ b → AreFound one other x (t, mine) (t, all) → FoundInBoth one other x (cond b (Some (t, mine)) None) (cond c (Some (t, all)) None)
  allowed-at true true t mine all e a = a
  allowed-at false false t mine all e a = tt
  allowed-at true false t mine all e a = cc
  allowed-at false true t mine all e a = cc

  there-at : (t : ℕ) (o u : Option Table) → resolve one.world.tables x ≡ Some t → table_at one.world.tables t ≡ o → table_at other.world.tables t ≡ u → option_map replicated_table o ≡ option_map replicated_table u
      → FoundInBoth one other x (option_and_then (table_if_allowed access p t) o) (option_and_then (table_if_allowed access p t) u)
  there-at t None None named at there e = tt
  there-at t None (Some all) named at there e = cc
  there-at t (Some mine) None named at there e = cc
  there-at t (Some mine) (Some all) named at there e =
      let table : replicated_table mine ≡ replicated_table all = cc in
      let metadata : all.metadata ≡ mine.metadata = ap (λ (own : Table). own.metadata) (sym table) in
      allowed-at (may_access access mine.metadata p) (may_access access all.metadata p) t mine all (ap (λ (m : Metadata). may_access access m p) metadata)
      (record { named = named; at = at; there = there; number = refl })

  named-at : (o : Option ℕ) → resolve one.world.tables x ≡ o
      → FoundInBoth one other x (option_and_then (λ t. option_and_then (table_if_allowed access p t) (table_at one.world.tables t)) o)
      (option_and_then (λ t. option_and_then (table_if_allowed access p t) (table_at other.world.tables t)) o)
  named-at None e = tt
  named-at (Some t) e = there-at t (table_at one.world.tables t) (table_at other.world.tables t) e refl refl (table-same one other same t)

  pub usable-same : FoundInBoth one other x (usable access one.world.tables p x) (usable access other.world.tables p x)
  usable-same =
      subst (λ (o : Option ℕ). FoundInBoth one other x (usable access one.world.tables p x) (option_and_then (λ t. option_and_then (table_if_allowed access p t) (table_at other.world.tables t)) o))
      (sym (resolve-same one other same x)) (named-at (resolve one.world.tables x) refl)

-- ---- what a table says of slots and limits
pub slots-at : (s : State) (t : ℕ) (table : Table) → table_at s.world.tables t ≡ Some table → slots_in t s ≡ table.state.content.slots
slots-at s t table at = ap (λ o. option_map_or (λ (own : Table). own.state.content.slots) o []) at

pub limit-at : (s : State) (t : ℕ) (table : Table) → table_at s.world.tables t ≡ Some table → limit_in t s ≡ table.state.content.limit
limit-at s t table at = ap (λ o. option_map_or (λ (own : Table). own.state.content.limit) o 0) at

counted-at : (s : State) (t : ℕ) → HasContents s → (o : Option Table) → table_at s.world.tables t ≡ o
    → object_count (option_map_or (λ table. table.state.content.slots) o []) ≤ option_map_or (λ table. table.state.content.limit) o 0
counted-at s t contents None at = omega arith
counted-at s t contents (Some table) at = (contents t table at).within

pub counted : (s : State) (t : ℕ) → HasContents s → object_count (slots_in t s) ≤ limit_in t s
counted s t contents = counted-at s t contents (table_at s.world.tables t) refl

kept-at : (s : State) (t : ℕ) (mine : Table) → HasContents s → (o : Option Table) → table_at s.world.tables t ≡ o → option_map replicated_table o ≡ Some (replicated_table mine)
    → AreSlots mine.state.content.kind mine.state.content.keypos (option_map_or (λ table. table.state.content.slots) o [])
kept-at s t mine contents None at e = cc
kept-at s t mine contents (Some table) at e =
    let is : replicated_table table ≡ replicated_table mine = cc in
    subst (λ (own : Table). AreSlots own.state.content.kind own.state.content.keypos table.state.content.slots) is (contents t table at).slots

-- ---- one part
-- this part is at place k
pub record IsAt (parts : List State) (k : ℕ) (part : State) : Type 0 where
  pub there : slice_get parts k ≡ Some part

module _ {part_of : ℕ → Term → ℕ} {parts : List State} {whole : State} {k : ℕ} {part : State} (are : ArePartsOf part_of parts whole) (at : IsAt parts k part) where
  pub opened : Split parts k part
  opened = split parts k part at.there

  pub own : IsPart part_of whole k part
  own = are.each k part at.there

  -- the slots of the parts before and after this one, and the limit of the whole
  abbrev pub front : ℕ → List Slot
  front t = flat_map (slots_in t) opened.before

  abbrev pub back : ℕ → List Slot
  back t = flat_map (slots_in t) opened.after

  -- the rest of a table
  abbrev pub rest_of : ℕ → Rest
  rest_of t = record { front = front t; back = back t; limit = limit_in t whole; Belongs = λ key. part_of t key ≡ k }

  pub whole-slots : (t : ℕ) → slots_in t whole ≡ around (front t) (back t) (slots_in t part)
  whole-slots t =
      are.slots t
      ∙ (ap (flat_map (slots_in t)) opened.is ∙ flat-around (slots_in t) opened.before opened.after part)

  pub key-mine : (t : ℕ) (key : Term) → part_of t key ≡ k → IsMine (rest_of t) key
  key-mine t key mine =
      let others = opened.others (λ (q : State). AllByRecursion (λ (slot : Slot). same key slot.0 ≡ false) (slots_in t q)) (λ j q apart e.
      apart-slots (part_of t) key j k mine apart (slots_in t q) ((are.each j q e).keys t)) in
      record {
        apart = record {
          before = none-of key (front t) (flat-all (λ (slot : Slot). same key slot.0 ≡ false) (slots_in t) opened.before others.0);
          behind = none-of key (back t) (flat-all (λ (slot : Slot). same key slot.0 ≡ false) (slots_in t) opened.after others.1);
        };
        own = mine;
      }

  -- the other parts keep the invariant of slots, of a table of this part
  pub others-kept : (t : ℕ) (mine : Table) → table_at part.world.tables t ≡ Some mine
      → AreSlots mine.state.content.kind mine.state.content.keypos (front t) × AreSlots mine.state.content.kind mine.state.content.keypos (back t)
  others-kept t mine there =
      let kind = mine.state.content.kind in
      let keypos = mine.state.content.keypos in
      let others = opened.others (λ (q : State). AreSlots mine.state.content.kind mine.state.content.keypos (slots_in t q)) (λ j q apart e.
      let its = are.each j q e in
      kept-at q t mine its.contents (table_at q.world.tables t) refl
      (table-same q part (its.same ∙ sym own.same) t ∙ ap (option_map replicated_table) there)) in
      (flat-all (IsSlot kind keypos) (slots_in t) opened.before others.0, flat-all (IsSlot kind keypos) (slots_in t) opened.after others.1)

  -- slots within the limit of the part leave room in the whole
  pub has-room : (t : ℕ) (slots : List Slot) → object_count slots ≤ limit_in t part → object_count (around (front t) (back t) slots) ≤ limit_in t whole
  has-room t slots most =
      let others = opened.others (λ (q : State). object_count (slots_in t q) ≤ limit_in t q) (λ j q apart e. counted q t (are.each j q e).contents) in
      let before : object_count (front t) ≤ sum_by (limit_in t) opened.before = flat-within object_count (slots_in t) (limit_in t) refl count-parts opened.before others.0 in
      let after : object_count (back t) ≤ sum_by (limit_in t) opened.after = flat-within object_count (slots_in t) (limit_in t) refl count-parts opened.after others.1 in
      let sum : sum_by (limit_in t) parts ≡ sum_by (limit_in t) opened.before + (limit_in t part + sum_by (limit_in t) opened.after) =
      ap (sum_by (limit_in t)) opened.is ∙ sum-around (limit_in t) opened.before opened.after part in
      let limits = are.limits t in
      omega (arith, count-around (front t) (back t) slots, before, after, sum, limits, most)

  -- a part that has all room of the table has it here
  pub all-room : (t : ℕ) (mine : Table) → table_at part.world.tables t ≡ Some mine → HasAllRoom t whole part → content.HasAllRoom (rest_of t) mine.state.content
  all-room t mine there room =
      let count : object_count (slots_in t whole) ≡ object_count (front t) + (object_count (slots_in t part) + object_count (back t)) =
      ap object_count (whole-slots t) ∙ count-around (front t) (back t) (slots_in t part) in
      let limit = limit-at part t mine there in
      omega (arith, count, limit, room)

  -- a table of the whole is that of the part with the slots of all
  pub whole-table : (t : ℕ) (mine all : Table) → table_at part.world.tables t ≡ Some mine → table_at whole.world.tables t ≡ Some all
      → all ≡ record mine { state = around_state (rest_of t) mine.state }
  whole-table t mine all there at_whole =
      let tables : Some (replicated_table mine) ≡ Some (replicated_table all) =
      ap (option_map replicated_table) (sym there) ∙ (table-same part whole own.same t ∙ ap (option_map replicated_table) at_whole) in
      let is : replicated_table all ≡ replicated_table mine = cc in
      let limit : all.state.content.limit ≡ limit_in t whole = sym (limit-at whole t all at_whole) in
      let slots : all.state.content.slots ≡ around (front t) (back t) mine.state.content.slots =
      sym (slots-at whole t all at_whole) ∙ (whole-slots t ∙ ap (around (front t) (back t)) (slots-at part t mine there)) in
      λ i. record (is i) { state = record (is i).state { content = record (is i).state.content { limit = limit i; slots = slots i } } }
