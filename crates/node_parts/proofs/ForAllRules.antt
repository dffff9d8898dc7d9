-- Changes of one table and ends of processes, which each part makes.
use Rattle.std.proofs.Common.{◌≡◌, ◌⊎◌, inl, inr, ℕ, zero, suc, ◌+◌, ◌-◌, ◌<◌, ◌≤◌, Bool, true, false, ◌||◌, not, nat_lt, cond, List, [], ◌∷◌, Option, None, Some, option_map, Result, Ok, Err, refl, sym, ap, subst, ◌∙◌, codes, arith}
use Rattle.std.specs.Prelude.{slice_set, filter_map, MatchOption}
use Rattle.std.specs.Bool.{MatchBool}
use Rattle.std.specs.List.{cons_option}
use Rattle.std.specs.Option.{option_map_or}
use Rattle.std.proofs.lemmas.Bool.Decides.{nat_tests}
use Rattle.ets_term.specs.declared.term.Term.{Term}
use Rattle.ets_term.specs.Atoms.{is_atom}
use Rattle.ets_term.specs.Data.{data_of}
use Rattle.bucket_table.specs.Slots.{Slot, has_objects, object_count, without_tombstones}
use Rattle.bucket_table.specs.Rows.{HasDistinctKeys}
use Rattle.match_spec.specs.Specifications.{is_pattern}
use Rattle.table_ops.specs.declared.refusal.Refusal.{Refusal}
use Rattle.table_ops.specs.declared.refusal.Refusal.TheVariants as refusal
use Rattle.table_ops.specs.Drop.{Which, objects_left, after_drop, every_object}
use Rattle.table_ops.specs.Invariants.{AreSlots, IsContent}
use Rattle.table_ops.specs.Outcomes.{Outcome, gives, refuse_none}
use Rattle.table_ops.specs.Queries.{matches}
use Rattle.table_ops.proofs.CountLaws.{count-purged}
use Rattle.table_ops.proofs.DropLaws.{slots-purged}
use Rattle.fixed_walk.specs.declared.fault.FixFault.{FixFault}
use Rattle.fixed_walk.specs.declared.fault.FixFault.TheVariants as fix
use Rattle.fixed_walk.specs.Fixes.{FixCounts, fix_count, max_fixes, is_fixed, with_count}
use Rattle.fixed_walk.specs.TableState.{TableState, after_delete, IncrementsFix, without_tombstones_if_unfixed, after_release}
use Rattle.fixed_walk.proofs.KeptLaws.{release-keeps}
use Rattle.ownership.specs.World.{Table, Tables, table_at}
use Rattle.ownership.specs.Tables.{without_table}
use Rattle.node_core.specs.declared.node.access.Access.{Access}
use Rattle.node_core.specs.declared.node.access.Access.TheVariants.{Read, Write}
use Rattle.node_core.specs.declared.step.Reply.{Reply}
use Rattle.node_core.specs.declared.step.Reply.TheVariants.{Badarg, SystemLimit}
use Rattle.node_core.specs.State.{State}
use Rattle.node_core.specs.Access.{CallRule, ChangeResultToReply, usable, with_table, replies, changes}
use Rattle.node_core.specs.laws.Kept.{slots_in}
use Rattle.node_core.specs.rules.Removal.{DeleteAllObjects}
use Rattle.node_core.specs.rules.Replies.{true_reply}
use Rattle.node_core.specs.rules.Searching.{Deletes, MatchDelete}
use Rattle.node_core.specs.rules.Tables.{DeleteTable}
use Rattle.node_core.specs.rules.Walking.{FixResultToReply, Fixes, Releases, SafeFixtable}
use Rattle.node_parts.specs.Parts.{replicated_table, replicated, limit_in, limit_of_new, HasContents}
use Rattle.node_parts.proofs.ForAll.{Fate, stays, gone, limit_after, stay, stay-slots, stay-limit, Moves, ForAll, moves-same, gives-all, tells-all, refuse_none-all, either-all, through}
use Rattle.node_parts.proofs.ForAllTables.{set-replicated, replicated_state, with_table-replicated, only, only-this, only-other}
use Rattle.node_parts.proofs.Kept.{deleted-kept}
use Rattle.node_parts.proofs.Lists.{same-or-not}
use Rattle.node_parts.proofs.Merged.{slots-own, limit-own, slots-other, limit-other}
use Rattle.node_parts.proofs.Whole.{FoundInBoth, usable-same, table-same, slots-at, limit-at}
use Rattle.node_parts.proofs.Written.{set-other, state-own, state-other}

-- ---- what a rule does to the table of each part
pub record Thins : Type 0 where
  pub slot : Slot → Option Slot
  pub own_key : (s t : Slot) → slot s ≡ Some t → t.0 ≡ s.0

pub record RuleMoves (thins : Thins) (next mine f : TableState) : Type 0 where
  pub same : replicated_state f ≡ replicated_state next
  pub slots : f.content.slots ≡ filter_map thins.slot mine.content.slots
  pub limit : f.content.limit ≡ mine.content.limit
  pub content : IsContent mine.content → IsContent f.content

pub record RuleForAll (rule : CallRule) (all : TableState) : Type 0 where
  pub reply : Reply
  pub next : TableState
  pub thins : Thins
  pub each : (mine : TableState) → replicated_state mine ≡ replicated_state all → (r : Reply) (f : TableState) → rule mine r f
      → (r ≡ reply) × rule all reply next × RuleMoves thins next mine f

abbrev pub thinned : Thins → Fate
thinned thins = record { slot = thins.slot; own_key = thins.own_key; limit = stays }

alike-tables : (part whole : State) → replicated part ≡ replicated whole → (t : ℕ) (mine all : Table) → table_at part.world.tables t ≡ Some mine → table_at whole.world.tables t ≡ Some all
    → replicated_state mine.state ≡ replicated_state all.state
alike-tables part whole same t mine all at there =
    let both : Some (replicated_table mine) ≡ Some (replicated_table all) = ap (option_map replicated_table) (sym at) ∙ (table-same part whole same t ∙ ap (option_map replicated_table) there) in
    let table : replicated_table mine ≡ replicated_table all = cc in
    ap (λ (own : Table). own.state) table

module _ (whole : State) where
  table-moves : (part : State) → replicated part ≡ replicated whole → (t : ℕ) (mine : Table) (f next : TableState) (thins : Thins) → table_at part.world.tables t ≡ Some mine → RuleMoves thins next mine.state f
      → Moves (only t (thinned thins)) (with_table whole t next) part (with_table part t f)
  table-moves part same t mine f next thins at moves = record {
    same = sym (with_table-replicated part t f) ∙ ((λ i. with_table (same i) t (moves.same i)) ∙ with_table-replicated whole t next);
    slots = λ u. slots-by u (same-or-not u t);
    limits = λ u. limits-by u (same-or-not u t);
    new_limit = refl;
    contents = λ contents u table there. contents-by contents u table there (same-or-not u t);
  }
    where
      slots-by : (u : ℕ) → (u ≡ t) ⊎ (u ≡ t → ⊥) → slots_in u (with_table part t f) ≡ filter_map (only t (thinned thins) u).slot (slots_in u part)
      slots-by u (inl e) =
          subst (λ (v : ℕ). slots_in v (with_table part t f) ≡ filter_map (only t (thinned thins) v).slot (slots_in v part)) (sym e)
          (slots-own part t mine f at
          ∙ (moves.slots
          ∙ (ap (filter_map thins.slot) (sym (slots-at part t mine at)) ∙ ap (λ (g : Fate). filter_map g.slot (slots_in t part)) (sym (only-this t (thinned thins))))))
      slots-by u (inr apart) =
          slots-other part t u f apart
          ∙ (stay-slots (slots_in u part) ∙ ap (λ (g : Fate). filter_map g.slot (slots_in u part)) (sym (only-other t u (thinned thins) apart)))

      limits-by : (u : ℕ) → (u ≡ t) ⊎ (u ≡ t → ⊥) → limit_in u (with_table part t f) ≡ limit_after (only t (thinned thins) u).limit (limit_in u part) (limit_of_new part)
      limits-by u (inl e) =
          subst (λ (v : ℕ). limit_in v (with_table part t f) ≡ limit_after (only t (thinned thins) v).limit (limit_in v part) (limit_of_new part)) (sym e)
          (limit-own part t mine f at
          ∙ (moves.limit
          ∙ (sym (limit-at part t mine at) ∙ ap (λ (g : Fate). limit_after g.limit (limit_in t part) (limit_of_new part)) (sym (only-this t (thinned thins))))))
      limits-by u (inr apart) =
          limit-other part t u f apart
          ∙ (stay-limit (limit_in u part) (limit_of_new part) ∙ ap (λ (g : Fate). limit_after g.limit (limit_in u part) (limit_of_new part)) (sym (only-other t u (thinned thins) apart)))

      contents-by : HasContents part → (u : ℕ) (table : Table) → table_at (with_table part t f).world.tables u ≡ Some table → (u ≡ t) ⊎ (u ≡ t → ⊥) → IsContent table.state.content
      contents-by contents u table there (inl e) =
          let is : Some table ≡ Some (record mine { state = f }) = sym there ∙ (ap (table_at (with_table part t f).world.tables) e ∙ state-own part.world.tables t mine f at) in
          let table_is : table ≡ record mine { state = f } = cc in
          subst (λ (own : Table). IsContent own.state.content) (sym table_is) (moves.content (contents t mine at))
      contents-by contents u table there (inr apart) = contents u table (sym (state-other part.world.tables t u f apart) ∙ there)

  -- ---- calls on one table
  module _ (access : Access) (p : ℕ) (x : Term) (rule : CallRule) where
    abbrev Found : Option (ℕ × Table) → State → Outcome Reply State
    Found o s reply new = MatchOption o (gives Badarg s reply new) (λ found. (state : TableState) × rule found.1.state reply state × (new ≡ with_table s found.0 state))

    none-found : (part : State) (o : Option (ℕ × Table)) → FoundInBoth part whole x o None → (r : Reply) (new : State) → Found o part r new → (r ≡ Badarg) × (new ≡ part)
    none-found part None found r new h = h
    none-found part (Some mine) found r new h = absurd found

    some-found : (part : State) → replicated part ≡ replicated whole → (all : ℕ × Table) (w : RuleForAll rule all.1.state) (o : Option (ℕ × Table)) → FoundInBoth part whole x o (Some all) → (r : Reply) (new : State) → Found o part r new
        → (r ≡ w.reply) × Found (Some all) whole w.reply (with_table whole all.0 w.next) × Moves (only all.0 (thinned w.thins)) (with_table whole all.0 w.next) part new
    some-found part same all w None found r new h = absurd found
    some-found part same all w (Some mine) found r new h =
        let state : replicated_state mine.1.state ≡ replicated_state all.1.state = alike-tables part whole same mine.0 mine.1 all.1 found.at found.there in
        let done = w.each mine.1.state state r h.0 h.1 in (
          done.0,
          (w.next, done.1, refl),
          subst (λ (s : State). Moves (only all.0 (thinned w.thins)) (with_table whole all.0 w.next) part s) (sym h.2)
              (subst (λ (t : ℕ). Moves (only t (thinned w.thins)) (with_table whole t w.next) part (with_table part mine.0 h.0)) (sym found.number)
              (table-moves part same mine.0 mine.1 h.0 w.next w.thins found.at done.2)),
        )

    pub changes-all : ((t : ℕ) (all : Table) → RuleForAll rule all.state) → ForAll (λ s. changes s p access x rule) whole
    changes-all rules = by (usable access whole.world.tables p x) refl
      where
        by : (u : Option (ℕ × Table)) → usable access whole.world.tables p x ≡ u → ForAll (λ s. changes s p access x rule) whole
        by None e = record {
          reply = Badarg;
          next = whole;
          fate = λ t. stay;
          each = λ part same r new h.
              let none = none-found part (usable access part.world.tables p x) (subst (FoundInBoth part whole x (usable access part.world.tables p x)) e (usable-same part whole same access p x)) r new h in
              (none.0, rw e (refl, refl), subst (λ (s : State). Moves (λ t. stay) whole part s) (sym none.1) (moves-same whole part same));
        }
        by (Some all) e =
            let w = rules all.0 all.1 in
            record {
              reply = w.reply;
              next = with_table whole all.0 w.next;
              fate = only all.0 (thinned w.thins);
              each = λ part same r new h.
                  let some = some-found part same all w (usable access part.world.tables p x) (subst (FoundInBoth part whole x (usable access part.world.tables p x)) e (usable-same part whole same access p x)) r new h in
                  (some.0, rw e some.1, some.2);
            }

-- ---- deletions
module _ (hold : Bool) (which : Which) where
  abbrev left_at : Bool → Slot → Option Slot
  left_at b s = cond b (Some (s.0, objects_left which s)) None

  left-key : (b : Bool) (s t : Slot) → left_at b s ≡ Some t → t.0 ≡ s.0
  left-key true s t e = let is : (s.0, objects_left which s) ≡ t = cc in ap (λ (x : Slot). x.0) (sym is)
  left-key false s t e = cc

  left : Thins
  left = record {
    slot = λ s. left_at (hold || has_objects (objects_left which s) || not (has_objects s.1)) s;
    own_key = λ s t e. left-key (hold || has_objects (objects_left which s) || not (has_objects s.1)) s t e;
  }

  one-left : (b : Bool) (s : Slot) (rest : List Slot) → cond b (s ∷ rest) rest ≡ cons_option (cond b (Some s) None) rest
  one-left true s rest = refl
  one-left false s rest = refl

  dropped : (slots : List Slot) → after_drop hold which slots ≡ filter_map left.slot slots
  unfolding left
  dropped [] = refl
  dropped (s ∷ ss) =
      one-left (hold || has_objects (objects_left which s) || not (has_objects s.1)) (s.0, objects_left which s) (after_drop hold which ss)
      ∙ ap (cons_option (left.slot s)) (dropped ss)

fixes-same : (mine all : TableState) → replicated_state mine ≡ replicated_state all → mine.fixes ≡ all.fixes
fixes-same mine all same = ap (λ (f : TableState). f.fixes) same

deleted-moves : (which : Which) (all mine : TableState) → replicated_state mine ≡ replicated_state all → RuleMoves (left (is_fixed all.fixes) which) (after_delete which all) mine (after_delete which mine)
deleted-moves which all mine same = record {
  same = same;
  slots = ap (λ (m : FixCounts). after_drop (is_fixed m) which mine.content.slots) (fixes-same mine all same) ∙ dropped (is_fixed all.fixes) which mine.content.slots;
  limit = refl;
  content = deleted-kept which mine;
}

pub delete_all-rule : (all : TableState) → RuleForAll DeleteAllObjects all
delete_all-rule all = record {
  reply = true_reply;
  next = after_delete every_object all;
  thins = left (is_fixed all.fixes) every_object;
  each = λ mine same r f h. (h.0, (refl, refl), subst (λ (g : TableState). RuleMoves (left (is_fixed all.fixes) every_object) (after_delete every_object all) mine g) (sym h.1) (deleted-moves every_object all mine same));
}

-- ---- nothing changes
same-key : (s t : Slot) → Some s ≡ Some t → t.0 ≡ s.0
same-key s t e = let is : s ≡ t = cc in ap (λ (x : Slot). x.0) (sym is)

abbrev all_stay : Thins
all_stay = record { slot = λ s. Some s; own_key = same-key }

some-slots : (slots : List Slot) → slots ≡ filter_map (λ s. Some s) slots
some-slots [] = refl
some-slots (s ∷ ss) = ap (λ l. s ∷ l) (some-slots ss)

same-moves : (all mine : TableState) → replicated_state mine ≡ replicated_state all → RuleMoves all_stay all mine mine
same-moves all mine same = record { same = same; slots = some-slots mine.content.slots; limit = refl; content = λ c. c }

-- a deletion that replies true, if its argument is well-formed
abbrev pub DeletesQuietly : Bool → Which → CallRule
DeletesQuietly good which = replies {X = Unit {0}} (λ _. true_reply) (Deletes good tt which)

pub deletes-rule : (good : Bool) (which : Which) (all : TableState) → RuleForAll (DeletesQuietly good which) all
deletes-rule true which all = record {
  reply = true_reply;
  next = after_delete which all;
  thins = left (is_fixed all.fixes) which;
  each = λ mine same r f h. (
    subst (λ (y : Result (Unit {0}) Refusal). ChangeResultToReply (λ _. true_reply) y r) h.1.0 h.2,
    (Ok tt, (refl, refl), refl),
    subst (λ (g : TableState). RuleMoves (left (is_fixed all.fixes) which) (after_delete which all) mine g) (sym h.1.1) (deleted-moves which all mine same),
  );
}
deletes-rule false which all = record {
  reply = Badarg;
  next = all;
  thins = all_stay;
  each = λ mine same r f h. (
    subst (λ (y : Result (Unit {0}) Refusal). ChangeResultToReply (λ _. true_reply) y r) h.1.0 h.2,
    (Err refusal.Badarg, (refl, refl), refl),
    subst (λ (g : TableState). RuleMoves all_stay all mine g) (sym h.1.1) (same-moves all mine same),
  );
}

-- ---- fixes
-- two tables that have the same in each part
pub counts-same : (p : ℕ) (mine all : TableState) → replicated_state mine ≡ replicated_state all → fix_count mine.fixes p ≡ fix_count all.fixes p
counts-same p mine all same = ap (λ (m : FixCounts). fix_count m p) (fixes-same mine all same)

module _ (p : ℕ) (all : TableState) where
  abbrev fixed : TableState → TableState
  fixed f = record f { fixes = with_count f.fixes p (fix_count f.fixes p + 1) }

  fixed-moves : (mine : TableState) → replicated_state mine ≡ replicated_state all → RuleMoves all_stay (fixed all) mine (fixed mine)
  fixed-moves mine same = record { same = ap fixed same; slots = some-slots mine.content.slots; limit = refl; content = λ c. c }

  below-each : fix_count all.fixes p < max_fixes → (mine : TableState) → replicated_state mine ≡ replicated_state all → (result : Result (Unit {0}) FixFault) (r : Reply) (f : TableState)
      → IncrementsFix p mine result f → FixResultToReply result r → (r ≡ true_reply) × Fixes p all true_reply (fixed all) × RuleMoves all_stay (fixed all) mine f
  below-each below mine same (Ok done) r f h e = (e, (Ok tt, (below, refl), refl), subst (λ (g : TableState). RuleMoves all_stay (fixed all) mine g) (sym h.1) (fixed-moves mine same))
  below-each below mine same (Err fix.SystemLimit) r f h e = let most = h.0 in absurd (omega (arith, below, most, counts-same p mine all same))
  below-each below mine same (Err fix.Memory) r f h e = absurd e

  most-each : (fix_count all.fixes p < max_fixes → ⊥) → (mine : TableState) → replicated_state mine ≡ replicated_state all → (result : Result (Unit {0}) FixFault) (r : Reply) (f : TableState)
      → IncrementsFix p mine result f → FixResultToReply result r → (r ≡ SystemLimit) × Fixes p all SystemLimit all × RuleMoves all_stay all mine f
  most-each most mine same (Ok done) r f h e = let below = h.0 in absurd (most (omega (arith, below, counts-same p mine all same)))
  most-each most mine same (Err fix.SystemLimit) r f h e =
      (e, (Err fix.SystemLimit, (sym (counts-same p mine all same) ∙ h.0, refl), refl), subst (λ (g : TableState). RuleMoves all_stay all mine g) (sym h.1) (same-moves all mine same))
  most-each most mine same (Err fix.Memory) r f h e = absurd e

  pub fixes-rule : RuleForAll (Fixes p) all
  fixes-rule = by (nat_lt (fix_count all.fixes p) max_fixes) refl
    where
      by : (b : Bool) → nat_lt (fix_count all.fixes p) max_fixes ≡ b → RuleForAll (Fixes p) all
      by true e = record {
        reply = true_reply;
        next = fixed all;
        thins = all_stay;
        each = λ mine same r f h. below-each (grind (arith, nat_tests, e)) mine same h.0 r f h.1 h.2;
      }
      by false e = record {
        reply = SystemLimit;
        next = all;
        thins = all_stay;
        each = λ mine same r f h. most-each (λ below. grind (arith, nat_tests, e, below)) mine same h.0 r f h.1 h.2;
      }

-- ---- releases
purged-within : (f : TableState) → object_count f.content.slots ≤ f.content.limit → object_count (without_tombstones f.content.slots) ≤ f.content.limit
purged-within f within = let count = count-purged f.content.slots in omega (arith, count, within)

module _ (m : FixCounts) where
  -- a table with these fixes, without tombstones if it is not fixed
  abbrev pub purged : TableState → TableState
  purged f = without_tombstones_if_unfixed (record f { fixes = m })

  purge_at : Bool → Bool → Slot → Option Slot
  purge_at true b s = Some s
  purge_at false true s = Some s
  purge_at false false s = None

  purge-key : (b c : Bool) (s t : Slot) → purge_at b c s ≡ Some t → t.0 ≡ s.0
  unfolding purge_at
  purge-key true c s t e = let is : s ≡ t = cc in ap (λ (x : Slot). x.0) (sym is)
  purge-key false true s t e = let is : s ≡ t = cc in ap (λ (x : Slot). x.0) (sym is)
  purge-key false false s t e = cc

  pub purge : Thins
  purge = record { slot = λ s. purge_at (is_fixed m) (has_objects s.1) s; own_key = λ s t e. purge-key (is_fixed m) (has_objects s.1) s t e }

  kept-all : (slots : List Slot) → slots ≡ filter_map (λ s. purge_at true (has_objects s.1) s) slots
  unfolding purge_at
  kept-all [] = refl
  kept-all (s ∷ ss) = ap (λ l. s ∷ l) (kept-all ss)

  purged-one : (b : Bool) (s : Slot) (l : List Slot) → cond b (s ∷ l) l ≡ cons_option (purge_at false b s) l
  unfolding purge_at
  purged-one true s l = refl
  purged-one false s l = refl

  kept-some : (slots : List Slot) → without_tombstones slots ≡ filter_map (λ s. purge_at false (has_objects s.1) s) slots
  kept-some [] = refl
  kept-some (s ∷ ss) = purged-one (has_objects s.1) s (without_tombstones ss) ∙ ap (cons_option (purge_at false (has_objects s.1) s)) (kept-some ss)

  purged-slots : (f : TableState) → (purged f).content.slots ≡ filter_map purge.slot f.content.slots
  unfolding purge
  purged-slots f = by (is_fixed m)
    where
      by : (b : Bool) → (cond b (record f { fixes = m }) (record f { fixes = m; content = record f.content { slots = without_tombstones f.content.slots } })).content.slots ≡ filter_map (λ s. purge_at b (has_objects s.1) s) f.content.slots
      by true = kept-all f.content.slots
      by false = kept-some f.content.slots

  -- whatever holds of both holds of it
  pub purged-has : (P : TableState → Type 0) (f : TableState) → P (record f { fixes = m }) → P (record f { fixes = m; content = record f.content { slots = without_tombstones f.content.slots } }) → P (purged f)
  purged-has P f a b = by (is_fixed m)
    where
      by : (c : Bool) → P (cond c (record f { fixes = m }) (record f { fixes = m; content = record f.content { slots = without_tombstones f.content.slots } }))
      by true = a
      by false = b

  pub purged-replicated : (f : TableState) → replicated_state (purged f) ≡ record (replicated_state f) { fixes = m }
  purged-replicated f = purged-has (λ g. replicated_state g ≡ record (replicated_state f) { fixes = m }) f refl refl

  pub purged-moves : (all mine : TableState) → replicated_state mine ≡ replicated_state all → (IsContent mine.content → IsContent (purged mine).content) → RuleMoves purge (purged all) mine (purged mine)
  purged-moves all mine same content = record {
    same = purged-replicated mine ∙ (ap (λ (f : TableState). record f { fixes = m }) same ∙ sym (purged-replicated all));
    slots = purged-slots mine;
    limit = purged-has (λ g. g.content.limit ≡ mine.content.limit) mine refl refl;
    content = content;
  }

  pub purged-content : (f : TableState) → HasDistinctKeys (purged f).content.slots → IsContent f.content → IsContent (purged f).content
  purged-content f distinct is = record {
    distinct = distinct;
    slots = purged-has (λ g. AreSlots g.content.kind g.content.keypos g.content.slots) f is.slots (slots-purged f.content.kind f.content.keypos f.content.slots is.slots);
    within = purged-has (λ g. object_count g.content.slots ≤ g.content.limit) f is.within (purged-within f is.within);
  }

pub releases-rule : (p : ℕ) (all : TableState) → RuleForAll (Releases p) all
releases-rule p all = record {
  reply = true_reply;
  next = after_release p all;
  thins = purge (with_count all.fixes p (fix_count all.fixes p - 1));
  each = λ mine same r f h. (h.0, (refl, refl), subst (λ (g : TableState). RuleMoves (purge (with_count all.fixes p (fix_count all.fixes p - 1))) (after_release p all) mine g) (sym (h.1 ∙ counts mine same)) (moves mine same));
}
  where
    counts : (mine : TableState) → replicated_state mine ≡ replicated_state all → after_release p mine ≡ purged (with_count all.fixes p (fix_count all.fixes p - 1)) mine
    counts mine same = ap (λ (m : FixCounts). purged (with_count m p (fix_count m p - 1)) mine) (fixes-same mine all same)

    moves : (mine : TableState) → replicated_state mine ≡ replicated_state all
        → RuleMoves (purge (with_count all.fixes p (fix_count all.fixes p - 1))) (after_release p all) mine (purged (with_count all.fixes p (fix_count all.fixes p - 1)) mine)
    moves mine same = purged-moves (with_count all.fixes p (fix_count all.fixes p - 1)) all mine same (λ is.
        purged-content (with_count all.fixes p (fix_count all.fixes p - 1)) mine
        (subst (λ (g : TableState). HasDistinctKeys g.content.slots) (counts mine same) ((release-keeps p mine).distinct is.distinct)) is)

-- ---- a table is deleted
pub gone_fate : Fate
gone_fate = record { slot = λ s. None; own_key = λ s t e. cc; limit = gone }

pub none-left : (slots : List Slot) → [] ≡ filter_map gone_fate.slot slots
unfolding gone_fate
none-left [] = refl
none-left (s ∷ ss) = none-left ss

pub no-limit : (old new : ℕ) → 0 ≡ limit_after gone_fate.limit old new
unfolding gone_fate
no-limit old new = refl

gone-own : (ts : Tables) (t : ℕ) → table_at (slice_set ts t None) t ≡ None
gone-own [] t = refl
gone-own (x ∷ xs) zero = refl
gone-own (x ∷ xs) (suc t) = gone-own xs t

module _ (whole : State) (p : ℕ) (x : Term) where
  abbrev without : State → ℕ → State
  without s t = record s { world = without_table s.world t }

  module _ (t : ℕ) (part : State) (same : replicated part ≡ replicated whole) where
    gone-replicated : (s : State) → without (replicated s) t ≡ replicated (without s t)
    gone-replicated s = ap (λ (ts : Tables). record { limits = record s.limits { objects = 0 }; world = record s.world { tables = ts } }) (set-replicated s.world.tables t None)

    gone-slots : (u : ℕ) → (u ≡ t) ⊎ (u ≡ t → ⊥) → slots_in u (without part t) ≡ filter_map (only t gone_fate u).slot (slots_in u part)
    gone-slots u (inl e) =
        subst (λ (v : ℕ). slots_in v (without part t) ≡ filter_map (only t gone_fate v).slot (slots_in v part)) (sym e)
        (ap (λ o. option_map_or (λ (own : Table). own.state.content.slots) o []) (gone-own part.world.tables t)
        ∙ (none-left (slots_in t part) ∙ ap (λ (g : Fate). filter_map g.slot (slots_in t part)) (sym (only-this t gone_fate))))
    gone-slots u (inr apart) =
        ap (λ o. option_map_or (λ (own : Table). own.state.content.slots) o []) (set-other part.world.tables t u None apart)
        ∙ (stay-slots (slots_in u part) ∙ ap (λ (g : Fate). filter_map g.slot (slots_in u part)) (sym (only-other t u gone_fate apart)))

    gone-limits : (u : ℕ) → (u ≡ t) ⊎ (u ≡ t → ⊥) → limit_in u (without part t) ≡ limit_after (only t gone_fate u).limit (limit_in u part) (limit_of_new part)
    gone-limits u (inl e) =
        subst (λ (v : ℕ). limit_in v (without part t) ≡ limit_after (only t gone_fate v).limit (limit_in v part) (limit_of_new part)) (sym e)
        (ap (λ o. option_map_or (λ (own : Table). own.state.content.limit) o 0) (gone-own part.world.tables t)
        ∙ (no-limit (limit_in t part) (limit_of_new part) ∙ ap (λ (g : Fate). limit_after g.limit (limit_in t part) (limit_of_new part)) (sym (only-this t gone_fate))))
    gone-limits u (inr apart) =
        ap (λ o. option_map_or (λ (own : Table). own.state.content.limit) o 0) (set-other part.world.tables t u None apart)
        ∙ (stay-limit (limit_in u part) (limit_of_new part) ∙ ap (λ (g : Fate). limit_after g.limit (limit_in u part) (limit_of_new part)) (sym (only-other t u gone_fate apart)))

    gone-contents : HasContents part → (u : ℕ) (table : Table) → table_at (without part t).world.tables u ≡ Some table → (u ≡ t) ⊎ (u ≡ t → ⊥) → IsContent table.state.content
    gone-contents contents u table at (inl e) =
        let none : table_at (without part t).world.tables u ≡ None = ap (table_at (without part t).world.tables) e ∙ gone-own part.world.tables t in
        absurd (cc)
    gone-contents contents u table at (inr apart) = contents u table (sym (set-other part.world.tables t u None apart) ∙ at)

    gone-moves : Moves (only t gone_fate) (without whole t) part (without part t)
    gone-moves = record {
      same = sym (gone-replicated part) ∙ (ap (λ (s : State). without s t) same ∙ gone-replicated whole);
      slots = λ u. gone-slots u (same-or-not u t);
      limits = λ u. gone-limits u (same-or-not u t);
      new_limit = refl;
      contents = λ contents u table at. gone-contents contents u table at (same-or-not u t);
    }

  numbers-same : (part : State) (o u : Option (ℕ × Table)) → FoundInBoth part whole x o u → option_map (λ (found : ℕ × Table). found.0) o ≡ option_map (λ (found : ℕ × Table). found.0) u
  numbers-same part None None found = refl
  numbers-same part None (Some all) found = absurd found
  numbers-same part (Some mine) None found = absurd found
  numbers-same part (Some mine) (Some all) found = ap Some (sym found.number)

  abbrev DeletesTable : State → Option ℕ → Outcome Reply State
  DeletesTable s o = refuse_none s o Badarg (λ t. gives true_reply (without s t))

  to-number : (s : State) (o : Option (ℕ × Table)) (r : Reply) (new : State) → refuse_none s o Badarg (λ found. gives true_reply (without s found.0)) r new → DeletesTable s (option_map (λ (found : ℕ × Table). found.0) o) r new
  to-number s None r new h = h
  to-number s (Some found) r new h = h

  from-number : (s : State) (o : Option (ℕ × Table)) (r : Reply) (new : State) → DeletesTable s (option_map (λ (found : ℕ × Table). found.0) o) r new → refuse_none s o Badarg (λ found. gives true_reply (without s found.0)) r new
  from-number s None r new h = h
  from-number s (Some found) r new h = h

  pub delete_table-all : ForAll (λ s. DeleteTable s p x) whole
  delete_table-all =
      through whole (λ s. DeleteTable s p x) (λ s. DeletesTable s (option_map (λ (found : ℕ × Table). found.0) (usable Write s.world.tables p x)))
      (λ s. to-number s (usable Write s.world.tables p x)) (λ s. from-number s (usable Write s.world.tables p x))
      (refuse_none-all whole (λ s. option_map (λ (found : ℕ × Table). found.0) (usable Write s.world.tables p x)) Badarg (λ t s. gives true_reply (without s t))
      (λ part same. numbers-same part (usable Write part.world.tables p x) (usable Write whole.world.tables p x) (usable-same part whole same Write p x)) (λ t e.
      gives-all whole (λ s. true_reply) (λ s. without s t) (only t gone_fate) (λ part same. (refl, gone-moves t part same))))

  pub fixtable-all : (flag : Term) → ForAll (λ s. SafeFixtable s p x flag) whole
  fixtable-all flag =
      either-all whole (is_atom (codes "true") flag) (λ s. changes s p Read x (Fixes p)) (λ s r new. MatchBool (is_atom (codes "false") flag) (changes s p Read x (Releases p) r new) (gives Badarg s r new))
      (changes-all whole Read p x (Fixes p) (λ t all. fixes-rule p all.state))
      (either-all whole (is_atom (codes "false") flag) (λ s. changes s p Read x (Releases p)) (λ s. gives Badarg s)
      (changes-all whole Read p x (Releases p) (λ t all. releases-rule p all.state))
      (tells-all whole (λ s. Badarg) (λ part same. refl)))

  pub delete_all-all : ForAll (λ s. changes s p Write x DeleteAllObjects) whole
  delete_all-all = changes-all whole Write p x DeleteAllObjects (λ t all. delete_all-rule all.state)

  pub match_delete-all : (pattern : Term) → ForAll (λ s. changes s p Write x (MatchDelete pattern)) whole
  match_delete-all pattern = changes-all whole Write p x (MatchDelete pattern) (λ t all. deletes-rule (is_pattern (data_of pattern)) (λ _. matches pattern) all.state)
