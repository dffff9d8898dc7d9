-- Why only fixed tables have tombstones.
use Rattle.std.proofs.Common.{◌≡◌, ℕ, Bool, true, false, cond, List, [], ◌∷◌, ◌++◌, Option, None, Some, refl, sym, subst, ◌∙◌, ap, true≢false}
use Rattle.std.specs.Prelude.{MatchOption, not, ◌||◌, Ok, Err, Result}
use Rattle.std.specs.Map.{set_value}
use Rattle.ets_term.specs.declared.term.Term.{Term}
use Rattle.ets_term.specs.Order.{same}
use Rattle.bucket_table.specs.Slots.{Slot, objects_of, without_tombstones, has_objects, Enters}
use Rattle.table_ops.specs.declared.refusal.Refusal.{Refusal}
use Rattle.table_ops.specs.declared.refusal.Refusal.TheVariants.{Badarg}
use Rattle.table_ops.specs.Content.{Content, key_of}
use Rattle.table_ops.specs.Put.{Inserts, InsertsNew}
use Rattle.table_ops.specs.Drop.{Which, objects_left, after_drop, without_those, equal_to, DeletesObject}
use Rattle.table_ops.specs.Refusals.{RefinesChange}
use Rattle.table_ops.specs.Update.{UpdatesCounter, UpdatesElement}
use Rattle.counters.specs.declared.elements.ElementSpecs.{ElementSpecs}
use Rattle.counters.specs.declared.ops.Ops.{Ops}
use Rattle.table_ops.specs.Outcomes.{gives}
use Rattle.fixed_walk.specs.Fixes.{is_fixed}
use Rattle.fixed_walk.specs.TableState.{TableState, after_release, after_release_all}
use Rattle.fixed_walk.specs.Invariants.{HasNoTombstones, TombstonesOnlyWhileFixed}
use Rattle.fixed_walk.proofs.ChangeLaws.{Keeping, is_end, comes-keep, inserts-keep, news-keep, counter-keeps, element-keeps}
use Rattle.fixed_walk.proofs.CountLaws.{free-released, free-cleared}

module _ (k : Term → Bool) where
  set_at : (b : Bool) (s : Slot) (ss : List Slot) (w : List Term) → has_objects w ≡ true → (has_objects s.1 ≡ true) × HasNoTombstones ss → HasNoTombstones (set_value k ss w) → HasNoTombstones (cond b ((s.0, w) ∷ ss) (s ∷ set_value k ss w))
  set_at true s ss w h n ih = (h, n.1)
  set_at false s ss w h n ih = (n.0, ih)

  pub set-none : (ss : List Slot) (w : List Term) → has_objects w ≡ true → HasNoTombstones ss → HasNoTombstones (set_value k ss w)
  set-none [] w h n = tt
  set-none (s ∷ ss) w h n = set_at (k s.0) s ss w h n (set-none ss w h n.1)

purge_at : (b : Bool) (s : Slot) (ss : List Slot) → has_objects s.1 ≡ b → HasNoTombstones (without_tombstones ss) → HasNoTombstones (cond b (s ∷ without_tombstones ss) (without_tombstones ss))
purge_at true s ss e n = (e, n)
purge_at false s ss e n = n

pub without_tombstones-none : (ss : List Slot) → HasNoTombstones (without_tombstones ss)
without_tombstones-none [] = tt
without_tombstones-none (s ∷ ss) = purge_at (has_objects s.1) s ss refl (without_tombstones-none ss)

-- a purge removes nothing if there are no tombstones
pub without_tombstones-same : (ss : List Slot) → HasNoTombstones ss → without_tombstones ss ≡ ss
without_tombstones-same [] n = refl
without_tombstones-same (s ∷ ss) n = ap (λ (b : Bool). cond b (s ∷ without_tombstones ss) (without_tombstones ss)) n.0 ∙ ap (λ (zs : List Slot). s ∷ zs) (without_tombstones-same ss n.1)

pub between-none : (front back : List Slot) (s : Slot) → has_objects s.1 ≡ true → HasNoTombstones (front ++ back) → HasNoTombstones (front ++ s ∷ back)
between-none [] back s h n = (h, n)
between-none (f ∷ front) back s h n = (n.0, between-none front back s h n.1)

enters-none : (old new : List Slot) (key : Term) (os : List Term) → is_end key ≡ false → has_objects os ≡ true → objects_of old key ≡ None → Enters old key os new → HasNoTombstones old → HasNoTombstones new
enters-none old new key os own h absent w n = subst HasNoTombstones (sym w.after) (between-none w.front w.back (key, os) h (subst HasNoTombstones w.before n))

keeping : Keeping (λ old new. HasNoTombstones old → HasNoTombstones new)
keeping = record { staying = λ slots n. n; further = λ slots next last p q n. q (p n); enters = enters-none; filled = λ old key os h n. set-none (same key) old os h n }

-- an insertion makes no tombstone
pub inserts-none : (objects : List Term) (old new : Content) (r : Result (Unit {0}) Refusal) → RefinesChange (Inserts objects old) old r new → HasNoTombstones old.slots → HasNoTombstones new.slots
inserts-none objects old new r c n = comes-keep _ keeping (Inserts objects) (inserts-keep _ keeping objects) old new r c n

pub news-none : (objects : List Term) (old new : Content) (r : Result Bool Refusal) → RefinesChange (InsertsNew objects old) old r new → HasNoTombstones old.slots → HasNoTombstones new.slots
news-none objects old new r c n = comes-keep _ keeping (InsertsNew objects) (news-keep _ keeping objects) old new r c n

pub counter-none : (key : Term) (ops : Ops) (default : Option Term) (old new : Content) (r : Result Term Refusal) → RefinesChange (UpdatesCounter key ops default old) old r new → HasNoTombstones old.slots → HasNoTombstones new.slots
counter-none key ops default old new r c n = comes-keep _ keeping (UpdatesCounter key ops default) (counter-keeps _ keeping key ops default) old new r c n

pub element-none : (key : Term) (specs : ElementSpecs) (default : Option Term) (old new : Content) (r : Result Bool Refusal) → RefinesChange (UpdatesElement key specs default old) old r new → HasNoTombstones old.slots → HasNoTombstones new.slots
element-none key specs default old new r c n = comes-keep _ keeping (UpdatesElement key specs default) (element-keeps _ keeping key specs default) old new r c n

dropped_at : (which : Which) (s : Slot) (ss : List Slot) (b : Bool) → has_objects (objects_left which s) ≡ b → has_objects s.1 ≡ true → HasNoTombstones (after_drop false which ss)
    → HasNoTombstones (cond (b || not (has_objects s.1)) ((s.0, objects_left which s) ∷ after_drop false which ss) (after_drop false which ss))
dropped_at which s ss true e h n = (e, n)
dropped_at which s ss false e h n = subst (λ (b : Bool). HasNoTombstones (cond (not b) ((s.0, objects_left which s) ∷ after_drop false which ss) (after_drop false which ss))) (sym h) n

pub dropped-free : (which : Which) (slots : List Slot) → HasNoTombstones slots → HasNoTombstones (after_drop false which slots)
dropped-free which [] n = tt
dropped-free which (s ∷ ss) n = dropped_at which s ss (has_objects (objects_left which s)) refl n.0 (dropped-free which ss n.1)

-- a deletion that leaves no tombstones makes none
pub dropped-none : (hold : Bool) (which : Which) (slots : List Slot) → hold ≡ false → HasNoTombstones slots → HasNoTombstones (after_drop hold which slots)
dropped-none true which slots e n = absurd (true≢false e)
dropped-none false which slots e n = dropped-free which slots n

object_at : (hold : Bool) (o : Option Term) (object : Term) (old new : Content) (r : Result (Unit {0}) Refusal) → hold ≡ false
    → MatchOption o (gives (Err Badarg) old r new) (λ _. gives (Ok tt) (without_those hold (equal_to object) old) r new) → HasNoTombstones old.slots → HasNoTombstones new.slots
object_at hold None object old new r e c n = subst (λ (t : Content). HasNoTombstones t.slots) (sym c.1) n
object_at hold (Some key) object old new r e c n = subst (λ (t : Content). HasNoTombstones t.slots) (sym c.1) (dropped-none hold (equal_to object) old.slots e n)

pub object-none : (hold : Bool) (object : Term) (old new : Content) (r : Result (Unit {0}) Refusal) → hold ≡ false → DeletesObject hold object old r new → HasNoTombstones old.slots → HasNoTombstones new.slots
object-none hold object old new r e c n = object_at hold (key_of old.keypos object) object old new r e c n

pub ruleset no_tombstones = (inserts-none, news-none, counter-none, element-none, dropped-none, object-none, without_tombstones-none, without_tombstones-same)

-- a release of a table that no process fixes changes nothing
release-unfixed-at : (table : TableState) (fixes : _) → fixes ≡ table.fixes → is_fixed table.fixes ≡ false → TombstonesOnlyWhileFixed table
    → table ≡ cond (is_fixed fixes) (record table { fixes = fixes }) (record table { content = record table.content { slots = without_tombstones table.content.slots }; fixes = fixes })
release-unfixed-at table fixes e free only_fixed =
    sym (ap (λ f. cond (is_fixed f) (record table { fixes = f }) (record table { content = record table.content { slots = without_tombstones table.content.slots }; fixes = f })) e
    ∙ ap (λ (b : Bool). cond b table (record table { content = record table.content { slots = without_tombstones table.content.slots } })) free
    ∙ ap (λ slots. record table { content = record table.content { slots = slots } }) (without_tombstones-same table.content.slots (only_fixed free)))

pub free-release : (pid : ℕ) (table : TableState) → is_fixed table.fixes ≡ false → TombstonesOnlyWhileFixed table → table ≡ after_release pid table
free-release pid table free only_fixed = release-unfixed-at table _ (free-released table.fixes pid free) free only_fixed

pub free-release_all : (pid : ℕ) (table : TableState) → is_fixed table.fixes ≡ false → TombstonesOnlyWhileFixed table → table ≡ after_release_all pid table
free-release_all pid table free only_fixed = release-unfixed-at table _ (free-cleared table.fixes pid free) free only_fixed
