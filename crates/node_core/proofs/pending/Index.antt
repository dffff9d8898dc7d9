-- The queue of pending tables stays one while tables change.
use Rattle.std.proofs.Common.{◌≡◌, ℕ, ◌+◌, ◌*◌, ◌<◌, ◌≤◌, zero, suc, Bool, true, false, nat_lt, Option, None, Some, inl, inr, List, [], ◌∷◌, ◌++◌, map, length, set, get_or, true≢false, refl, ap, sym, subst, ◌∙◌, arith}
use Rattle.std.specs.Prelude.{◌⊎◌, IsSome, is_some, not, position, option_map, ◌&&◌, if◌then◌else◌}
use Rattle.std.specs.Option.{option_and_then}
use Rattle.std.proofs.Math.ListN.{length-set, length-append, get_or-map}
use Rattle.std.proofs.lemmas.Bool.{cases_lt, cases_eq}
use Rattle.std.proofs.lemmas.Bool.Decides.{nat_tests}
use Rattle.std.proofs.lemmas.List.{length-map, get_or-set_other, get_or_append_left}
use Rattle.std.proofs.lemmas.List.Sums.{length-filter, count_by-le-length}
use Rattle.bucket_table.specs.Slots.{Slot, has_objects, without_tombstones}
use Rattle.fixed_walk.specs.Fixes.{is_fixed, with_count}
use Rattle.fixed_walk.specs.TableState.{TableState, without_tombstones_if_unfixed}
use Rattle.ownership.specs.declared.metadata.Heir.{Heir}
use Rattle.ownership.specs.World.{Table, Tables, Processes, table_at}
use Rattle.ownership.specs.Access.{is_owner}
use Rattle.ownership.specs.Tables.{with_owner}
use Rattle.ownership.specs.End.{table_after_exit, living_heir, without_fixes}
use Rattle.node_core.specs.declared.step.Step.TheVariants.{Grow, Ready}
use Rattle.node_core.specs.rules.Growth.{max_buckets}
use Rattle.node_core.specs.Pending.{max_slots_per_bucket, is_crowded, pending_step_of, pending_step_at}
use Rattle.node_core.specs.inside.PendingTables.{PendingTablesState, IsAmong, IsIn, AreBelow}
use Rattle.node_core.specs.inside.Due.{TracksPending}
use Rattle.node_core.proofs.pending.Due.{same-some}

module _ (index : PendingTablesState) where
  -- tables without a new pending step, except for those in the queue
  pub kept : (old new : Tables) → TracksPending old index → length new ≡ length old → ((t : ℕ) → IsSome (pending_step_at new t) → IsSome (pending_step_at old t) ⊎ IsIn index t) → TracksPending new index
  kept old new is same moved = record {
    below = subst (AreBelow index.queue) (sym same) is.below;
    room = omega (arith, is.room, same);
    due = λ t some. by t (moved t some);
  }
    where
      by : (t : ℕ) → IsSome (pending_step_at old t) ⊎ IsIn index t → IsIn index t
      by t (inl was) = is.due t was
      by t (inr own) = own

-- there are no tables
pub none : (tables : Tables) (index : PendingTablesState) → tables ≡ [] → index.queue ≡ [] → TracksPending tables index
none tables index e f = record {
  below = subst (λ ids. AreBelow ids (length tables)) (sym f) (λ i h. absurd (omega (arith, h)));
  room = omega (arith, ap (λ ts. length ts) e);
  due = λ t some. absurd (true≢false (sym some ∙ ap (λ ts. is_some (pending_step_at ts t)) e));
}

-- the pending step of a table that may not be there
abbrev pub due_in : ℕ → Option Table → Bool
due_in t own = is_some (option_and_then (λ table. pending_step_of t table.state) own)

-- the pending step when another place is written
other-due : (tables : Tables) (t : ℕ) (own : Option Table) (other : ℕ) → (other ≡ t → ⊥) → pending_step_at (set tables t own) other ≡ pending_step_at tables other
other-due tables t own other ne = ap (option_and_then (λ table. pending_step_of other table.state)) (get_or-set_other tables t other own None ne)

-- the pending step of the place that is written
due-set : (n : ℕ) (tables : Tables) (t : ℕ) (own : Option Table) → due_in n (get_or (set tables t own) t None) ≡ true → due_in n own ≡ true
due-set n [] t own h = cc
due-set n (x ∷ xs) zero own h = h
due-set n (x ∷ xs) (suc t) own h = due-set n xs t own h

module _ (tables : Tables) (index : PendingTablesState) (t : ℕ) (own : Option Table) (is : TracksPending tables index) where
  -- any change of a table that is in the index
  pub set-tracked : IsIn index t → TracksPending (set tables t own) index
  set-tracked here = kept index tables (set tables t own) is (length-set tables t own) (λ other some.
      elim (cases_eq other t) [
        | inl e ↦ inr (subst (IsIn index) (sym e) here)
        | inr ne ↦ inl (subst (λ o. IsSome o) (other-due tables t own other ne) some)
      ])

  -- a change of a table after which it has no new pending step
  pub replaced : (due_in t own ≡ true → IsSome (pending_step_at tables t)) → TracksPending (set tables t own) index
  replaced less = kept index tables (set tables t own) is (length-set tables t own) (λ other some.
      elim (cases_eq other t) [
        | inl e ↦ inl (subst (λ q. IsSome (pending_step_at tables q)) (sym e) (less (due-set t tables t own (subst (λ q. IsSome (pending_step_at (set tables t own) q)) e some))))
        | inr ne ↦ inl (subst (λ o. IsSome o) (other-due tables t own other ne) some)
      ])

-- a table is removed
pub dropped : (tables : Tables) (index : PendingTablesState) (t : ℕ) → TracksPending tables index → TracksPending (set tables t None) index
dropped tables index t is = replaced tables index t None is (λ h. cc)

-- the metadata of a table changes
pub rehead : (tables : Tables) (index : PendingTablesState) (t : ℕ) (change : Table → Table) → ((table : Table) → (change table).state ≡ table.state) → TracksPending tables index → TracksPending (set tables t (option_map change (table_at tables t))) index
rehead tables index t change same is = replaced tables index t (option_map change (table_at tables t)) is (by (table_at tables t))
  where
    by : (o : Option Table) → due_in t (option_map change o) ≡ true → due_in t o ≡ true
    by None h = h
    by (Some table) h = subst (λ f. is_some (pending_step_of t f) ≡ true) (same table) h

-- the same identifiers, in more room
pub roomier : (tables : Tables) (old new : PendingTablesState) → TracksPending tables old → new.queue ≡ old.queue → new.dirty ≡ old.dirty → old.capacity ≤ new.capacity → TracksPending tables new
roomier tables old new is same stays more = record {
  below = subst (λ ids. AreBelow ids (length tables)) (sym same) is.below;
  room = omega (arith, is.room, more);
  due = λ t some. elim (is.due t some) [ inl among ↦ inl (subst (λ ids. IsAmong ids t) (sym same) among) | inr last ↦ inr (stays ∙ last) ];
}

-- another table is dirty, and the previously dirty table is queued
pub dirty-queued : (tables : Tables) (old new : PendingTablesState) (last : ℕ) → TracksPending tables old → old.dirty ≡ Some last → AreBelow new.queue (length tables) → old.capacity ≤ new.capacity → ((t : ℕ) → IsAmong old.queue t → IsAmong new.queue t) → IsAmong new.queue last → TracksPending tables new
dirty-queued tables old new last is dirty-last below more among here = record {
  below = below;
  room = omega (arith, is.room, more);
  due = λ t some. elim (is.due t some) [ inl own ↦ inl (among t own) | inr own ↦ inl (subst (IsAmong new.queue) (same-some last t old.dirty dirty-last own) here) ];
}

-- the pending step of one more table
due-push : (tables : Tables) (x : Option Table) (t : ℕ) → t < length tables → pending_step_at (tables ++ x ∷ []) t ≡ pending_step_at tables t
due-push tables x t h = ap (option_and_then (λ table. pending_step_of t table.state)) (get_or_append_left tables (x ∷ []) None t h)

past-push : (n : ℕ) (tables : Tables) (x : Option Table) (t : ℕ) → length tables < t → due_in n (get_or (tables ++ x ∷ []) t None) ≡ true → ⊥
past-push n [] x zero h e = omega (arith, h)
past-push n [] x (suc t) h e = true≢false (sym e)
past-push n (y ∷ ys) x zero h e = omega (arith, h)
past-push n (y ∷ ys) x (suc t) h e = past-push n ys x t (omega (arith, h)) e

-- one more table, which is in the index
pub added : (tables : Tables) (old new : PendingTablesState) (x : Option Table) → TracksPending tables old → AreBelow new.queue (length tables + 1) → length tables + 1 ≤ new.capacity → IsAmong new.queue (length tables) → ((t : ℕ) → IsAmong old.queue t → IsAmong new.queue t) → new.dirty ≡ old.dirty → TracksPending (tables ++ x ∷ []) new
added tables old new x is below room here among stays = record {
  below = subst (AreBelow new.queue) (sym (length-append tables (x ∷ []))) below;
  room = omega (arith, room, length-append tables (x ∷ []));
  due = λ t some. elim (cases_lt t (length tables)) [
    | inl within ↦ elim (is.due t (subst (λ o. IsSome o) (due-push tables x t within) some)) [ inl own ↦ inl (among t own) | inr last ↦ inr (stays ∙ last) ]
    | inr past ↦ elim (cases_eq t (length tables)) [
      | inl e ↦ inl (subst (IsAmong new.queue) (sym e) here)
      | inr ne ↦ absurd (past-push t tables x t (above t past ne) some)
    ]
  ];
}
  where
    above : (t : ℕ) → length tables ≤ t → (t ≡ length tables → ⊥) → length tables < t
    above t h ne = grind (arith, h, ne)

-- fewer slots in as many buckets: no step is newly pending
due-less : (t : ℕ) (new old : Bool) (least : Option ℕ) → (new ≡ true → old ≡ true)
    → is_some (if new then Some (Grow t) else option_map (λ bucket. Ready t bucket) least) ≡ true → is_some (if old then Some (Grow t) else option_map (λ bucket. Ready t bucket) least) ≡ true
due-less t new true least le h = refl
due-less t new false (Some b) le h = refl
due-less t true false None le h = le refl
due-less t false false None le h = h

grows-less : (b fewer slots : ℕ) (small : Bool) → fewer ≤ slots → (nat_lt b fewer && small) ≡ true → (nat_lt b slots && small) ≡ true
grows-less b fewer slots small h e = grind (arith, nat_tests)

fewer-due : (t : ℕ) (table : TableState) (slots : List Slot) → length slots ≤ length table.content.slots → is_some (pending_step_of t (record table { content = record table.content { slots = slots } })) ≡ true → is_some (pending_step_of t table) ≡ true
fewer-due t table slots h =
    due-less t (is_crowded (record table { content = record table.content { slots = slots } })) (is_crowded table)
    (position not table.buckets) (grows-less (max_slots_per_bucket * length table.buckets) (length slots) (length table.content.slots) (nat_lt (length table.buckets) max_buckets) h)

without_tombstones-short : (slots : List Slot) → length (without_tombstones slots) ≤ length slots
without_tombstones-short slots = omega (arith, length-filter (λ (slot : Slot). has_objects slot.1) slots, count_by-le-length (λ (slot : Slot). has_objects slot.1) slots)

without_tombstones-due : (t : ℕ) (table : TableState) → is_some (pending_step_of t (without_tombstones_if_unfixed table)) ≡ true → is_some (pending_step_of t table) ≡ true
without_tombstones-due t table = by (is_fixed table.fixes)
  where
    by : (fixed : Bool) → is_some (pending_step_of t (if fixed then table else record table { content = record table.content { slots = without_tombstones table.content.slots } })) ≡ true → is_some (pending_step_of t table) ≡ true
    by true h = h
    by false h = fewer-due t table (without_tombstones table.content.slots) (without_tombstones-short table.content.slots) h

after-due : (processes : Processes) (p t : ℕ) (o : Option Table) → due_in t (table_after_exit processes p o) ≡ true → due_in t o ≡ true
after-due processes p t None h = h
after-due processes p t (Some table) h = by (is_owner table.metadata p) (living_heir processes table.metadata) h
  where
    by : (own : Bool) (heir : Option Heir) → due_in t (if own then option_map (λ heir. with_owner heir.pid (without_fixes p table)) heir else Some (without_fixes p table)) ≡ true → is_some (pending_step_of t table.state) ≡ true
    by true None e = cc
    by true (Some heir) e = without_tombstones-due t (record table.state { fixes = with_count table.state.fixes p 0 }) e
    by false heir e = without_tombstones-due t (record table.state { fixes = with_count table.state.fixes p 0 }) e

-- a process ends
pub ended : (tables : Tables) (index : PendingTablesState) (processes : Processes) (p : ℕ) → TracksPending tables index → TracksPending (map (table_after_exit processes p) tables) index
ended tables index processes p is = kept index tables (map (table_after_exit processes p) tables) is (length-map tables (table_after_exit processes p)) (λ t some.
    inl (after-due processes p t (table_at tables t) (subst (λ o. due_in t o ≡ true) (get_or-map (table_after_exit processes p) tables t None) some)))
