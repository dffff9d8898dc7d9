-- After a change of one table in one part, and the same change in the whole, the parts are those of the whole.
use Rattle.std.proofs.Common.{◌≡◌, ◌⊎◌, inl, inr, ℕ, zero, suc, ◌+◌, ◌≤◌, List, [], ◌∷◌, Some, refl, sym, ap, subst, ◌∙◌, arith}
use Rattle.std.specs.Prelude.{slice_get, slice_set}
use Rattle.std.specs.List.{AllByRecursion, flat_map, sum_by}
use Rattle.std.specs.Option.{option_map_or}
use Rattle.ets_term.specs.declared.term.Term.{Term}
use Rattle.bucket_table.specs.Slots.{Slot}
use Rattle.fixed_walk.specs.TableState.{TableState}
use Rattle.ownership.specs.World.{Table, table_at}
use Rattle.ownership.proofs.MetadataLaws.{fixed-there}
use Rattle.node_core.specs.State.{State}
use Rattle.node_core.specs.Access.{with_table}
use Rattle.node_core.specs.laws.Kept.{slots_in}
use Rattle.node_parts.specs.Parts.{replicated_table, replicated_tables, replicated, limit_in, limit_of_new, HasContents, IsPart, ArePartsOf, ShareAllRoom}
use Rattle.node_parts.proofs.Around.{around}
use Rattle.node_parts.proofs.Found.{written-replicated}
use Rattle.node_parts.proofs.Lists.{Split, get-set, same-or-not, sum-around, flat-around}
use Rattle.node_parts.proofs.Rules.{around_state, StaysTable}
use Rattle.node_parts.proofs.Whole.{IsAt, opened, own, rest_of, front, back, whole-slots, whole-table, slots-at, limit-at}
use Rattle.node_parts.proofs.Written.{state-own, state-other}

-- ---- a state after a table is written
module _ (s : State) (t : ℕ) (table : Table) (f : TableState) (at : table_at s.world.tables t ≡ Some table) where
  pub replicated-written : replicated_table (record table { state = f }) ≡ replicated_table table → replicated (with_table s t f) ≡ replicated s
  replicated-written same =
      ap (λ ts. record { limits = record s.limits { objects = 0 }; world = record s.world { tables = ts } })
      (ap replicated_tables (sym (fixed-there s.world.tables t table f at)) ∙ written-replicated s.world.tables t table (record table { state = f }) at same)

  pub slots-own : slots_in t (with_table s t f) ≡ f.content.slots
  slots-own = slots-at (with_table s t f) t (record table { state = f }) (state-own s.world.tables t table f at)

  pub limit-own : limit_in t (with_table s t f) ≡ f.content.limit
  limit-own = limit-at (with_table s t f) t (record table { state = f }) (state-own s.world.tables t table f at)

module _ (s : State) (t u : ℕ) (f : TableState) (apart : u ≡ t → ⊥) where
  pub slots-other : slots_in u (with_table s t f) ≡ slots_in u s
  slots-other = ap (λ o. option_map_or (λ (own : Table). own.state.content.slots) o []) (state-other s.world.tables t u f apart)

  pub limit-other : limit_in u (with_table s t f) ≡ limit_in u s
  limit-other = ap (λ o. option_map_or (λ (own : Table). own.state.content.limit) o 0) (state-other s.world.tables t u f apart)

-- nothing is written
pub set-same : {A : Type 0} (xs : List A) (k : ℕ) (x : A) → slice_get xs k ≡ Some x → slice_set xs k x ≡ xs
set-same [] k x e = refl
set-same (y ∷ xs) zero x e = let is : y ≡ x = cc in ap (λ z. z ∷ xs) (sym is)
set-same (y ∷ xs) (suc k) x e = ap (λ l. y ∷ l) (set-same xs k x e)

module _ {part_of : ℕ → Term → ℕ} {parts : List State} {whole : State} {k : ℕ} {part : State} (are : ArePartsOf part_of parts whole) (at : IsAt parts k part)
    (t : ℕ) (mine all : Table) (there : table_at part.world.tables t ≡ Some mine) (whole_there : table_at whole.world.tables t ≡ Some all)
    (f : TableState) (stays : StaysTable (rest_of are at t) mine.state f) where
  abbrev split_at : Split parts k part
  split_at = opened are at

  abbrev before_slots : ℕ → List Slot
  before_slots = front are at

  abbrev behind_slots : ℕ → List Slot
  behind_slots = back are at

  abbrev joined : TableState
  joined = around_state (rest_of are at t) f

  abbrev new : State
  new = with_table part t f

  abbrev next : State
  next = with_table whole t joined

  -- only the slots of the table change
  thin : f ≡ record mine.state { content = record mine.state.content { slots = f.content.slots } }
  thin = stays.content_only ∙ ap (λ c. record mine.state { content = c }) stays.content.slots

  part-same : replicated new ≡ replicated part
  part-same = replicated-written part t mine f there (ap (λ (g : TableState). replicated_table (record mine { state = g })) thin)

  all-is : all ≡ record mine { state = around_state (rest_of are at t) mine.state }
  all-is = whole-table are at t mine all there whole_there

  whole-same : replicated next ≡ replicated whole
  whole-same =
      replicated-written whole t all joined whole_there
      (ap (λ (own : Table). replicated_table (record own { state = joined })) all-is
      ∙ (ap (λ (g : TableState). replicated_table (record mine { state = g })) thin
      ∙ ap replicated_table (sym all-is)))

  limit-kept : f.content.limit ≡ mine.state.content.limit
  limit-kept = ap (λ (g : TableState). g.content.limit) thin

  slots-merged : (u : ℕ) → slots_in u next ≡ flat_map (slots_in u) (slice_set parts k new)
  slots-merged u =
      by (same-or-not u t)
      ∙ sym (ap (flat_map (slots_in u)) (split_at.written new) ∙ flat-around (slots_in u) split_at.before split_at.after new)
    where
      by : (u ≡ t) ⊎ (u ≡ t → ⊥) → slots_in u next ≡ around (before_slots u) (behind_slots u) (slots_in u new)
      by (inl e) =
          subst (λ (v : ℕ). slots_in v next ≡ around (before_slots v) (behind_slots v) (slots_in v new)) (sym e)
          (slots-own whole t all joined whole_there ∙ ap (around (before_slots t) (behind_slots t)) (sym (slots-own part t mine f there)))
      by (inr apart) =
          slots-other whole t u joined apart
          ∙ (whole-slots are at u
          ∙ ap (around (before_slots u) (behind_slots u)) (sym (slots-other part t u f apart)))

  part-limit : (u : ℕ) → limit_in u new ≡ limit_in u part
  part-limit u = by (same-or-not u t)
    where
      by : (u ≡ t) ⊎ (u ≡ t → ⊥) → limit_in u new ≡ limit_in u part
      by (inl e) =
          subst (λ (v : ℕ). limit_in v new ≡ limit_in v part) (sym e)
          (limit-own part t mine f there ∙ (limit-kept ∙ sym (limit-at part t mine there)))
      by (inr apart) = limit-other part t u f apart

  whole-limit : (u : ℕ) → limit_in u next ≡ limit_in u whole
  whole-limit u = by (same-or-not u t)
    where
      by : (u ≡ t) ⊎ (u ≡ t → ⊥) → limit_in u next ≡ limit_in u whole
      by (inl e) = subst (λ (v : ℕ). limit_in v next ≡ limit_in v whole) (sym e) (limit-own whole t all joined whole_there)
      by (inr apart) = limit-other whole t u joined apart

  -- a sum over the parts, of what the change leaves
  sum-same : (count : State → ℕ) → count new ≡ count part → sum_by count (slice_set parts k new) ≡ sum_by count parts
  sum-same count e =
      ap (sum_by count) (split_at.written new)
      ∙ (sum-around count split_at.before split_at.after new
      ∙ (ap (λ n. sum_by count split_at.before + (n + sum_by count split_at.after)) e
      ∙ sym (ap (sum_by count) split_at.is ∙ sum-around count split_at.before split_at.after part)))

  limits-merged : (u : ℕ) → sum_by (limit_in u) (slice_set parts k new) ≤ limit_in u next
  limits-merged u =
      let sum = sum-same (limit_in u) (part-limit u) in
      let limits = are.limits u in
      omega (arith, sum, limits, whole-limit u)

  keys-merged : (u : ℕ) → AllByRecursion (λ slot. part_of u slot.0 ≡ k) (slots_in u new)
  keys-merged u = by (same-or-not u t)
    where
      by : (u ≡ t) ⊎ (u ≡ t → ⊥) → AllByRecursion (λ slot. part_of u slot.0 ≡ k) (slots_in u new)
      by (inl e) =
          subst (λ (v : ℕ). AllByRecursion (λ (slot : Slot). part_of v slot.0 ≡ k) (slots_in v new)) (sym e)
          (subst (AllByRecursion (λ (slot : Slot). part_of t slot.0 ≡ k)) (sym (slots-own part t mine f there))
          (stays.content.keys (subst (AllByRecursion (λ (slot : Slot). part_of t slot.0 ≡ k)) (slots-at part t mine there) ((own are at).keys t))))
      by (inr apart) = subst (AllByRecursion (λ (slot : Slot). part_of u slot.0 ≡ k)) (sym (slots-other part t u f apart)) ((own are at).keys u)

  each-merged : HasContents new → (j : ℕ) (q : State) → slice_get (slice_set parts k new) j ≡ Some q → IsPart part_of next j q
  each-merged contents j q e = by (get-set parts k j new q e)
    where
      by : ((j ≡ k) × (q ≡ new)) ⊎ ((j ≡ k → ⊥) × (slice_get parts j ≡ Some q)) → IsPart part_of next j q
      by (inl this) =
          subst (λ (i : ℕ). IsPart part_of next i q) (sym this.0)
          (subst (λ (s : State). IsPart part_of next k s) (sym this.1)
          (record { same = part-same ∙ ((own are at).same ∙ sym whole-same); keys = keys-merged; contents = contents }))
      by (inr other) =
          let its = are.each j q other.1 in
          record { same = its.same ∙ sym whole-same; keys = its.keys; contents = its.contents }

  pub merged : HasContents (with_table part t f) → ArePartsOf part_of (slice_set parts k (with_table part t f)) (with_table whole t (around_state (rest_of are at t) f))
  merged contents = record {
    each = each-merged contents;
    slots = slots-merged;
    limits = limits-merged;
    new_limits =
        let sum = sum-same limit_of_new refl in
        let limits = are.new_limits in
        omega (arith, sum, limits);
  }

  pub shares-merged : ShareAllRoom parts whole → ShareAllRoom (slice_set parts k (with_table part t f)) (with_table whole t (around_state (rest_of are at t) f))
  shares-merged share = record {
    tables = λ u. sum-same (limit_in u) (part-limit u) ∙ (share.tables u ∙ sym (whole-limit u));
    new_tables = sum-same limit_of_new refl ∙ share.new_tables;
  }
