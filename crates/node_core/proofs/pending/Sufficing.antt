-- Once no step is pending, each table has enough buckets, and all of them are ready.
use Rattle.std.proofs.Common.{◌≡◌, ◌⊎◌, ℕ, zero, suc, ◌*◌, ◌≤◌, ◌&&◌, not, inl, inr, Bool, true, false, [], ◌∷◌, Option, None, Some, option_map, refl, subst, length, get_or, arith}
use Rattle.std.specs.Prelude.{if◌then◌else◌, position, nat_lt}
use Rattle.std.specs.Option.{option_map_or}
use Rattle.std.proofs.lemmas.Bool.{cases_lt}
use Rattle.std.proofs.lemmas.Bool.Decides.{nat_tests}
use Rattle.ownership.specs.World.{Table, Tables, table_at}
use Rattle.ownership.proofs.Places.{position-None}
use Rattle.node_core.specs.declared.step.Step.{Step}
use Rattle.node_core.specs.declared.step.Step.TheVariants.{Grow, Ready}
use Rattle.node_core.specs.Pending.{max_slots_per_bucket, is_crowded, pending_step_of, pending_from}
use Rattle.node_core.specs.rules.Growth.{max_buckets}
use Rattle.node_core.specs.laws.Growth.{GrowthSuffices}

neither : (here behind : Option Step) → option_map_or (λ step. Some step) here behind ≡ None → (here ≡ None) × (behind ≡ None)
neither None behind e = (refl, e)
neither (Some s) behind e = absurd (cc)

-- no table of the list has a pending step
none-pending : (n : ℕ) (tables : Tables) (t : ℕ) (table : Table) → pending_from n tables ≡ None → table_at tables t ≡ Some table → (m : ℕ) × (pending_step_of m table.state ≡ None)
none-pending n [] t table e at = absurd (cc)
none-pending n (None ∷ tables) zero table e at = absurd (cc)
none-pending n (None ∷ tables) (suc t) table e at = none-pending (suc n) tables t table e at
none-pending n (Some own ∷ tables) zero table e at =
    let parts = neither (pending_step_of n own.state) (pending_from (suc n) tables) e in
    let same : own ≡ table = cc in
    (n, subst (λ (o : Table). pending_step_of n o.state ≡ None) same parts.0)
none-pending n (Some own ∷ tables) (suc t) table e at =
    let parts = neither (pending_step_of n own.state) (pending_from (suc n) tables) e in
    none-pending (suc n) tables t table parts.1 at

no-bucket : (m : ℕ) (bucket : Option ℕ) → option_map (λ b. Ready m b) bucket ≡ None → bucket ≡ None
no-bucket m None e = refl
no-bucket m (Some b) e = absurd (cc)

not-both : (m : ℕ) (crowded : Bool) (bucket : Option ℕ) → (if crowded then Some (Grow m) else option_map (λ b. Ready m b) bucket) ≡ None → (crowded ≡ false) × (bucket ≡ None)
not-both m true bucket e = absurd (cc)
not-both m false bucket e = (refl, no-bucket m bucket e)

enough : (slots buckets most : ℕ) → (nat_lt (max_slots_per_bucket * buckets) slots && nat_lt buckets most) ≡ false → (slots ≤ 4 * buckets) ⊎ (most ≤ buckets)
enough slots buckets most e =
    elim (cases_lt (4 * buckets) slots) [
      | inl less ↦ inr (grind (arith, nat_tests, e, less))
      | inr more ↦ inl more
    ]

is-true : (b : Bool) → not b ≡ false → b ≡ true
is-true true e = refl
is-true false e = absurd (cc)

pub growth-suffices : GrowthSuffices
growth-suffices s t table none at =
    let own = none-pending 0 s.world.tables t table none at in
    let parts = not-both own.0 (is_crowded table.state) (position not table.state.buckets) own.1 in (
      enough (length table.state.content.slots) (length table.state.buckets) max_buckets parts.0,
      λ bucket within. is-true (get_or table.state.buckets bucket false) (position-None not table.state.buckets bucket false parts.1 within),
    )
