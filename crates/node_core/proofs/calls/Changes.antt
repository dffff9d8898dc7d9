-- A change of one table is a change of the state.
use Rattle.std.proofs.Common.{◌≡◌, ℕ, Bool, true, false, cond, Option, None, Some, refl, ap, subst, ◌∙◌}
use Rattle.std.specs.Prelude.{MatchOption, option_map, Ok, Err}
use Rattle.std.specs.Option.{option_and_then, option_map_or}
use Rattle.ets_term.specs.declared.term.Term.{Term}
use Rattle.table_ops.specs.declared.refusal.Refusal.{Refusal}
use Rattle.table_ops.specs.declared.refusal.Refusal.TheVariants.{Badarg, SystemLimit, Memory}
use Rattle.table_ops.specs.Refusals.{RefinesChange}
use Rattle.table_ops.specs.Outcomes.{Change, Outcome, gives}
use Rattle.fixed_walk.specs.TableState.{TableState}
use Rattle.ownership.specs.World.{Table, Tables, table_at, resolve}
use Rattle.ownership.proofs.MetadataLaws.{fixed-same}
use Rattle.node_core.specs.declared.node.access.Access.{Access}
use Rattle.node_core.specs.declared.step.Reply.{Reply}
use Rattle.node_core.specs.declared.step.Reply.TheVariants as variants
use Rattle.node_core.specs.State.{State}
use Rattle.node_core.specs.Access.{may_access, table_if_allowed, usable, with_table, changes, CallRule, replies}
use Rattle.node_core.specs.inside.Lending.{with_usable}
use Rattle.node_core.specs.inside.Refusals as called

-- a table that may be used is there
pub record IsThere (tables : Tables) (found : ℕ × Table) : Type 0 where
  pub at : table_at tables found.0 ≡ Some found.1

allowed_at : (b : Bool) (t : ℕ) (table : Table) (found : ℕ × Table) → cond b (Some (t, table)) None ≡ Some found → (t, table) ≡ found
allowed_at true t table found e = cc
allowed_at false t table found e = cc

there_at : (tables : Tables) (access : Access) (p t : ℕ) (o : Option Table) (found : ℕ × Table) → table_at tables t ≡ o → option_and_then (table_if_allowed access p t) o ≡ Some found → IsThere tables found
there_at tables access p t None found at e = cc
there_at tables access p t (Some table) found at e = subst (IsThere tables) (allowed_at (may_access access table.metadata p) t table found e) (record { at = at })

resolved_at : (tables : Tables) (access : Access) (p : ℕ) (o : Option ℕ) (found : ℕ × Table) → option_and_then (λ t. option_and_then (table_if_allowed access p t) (table_at tables t)) o ≡ Some found → IsThere tables found
resolved_at tables access p None found e = cc
resolved_at tables access p (Some t) found e = there_at tables access p t (table_at tables t) found refl e

pub usable-there : (tables : Tables) (access : Access) (p : ℕ) (term : Term) (found : ℕ × Table) → usable access tables p term ≡ Some found → IsThere tables found
usable-there tables access p term found e = resolved_at tables access p (resolve tables term) found e

module _ (old : State) (p : ℕ) (access : Access) (term : Term) (was f : TableState) where
  abbrev after : Option (ℕ × Table) → State
  after o = option_map_or (λ found. with_table old found.0 f) o old

  -- what `changes` says of the table that is found
  abbrev Found : CallRule → Option (ℕ × Table) → Outcome Reply State
  Found rule o reply new = MatchOption o (gives variants.Badarg old reply new) (λ found. (fixed : TableState) × rule found.1.state reply fixed × (new ≡ with_table old found.0 fixed))

  changed_at : (rule : CallRule) (reply : Reply) (o : Option (ℕ × Table)) → Some was ≡ option_map (λ found. found.1.state) o → rule was reply f → Found rule o reply (after o)
  changed_at rule reply None e h = cc
  changed_at rule reply (Some found) e h = let same : was ≡ found.1.state = cc in (f, subst (λ t. rule t reply f) same h, refl)

  same_at : (o : Option (ℕ × Table)) → usable access old.world.tables p term ≡ o → Some was ≡ option_map (λ found. found.1.state) o → f ≡ was → after o ≡ old
  same_at None u e same = refl
  same_at (Some found) u e same =
      let is : f ≡ found.1.state = same ∙ (cc) in
      ap (λ g. with_table old found.0 g) is ∙ ap (λ ts. record old { world = record old.world { tables = ts } }) (fixed-same old.world.tables found.0 found.1 (usable-there old.world.tables access p term found u).at)

  module _ (there : Some was ≡ option_map (λ found. found.1.state) (usable access old.world.tables p term)) where
    -- the rule of the call changes the borrowed table
    pub changed : (rule : CallRule) (reply : Reply) → rule was reply f → changes old p access term rule reply (with_usable old access p term f)
    changed rule reply h = changed_at rule reply (usable access old.world.tables p term) there h

    -- or nothing changes
    pub unchanged : f ≡ was → with_usable old access p term f ≡ old
    unchanged same = same_at (usable access old.world.tables p term) refl there same

    -- the change is done, and so is the call
    pub changed-ok : {X : Type 0} (answer : X → Reply) (change : TableState → Change X TableState) (x : X) → change was (Ok x) f → changes old p access term (replies answer change) (answer x) (with_usable old access p term f)
    changed-ok answer change x h = changed (replies answer change) (answer x) (Ok x, h, refl)

    -- the change is refused, and so is the call
    pub changed-err : {X : Type 0} (answer : X → Reply) (change : TableState → Change X TableState) (refusal : Refusal) → RefinesChange (change was) was (Err refusal) f
        → called.RefinesReply (changes old p access term (replies answer change)) old (Err refusal) (with_usable old access p term f)
    changed-err answer change Badarg h = changed (replies answer change) variants.Badarg (Err Badarg, h, refl)
    changed-err answer change SystemLimit h = changed (replies answer change) variants.SystemLimit (Err SystemLimit, h, refl)
    changed-err answer change Memory h = unchanged h
