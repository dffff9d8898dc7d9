-- A change of the table with an identifier is a change of the state.
use Rattle.std.proofs.Common.{◌≡◌, ℕ, zero, suc, ◌≤◌, Bool, true, false, List, [], ◌∷◌, Option, None, Some, length, set, get_or, refl, sym, ap, subst, ◌∙◌, arith}
use Rattle.std.specs.Prelude.{MatchOption, option_map}
use Rattle.bucket_table.specs.Readying.{IsReadied}
use Rattle.bucket_table.specs.declared.growth.Readying.{Readying}
use Rattle.bucket_table.specs.declared.growth.Readying.TheVariants.{Ready, AlreadyReady, NotABucket}
use Rattle.table_ops.specs.Outcomes.{Outcome, gives}
use Rattle.fixed_walk.specs.TableState.{TableState}
use Rattle.ownership.specs.World.{Table, table_at}
use Rattle.ownership.proofs.MetadataLaws.{fixed-same}
use Rattle.node_core.specs.declared.step.Reply.{Reply}
use Rattle.node_core.specs.declared.step.Reply.TheVariants.{Badarg}
use Rattle.node_core.specs.State.{State}
use Rattle.node_core.specs.Access.{CallRule, with_table}
use Rattle.node_core.specs.rules.Growth.{in_table}

module _ (old : State) (t : ℕ) (was f : TableState) where
  abbrev Found : CallRule → Option Table → Outcome Reply State
  Found rule o reply new = MatchOption o (gives Badarg old reply new) (λ table. (fixed : TableState) × rule table.state reply fixed × (new ≡ with_table old t fixed))

  found_at : (rule : CallRule) (reply : Reply) (o : Option Table) → Some was ≡ option_map (λ table. table.state) o → rule was reply f → Found rule o reply (with_table old t f)
  found_at rule reply None e h = cc
  found_at rule reply (Some table) e h = let same : was ≡ table.state = cc in (f, subst (λ x. rule x reply f) same h, refl)

  same_at : (o : Option Table) → table_at old.world.tables t ≡ o → Some was ≡ option_map (λ table. table.state) o → f ≡ was → with_table old t f ≡ old
  same_at None at e same = cc
  same_at (Some table) at e same =
      let is : f ≡ table.state = same ∙ (cc) in
      ap (λ g. with_table old t g) is ∙ ap (λ ts. record old { world = record old.world { tables = ts } }) (fixed-same old.world.tables t table at)

  module _ (there : Some was ≡ option_map (λ table. table.state) (table_at old.world.tables t)) where
    pub done : (rule : CallRule) (reply : Reply) → rule was reply f → in_table old t rule reply (with_table old t f)
    done rule reply h = found_at rule reply (table_at old.world.tables t) there h

    pub not-done : f ≡ was → with_table old t f ≡ old
    not-done same = same_at (table_at old.world.tables t) refl there same

-- readying changes nothing if the bucket is ready, or if no bucket has the number
set-ready : (xs : List Bool) (i : ℕ) → get_or xs i false ≡ true → set xs i true ≡ xs
set-ready [] i e = refl
set-ready (x ∷ xs) zero e = ap (λ (b : Bool). b ∷ xs) (sym e)
set-ready (x ∷ xs) (suc i) e = ap (λ (ys : List Bool). x ∷ ys) (set-ready xs i e)

set-outside : (xs : List Bool) (i : ℕ) → length xs ≤ i → set xs i true ≡ xs
set-outside [] i h = refl
set-outside (x ∷ xs) zero h = absurd (omega (arith, h))
set-outside (x ∷ xs) (suc i) h = ap (λ (ys : List Bool). x ∷ ys) (set-outside xs i (omega (arith, h)))

readied-set : (bucket : ℕ) (old : List Bool) (r : Readying) (new : List Bool) → IsReadied bucket old r new → new ≡ set old bucket true
readied-set bucket old Ready new h = h.2
readied-set bucket old AlreadyReady new h = h.1 ∙ sym (set-ready old bucket h.0)
readied-set bucket old NotABucket new h = h.1 ∙ sym (set-outside old bucket h.0)

pub readied : (old new : TableState) (bucket : ℕ) (r : Readying) → IsReadied bucket old.buckets r new.buckets → new ≡ record old { buckets = new.buckets } → new ≡ record old { buckets = set old.buckets bucket true }
readied old new bucket r h content = content ∙ ap (λ (b : List Bool). record old { buckets = b }) (readied-set bucket old.buckets r new.buckets h)
