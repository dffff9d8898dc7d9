-- What steps do to the buckets of tables, which calls do not see: a step leaves those of each table that stays, and gives a new one its
-- first two; growing and readying do nothing else.
use Rattle.std.proofs.Common.{◌≡◌, ℕ, Bool, Option, None, Some, option_map, refl, sym, subst, ap, ◌∙◌}
use Rattle.std.specs.Prelude.{MatchOption}
use Rattle.std.specs.Option.{option_map_or}
use Rattle.table_ops.specs.Outcomes.{gives}
use Rattle.fixed_walk.specs.TableState.{TableState}
use Rattle.ownership.specs.World.{Table, Tables, table_at}
use Rattle.node_core.specs.declared.step.Step.TheVariants.{Grow, Ready}
use Rattle.node_core.specs.declared.step.Reply.{Reply}
use Rattle.node_core.specs.declared.step.Reply.TheVariants.{Badarg}
use Rattle.node_core.specs.State.{State}
use Rattle.node_core.specs.Observable.{observable_table_state, observable_table, observable, KeepsBuckets}
use Rattle.node_core.specs.Access.{CallRule, with_table}
use Rattle.node_core.specs.Machine.{step}
use Rattle.node_core.specs.rules.Growth.{in_table, Grows, Readies, ok_reply, growth_reply, HasFirstBuckets}
use Rattle.node_core.specs.rules.Tables.{first_buckets}
use Rattle.node_core.proofs.moves.Moves.{Follows, Stays, Came}
use Rattle.node_core.proofs.buckets.ObservableTables.{at-observable, same-observable}

-- a table that is there before and after stays
pub stays-there : {own : ℕ → Bool} (old new : State) → Follows own old.world.tables new.world.tables → (t : ℕ) (was table : Table) → table_at old.world.tables t ≡ Some was → table_at new.world.tables t ≡ Some table → Stays own was table
stays-there {own = own} old new follows t was table before after = subst (λ (o : Option Table). Came own old.world.tables t o table) before (follows.came t table after)

buckets-kept : {own : ℕ → Bool} (old new : State) → Follows own old.world.tables new.world.tables → KeepsBuckets old new
buckets-kept old new follows t was table before after = let stays = stays-there old new follows t was table before after in stays.fixed.buckets

came-fresh : (own : ℕ → Bool) (ts : Tables) (t : ℕ) (before : Option Table) (table : Table) → before ≡ None → Came own ts t before table → table.state.buckets ≡ first_buckets
came-fresh own ts t None table e came = came.fresh
came-fresh own ts t (Some was) table e came = absurd (cc)

-- and one that was not there is new
pub buckets-follow : {own : ℕ → Bool} (old new : State) → Follows own old.world.tables new.world.tables → KeepsBuckets old new × HasFirstBuckets old new
buckets-follow {own = own} old new follows = (buckets-kept old new follows, λ t table before after. came-fresh own old.world.tables t (table_at old.world.tables t) table before (follows.came t table after))

-- ---- growing and readying
module _ (old new : State) (reply : Reply) (t : ℕ) (rule : CallRule) (quiet : (f g : TableState) → rule f reply g → (reply ≡ ok_reply) × (observable_table_state g ≡ observable_table_state f)) where
  abbrev Grown : Option Table → Type 0
  Grown o = MatchOption o (gives Badarg old reply new) (λ table. (fixed : TableState) × rule table.state reply fixed × (new ≡ with_table old t fixed))

  abbrev ToReply : Option Table → Type 0
  ToReply o = gives (option_map_or (λ _. ok_reply) o Badarg) (observable old) reply (observable new)

  grown-reply : (o : Option Table) → table_at old.world.tables t ≡ o → Grown o → ToReply (option_map observable_table o)
  grown-reply None at h = (h.0, ap observable h.1)
  grown-reply (Some table) at h = let q = quiet table.state h.0 h.1 in (q.0, ap observable h.2 ∙ same-observable old t table h.0 at q.1)

  unobservable : in_table old t rule reply new → gives (growth_reply (observable old) t) (observable old) reply (observable new)
  unobservable h = subst ToReply (sym (at-observable old.world.tables t)) (grown-reply (table_at old.world.tables t) refl h)

pub grown-observable : (old new : State) (reply : Reply) (t : ℕ) → in_table old t Grows reply new → step (observable old) (Grow t) reply (observable new)
grown-observable old new reply t = unobservable old new reply t Grows (λ f g h. (h.0, ap observable_table_state h.3))

pub readied-observable : (old new : State) (reply : Reply) (t bucket : ℕ) → in_table old t (Readies bucket) reply new → step (observable old) (Ready t bucket) reply (observable new)
readied-observable old new reply t bucket = unobservable old new reply t (Readies bucket) (λ f g h. (h.0, ap observable_table_state h.1))
