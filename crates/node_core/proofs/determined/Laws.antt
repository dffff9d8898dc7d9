-- The laws of refusals, of outcomes, and of two nodes.
use Rattle.std.proofs.Common.{◌≡◌, ℕ, zero, suc, true, false, [], ◌∷◌, Option, None, Some, option_map, refl, ap, ap₂, ◌∙◌}
use Rattle.std.specs.Prelude.{MatchOption}
use Rattle.table_ops.specs.Outcomes.{gives}
use Rattle.fixed_walk.specs.TableState.{TableState}
use Rattle.ownership.specs.World.{Table, Tables, table_at}
use Rattle.node_core.specs.declared.step.Step.TheVariants.{Enrol, End, Ask, Grow, Ready}
use Rattle.node_core.specs.declared.step.Reply.{Reply}
use Rattle.node_core.specs.declared.step.Reply.TheVariants.{Badarg}
use Rattle.node_core.specs.State.{State, empty}
use Rattle.node_core.specs.Observable.{observable, observable_table, observable_tables, KeepsBuckets}
use Rattle.node_core.specs.Access.{CallRule, with_table}
use Rattle.node_core.specs.Values.{is_value}
use Rattle.node_core.specs.rules.Growth.{Grows, Readies, ok_reply}
use Rattle.node_core.specs.laws.Agreement.{NodesAgree}
use Rattle.node_core.specs.laws.Outcomes.{RefusalsChangeNothing, RefusalsKeepBuckets, StepsHaveOutcomes}
use Rattle.node_core.proofs.buckets.Runs.{run-observable}
use Rattle.node_core.proofs.moves.Reached.{bounded-reached, sound-reached}
use Rattle.node_core.proofs.determined.UniqueRuns.{runs-agree}
use Rattle.node_core.proofs.determined.Wholes.{step-whole}

pub nothing-changed : RefusalsChangeNothing
nothing-changed old new s r h f = let whole = step-whole old s in whole.refused r new h f

pub outcomes : StepsHaveOutcomes
outcomes limits steps replies old done s =
    let whole = step-whole old s in whole.some (bounded-reached limits steps replies old done)

-- ---- refusals of a node
-- Two tables that are observed as the same and have the same buckets are the same.
same-table : (was table : Table) → observable_table table ≡ observable_table was → table.state.buckets ≡ was.state.buckets → table ≡ was
same-table was table e b =
    let F : Table → Table = λ t. record t { state = record t.state { buckets = table.state.buckets } } in
    ap F e ∙ ap (λ z. record was { state = record was.state { buckets = z } }) b

same-entry : (old new : Option Table) → option_map observable_table new ≡ option_map observable_table old → ((was table : Table) → old ≡ Some was → new ≡ Some table → table.state.buckets ≡ was.state.buckets) → new ≡ old
same-entry None None e k = refl
same-entry None (Some table) e k = absurd (cc)
same-entry (Some was) None e k = absurd (cc)
same-entry (Some was) (Some table) e k =
    let inside : observable_table table ≡ observable_table was = cc in
    ap (λ t. Some t) (same-table was table inside (k was table refl refl))

same-tables : (old new : Tables) → observable_tables new ≡ observable_tables old → ((t : ℕ) (was table : Table) → table_at old t ≡ Some was → table_at new t ≡ Some table → table.state.buckets ≡ was.state.buckets) → new ≡ old
same-tables [] [] e k = refl
same-tables [] (table ∷ new) e k = absurd (cc)
same-tables (was ∷ old) [] e k = absurd (cc)
same-tables (was ∷ old) (table ∷ new) e k =
    let first : option_map observable_table table ≡ option_map observable_table was = cc in
    let rest : observable_tables new ≡ observable_tables old = cc in
    ap₂ (λ t ts. t ∷ ts) (same-entry was table first (k zero)) (same-tables old new rest (λ t. k (suc t)))

kept : (old new : State) → observable new ≡ observable old → KeepsBuckets old new → new ≡ old
kept old new e k =
    let tables : new.world.tables ≡ old.world.tables = same-tables old.world.tables new.world.tables (ap (λ (s : State). s.world.tables) e) k in
    let F : State → State = λ s. record s { world = record s.world { tables = new.world.tables } } in
    ap F e ∙ ap (λ (ts : Tables). record old { world = record old.world { tables = ts } }) tables

growth-refused : (old new : State) (r : Reply) (t : ℕ) (rule : CallRule) → ((f g : TableState) → rule f r g → r ≡ ok_reply) → (found : Option Table) → MatchOption found (gives Badarg old r new) (λ table. (g : TableState) × rule table.state r g × (new ≡ with_table old t g)) → is_value r ≡ false → new ≡ old
growth-refused old new r t rule is-ok None h f = h.1
growth-refused old new r t rule is-ok (Some table) h f =
    let e : is_value r ≡ true = ap is_value (is-ok table.state h.0 h.1) in absurd (cc)

pub buckets-stay : RefusalsKeepBuckets
buckets-stay old new (Enrol p) r h b f = kept old new (nothing-changed (observable old) (observable new) (Enrol p) r h f) b.0
buckets-stay old new (End p) r h b f = kept old new (nothing-changed (observable old) (observable new) (End p) r h f) b.0
buckets-stay old new (Ask p asked) r h b f = kept old new (nothing-changed (observable old) (observable new) (Ask p asked) r h f) b.0
buckets-stay old new (Grow t) r h b f = growth-refused old new r t Grows (λ f g rule. rule.0) (table_at old.world.tables t) b f
buckets-stay old new (Ready t bucket) r h b f = growth-refused old new r t (Readies bucket) (λ f g rule. rule.0) (table_at old.world.tables t) b f

-- ---- two nodes
pub nodes-agree : NodesAgree
nodes-agree limits one other steps others replies answers same h k =
    runs-agree (empty limits) (observable one) (observable other) steps others replies answers
    (sound-reached limits [] [] (empty limits) refl) same
    (run-observable (empty limits) one steps replies h) (run-observable (empty limits) other others answers k)
