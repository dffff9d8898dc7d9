-- A step after which calls see what they saw, and which left the buckets, has changed nothing.
use Rattle.std.proofs.Common.{◌≡◌, ℕ, zero, suc, [], ◌∷◌, Option, None, Some, refl, ap}
use Rattle.std.specs.Prelude.{option_map}
use Rattle.ownership.specs.World.{Table, Tables, table_at}
use Rattle.fixed_walk.specs.TableState.{TableState}
use Rattle.node_core.specs.State.{State}
use Rattle.node_core.specs.Observable.{observable, observable_table, observable_tables, observable_table_state, KeepsBuckets}

same-fixed : (f g : TableState) → observable_table_state g ≡ observable_table_state f → g.buckets ≡ f.buckets → g ≡ f
same-fixed f g e b = λ i. record { content = (ap (λ (x : TableState). x.content) e) i; buckets = b i; fixes = (ap (λ (x : TableState). x.fixes) e) i }

same-table : (t u : Table) → observable_table u ≡ observable_table t → u.state.buckets ≡ t.state.buckets → u ≡ t
same-table t u e b = λ i. record { metadata = (ap (λ (x : Table). x.metadata) e) i; state = (same-fixed t.state u.state (ap (λ (x : Table). x.state) e) b) i }

abbrev some-of : Table → Option Table → Table
some-of d None = d
some-of d (Some t) = t

same-place : (t u : Option Table) → option_map observable_table u ≡ option_map observable_table t → ((was table : Table) → t ≡ Some was → u ≡ Some table → table.state.buckets ≡ was.state.buckets) → u ≡ t
same-place None None e k = refl
same-place None (Some u) e k = absurd (cc)
same-place (Some t) None e k = absurd (cc)
same-place (Some t) (Some u) e k = let same : observable_table u ≡ observable_table t = ap (some-of (observable_table t)) e in ap Some (same-table t u same (k t u refl refl))

abbrev head-of : Option Table → Tables → Option Table
head-of d [] = d
head-of d (x ∷ xs) = x

abbrev tail-of : Tables → Tables
tail-of [] = []
tail-of (x ∷ xs) = xs

same-tables : (xs ys : Tables) → observable_tables ys ≡ observable_tables xs → ((t : ℕ) (was table : Table) → table_at xs t ≡ Some was → table_at ys t ≡ Some table → table.state.buckets ≡ was.state.buckets) → ys ≡ xs
same-tables [] [] e k = refl
same-tables [] (y ∷ ys) e k = absurd (cc)
same-tables (x ∷ xs) [] e k = absurd (cc)
same-tables (x ∷ xs) (y ∷ ys) e k =
    let first = same-place x y (ap (head-of None) e) (k zero) in
    let rest = same-tables xs ys (ap tail-of e) (λ t. k (suc t)) in
    λ i. first i ∷ rest i

pub unobservable-same : (old new : State) → observable new ≡ observable old → KeepsBuckets old new → new ≡ old
unobservable-same old new e k =
    let tables = same-tables old.world.tables new.world.tables (ap (λ (s : State). s.world.tables) e) k in
    λ i. record {
      limits = (ap (λ (s : State). s.limits) e) i;
      world = record {
        max_processes = (ap (λ (s : State). s.world.max_processes) e) i;
        max_tables = (ap (λ (s : State). s.world.max_tables) e) i;
        processes = (ap (λ (s : State). s.world.processes) e) i;
        tables = tables i;
      };
    }
