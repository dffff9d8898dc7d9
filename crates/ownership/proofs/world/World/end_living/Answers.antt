use Rattle.std.proofs.Common.{◌≡◌, ◌+◌, ℕ, Some, sym, ap, subst, ◌∙◌, List, map, arith}
use Rattle.ownership.specs.World.{Tables, World, Processes, table_at, lives}
use Rattle.ownership.specs.Messages.{push_messages}
use Rattle.ownership.specs.End.{with_ended, after_exit, living_heir, table_after_exit, messages_from}
use Rattle.ownership.specs.inside.Ending.{after_transfers, messages_at}
use Rattle.ownership.specs.inside.Indices.{IsAmong, HeirsAreIndexed, CoversTablesOf, ids_under}
use Rattle.ownership.proofs.Ending.{all-after-same, posted-lives, heir-same, heir-before, ended-dead, messages-found}
use Rattle.ownership.proofs.Keeping.{kept-adds, owned-all}
use Rattle.ownership.proofs.world.World.end_living.Goals as goal

pub invariant_of-self : goal.invariant_of-self
invariant_of-self g c = kept-adds c.self.inside.indices c.self.inside.tables.items c.self.invariant c.index_heirs.new.self c.index_heirs.ensures.owners

pub invariant_of-self-in_err-post_transfers : goal.invariant_of-self-in_err-post_transfers
invariant_of-self-in_err-post_transfers g c = kept-adds c.self.inside.indices c.self.inside.tables.items c.self.invariant c.index_heirs.new.self c.index_heirs.ensures.owners

pub reassign_tables-requires-clause-indices : goal.reassign_tables-requires-clause-indices
reassign_tables-requires-clause-indices g c = kept-adds c.self.inside.indices c.self.inside.tables.items c.self.invariant c.index_heirs.new.self c.index_heirs.ensures.owners

pub reassign_tables-requires-clause-dead : goal.reassign_tables-requires-clause-dead
reassign_tables-requires-clause-dead g c =
    let entries = c.self.inside.processes.entries in
    let p = c.args.pid in
    ap (λ (ps : Processes). lives ps p) c.in_ok-post_transfers.ensures.ok ∙ posted-lives (with_ended entries p) p c.as_slice-3.result.now c.as_slice-4.result.now p
    ∙ ended-dead entries p (ap (λ (v : World). lives v.processes p) c.self.view_is ∙ c.requires)

pub reassign_tables-requires-clause-own : goal.reassign_tables-requires-clause-own
reassign_tables-requires-clause-own g c = λ t table at own.
    subst (IsAmong t) (sym (c.as_slice-5.ensures.value ∙ c.in_ok-table_ids.ensures)) (owned-all (ids_under c.self.inside.indices) c.self.inside.tables.items c.args.pid c.self.invariant.by_owner t table at own)

pub reassign_tables-requires-clause-heirs : goal.reassign_tables-requires-clause-heirs
reassign_tables-requires-clause-heirs g c = λ t table heir at own lived.
    let items = c.self.inside.tables.items in
    let entries = c.self.inside.processes.entries in
    let ps = c.post_transfers.new.processes.entries in
    let p = c.args.pid in
    let after = c.index_heirs.new.self in
    let mine : CoversTablesOf (ids_under c.self.inside.indices p) p items = owned-all (ids_under c.self.inside.indices) items p c.self.invariant.by_owner in
    let inherited : HeirsAreIndexed after entries items (ids_under c.self.inside.indices p) =
    subst (λ (ids : List ℕ). HeirsAreIndexed after entries items ids) (c.as_slice-2.ensures.value ∙ c.in_ok-table_ids.ensures) (subst (λ (ts : Tables). HeirsAreIndexed after entries ts c.as_slice-2.result.now) c.as_slice.ensures.value c.in_ok-index_heirs.ensures.ok) in
    let before : living_heir entries table.metadata ≡ Some heir =
    heir-before entries p table.metadata heir (sym (heir-same ps (with_ended entries p) table.metadata (λ r. ap (λ (qs : Processes). lives qs r) c.in_ok-post_transfers.ensures.ok ∙ posted-lives (with_ended entries p) p c.as_slice-3.result.now c.as_slice-4.result.now r)) ∙ lived) in
    inherited t table heir (mine t table at own) at before

pub returns-clause-ok : goal.returns-clause-ok
returns-clause-ok g c =
    let items = c.self.inside.tables.items in
    let entries = c.self.inside.processes.entries in
    let p = c.args.pid in
    let own = ids_under c.self.inside.indices p in
    let start = with_ended entries p in
    let from : (k : ℕ) → 0 + k ≡ k = λ k. omega arith in
    let found : messages_from start p 0 items ≡ messages_at start p (table_at items) own =
    messages-found start p (table_at items) 4294967296 0 items own (omega (arith, c.self.invariant.few)) (c.self.invariant.order p) (λ k. ap (table_at items) (from k), λ k table at mine. subst (λ i. IsAmong i own) (sym (from k)) (owned-all (ids_under c.self.inside.indices) items p c.self.invariant.by_owner k table at mine)) in
    let posts : c.post_transfers.new.processes.entries ≡ after_transfers start p items own =
    c.in_ok-post_transfers.ensures.ok ∙ ap (λ (ts : Tables). after_transfers start p ts c.as_slice-4.result.now) c.as_slice-3.ensures.value ∙ ap (after_transfers start p items) (c.as_slice-4.ensures.value ∙ c.in_ok-table_ids.ensures) in
    let processes : c.post_transfers.new.processes.entries ≡ push_messages start (messages_from start p 0 items) = posts ∙ ap (push_messages start) (sym found) in
    let tables : c.reassign_tables.new.tables.items ≡ map (table_after_exit start p) items =
    c.reassign_tables.ensures.after ∙ ap (λ (ps : Processes). map (table_after_exit ps p) items) posts ∙ all-after-same (after_transfers start p items own) start p items (posted-lives start p items own) in
    (λ i. record { max_processes = c.self.inside.max_processes; max_tables = c.self.inside.max_tables; processes = processes i; tables = tables i })
    ∙ ap (λ (v : World). after_exit v (with_ended v.processes p) p) c.self.view_is
