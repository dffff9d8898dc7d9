use Rattle.std.proofs.Common.{◌≡◌, ◌<◌, Option, None, Some, sym, ap, subst, ◌∙◌, length, arith}
use Rattle.std.specs.Prelude.{slice_set}
use Rattle.std.proofs.lemmas.List.{get_or_read}
use Rattle.ownership.specs.World.{Table, table_at, metadata_of}
use Rattle.ownership.specs.inside.Indices.{IndicesInvariant}
use Rattle.ownership.proofs.Keeping.{kept-same}
use Rattle.ownership.proofs.world.World.drop_table.Goals as goal

pub invariant_of-self : goal.invariant_of-self
invariant_of-self g c =
    let items = c.self.inside.tables.items in
    let within : c.args.id < length items = omega (arith, c.self.invariant.few, c.self.inside.tables.ok.0) in
    let was : table_at items c.args.id ≡ Some c.in-Some.table = sym (get_or_read items c.args.id c.index_mut.result.now within c.index_mut.ensures.value None) ∙ sym c.replace-table.ensures.value ∙ c.in-Some.is in
    let at : metadata_of (table_at items c.args.id) ≡ Some c.metadata.result.now = ap metadata_of was ∙ ap Some (sym c.metadata.ensures) in
    subst (λ (o : Option Table). IndicesInvariant c.remove.new.self (slice_set items c.args.id o)) (sym c.replace-table.ensures.after) (c.remove.ensures.indices items c.args.id at c.self.invariant)

pub invariant_of-self-in_default : goal.invariant_of-self-in_default
invariant_of-self-in_default g c =
    let items = c.self.inside.tables.items in
    let within : c.args.id < length items = omega (arith, c.self.invariant.few, c.self.inside.tables.ok.0) in
    let was : table_at items c.args.id ≡ None = sym (get_or_read items c.args.id c.index_mut.result.now within c.index_mut.ensures.value None) ∙ sym c.replace-table.ensures.value ∙ c.in_default.is in
    subst (λ (o : Option Table). IndicesInvariant c.self.inside.indices (slice_set items c.args.id o)) (sym c.replace-table.ensures.after) (kept-same c.self.inside.indices items c.self.invariant c.args.id None was)
