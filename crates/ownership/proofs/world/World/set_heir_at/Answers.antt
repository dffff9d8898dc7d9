use Rattle.std.proofs.Common.{◌≡◌, ◌<◌, Option, None, Some, sym, ap, subst, ◌∙◌, length, arith}
use Rattle.std.specs.Prelude.{option_map, slice_set}
use Rattle.std.proofs.lemmas.List.{get_or_read}
use Rattle.ownership.specs.World.{Table, table_at}
use Rattle.ownership.specs.Tables.{with_heir}
use Rattle.ownership.specs.inside.Indices.{IndicesInvariant}
use Rattle.ownership.proofs.Keeping.{kept-heir}
use Rattle.ownership.proofs.world.World.set_heir_at.Goals as goal

pub invariant_of-self-2 : goal.invariant_of-self-2
invariant_of-self-2 g c =
    let indices = c.self.inside.indices in
    let items = c.self.inside.tables.items in
    let within : c.args.id < length items = omega (arith, c.self.invariant.few, c.self.inside.tables.ok.0) in
    let was : table_at items c.args.id ≡ Some c.in-Some.table = sym (get_or_read items c.args.id c.index_mut.result.now within c.index_mut.ensures.value None) ∙ c.in-Some.is in
    let now : Some c.set_heir.new.self ≡ option_map (with_heir c.args.heir) (table_at items c.args.id) = ap Some c.set_heir.ensures ∙ ap (option_map (with_heir c.args.heir)) (sym was) in
    subst (λ (o : Option Table). IndicesInvariant indices (slice_set items c.args.id o)) (sym now) (kept-heir indices items c.self.invariant c.args.id c.args.heir)
