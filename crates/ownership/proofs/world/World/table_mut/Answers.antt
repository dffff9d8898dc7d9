use Rattle.std.proofs.Common.{◌≡◌, Option, None, Some, inl, option_map, sym, ap, subst, ◌∙◌}
use Rattle.fixed_walk.specs.TableState.{TableState}
use Rattle.ownership.specs.World.{Table, Tables, World, table_at, with_state}
use Rattle.ownership.specs.inside.Indices.{IndicesInvariant}
use Rattle.ownership.proofs.MetadataLaws.{fixed-there}
use Rattle.ownership.proofs.Keeping.{kept-fixed, kept-same}
use Rattle.ownership.proofs.world.World.table_mut.Goals as goal

pub invariant_of-self-lent : goal.invariant_of-self-lent
invariant_of-self-lent g c = λ w.
    let items = c.self.inside.tables.items in
    let at : table_at items c.args.id ≡ Some c.in_ok-owned.owned.now = sym (c.in_ok-found.ensures.item.3.1 None) ∙ sym c.in_ok-owned.ensures.value in
    let kept = subst (λ (ts : Tables). IndicesInvariant c.mark_dirty.new.self ts) c.as_slice.ensures.value c.mark_dirty.ensures.indices in
    kept-fixed c.mark_dirty.new.self items kept c.args.id c.in_ok-owned.owned.now w at c.mark_dirty.ensures.dirty

pub invariant_of-self-in_err-owned : goal.invariant_of-self-in_err-owned
invariant_of-self-in_err-owned g c =
    let items = c.self.inside.tables.items in
    let kept = subst (λ (ts : Tables). IndicesInvariant c.mark_dirty.new.self ts) c.as_slice.ensures.value c.mark_dirty.ensures.indices in
    kept-same c.mark_dirty.new.self items kept c.args.id c.in_ok-found.found.now (sym (c.in_ok-found.ensures.item.3.1 None))

pub returns : goal.returns
returns g c =
    let items = c.self.inside.tables.items in
    let at : table_at items c.args.id ≡ Some c.in_ok-owned.owned.now = sym (c.in_ok-found.ensures.item.3.1 None) ∙ sym c.in_ok-owned.ensures.value in
    let ends : (w : TableState) → _ = λ w.
    ap (λ tables. record { max_processes = c.self.inside.max_processes; max_tables = c.self.inside.max_tables; processes = c.self.inside.processes.entries; tables = tables }) (fixed-there items c.args.id c.in_ok-owned.owned.now w at)
    ∙ ap (λ (v : World). record v { tables = with_state v.tables c.args.id w }) c.self.view_is in (
      λ i. inl (c.table_mut.result.ghost_name, λ w. ends w i),
      record { lends = tt; value = ap Some (c.table_mut.ensures.value) ∙ ap (λ (o : Option Table). option_map (λ table. table.state) o) (sym at ∙ ap (λ (v : World). table_at v.tables c.args.id) c.self.view_is) },
    )
