use Rattle.std.proofs.Common.{◌≡◌, None, Some, false, sym, subst, ◌∙◌, length, arith}
use Rattle.fixed_walk.specs.Fixes.{is_fixed}
use Rattle.ownership.specs.World.{table_at}
use Rattle.ownership.specs.inside.Indices.{FixedAreListed, IsUnfixed}
use Rattle.ownership.proofs.Keeping.{kept-beside}
use Rattle.ownership.proofs.FixedTables.{listed-put, listed-idle, on-ok, is-there}
use Rattle.ownership.proofs.indices.Indices.flush_dirty.Goals as goal

pub returns-then-is_fixed-clause-indices : goal.returns-then-is_fixed-clause-indices
returns-then-is_fixed-clause-indices g c =
    let indices = c.args.self.now in
    let tables = c.args.tables.now in
    let last = c.in-Some.last in
    let at : table_at tables last ≡ Some c.in-Some-Some.owned = sym (c.in-Some-Some.ensures.lookup.3.1 None) ∙ c.in-Some-Some.field-0-is in
    let listed : FixedAreListed indices.fixed.items (Some last) tables = subst (λ dirty. FixedAreListed indices.fixed.items dirty tables) c.in-Some.is c.requires.indices.listed in
    let put = on-ok c.insert_in_order.result (c.insert_in_order.ensures.room (length tables) listed.order (is-there tables last c.in-Some-Some.owned at) c.requires.indices.room) c.insert_in_order.ensures.ok in
    kept-beside indices tables c.requires.indices c.insert_in_order.new.ids None (listed-put tables indices.fixed.items last c.in-Some-Some.owned at listed c.insert_in_order.new.ids.items put) (omega (arith, c.requires.indices.room, c.insert_in_order.ensures.capacity))

pub returns-else-is_fixed-clause-indices : goal.returns-else-is_fixed-clause-indices
returns-else-is_fixed-clause-indices g c =
    let indices = c.args.self.now in
    let tables = c.args.tables.now in
    let last = c.in-Some.last in
    let at : table_at tables last ≡ Some c.in-Some-Some.owned = sym (c.in-Some-Some.ensures.lookup.3.1 None) ∙ c.in-Some-Some.field-0-is in
    let listed : FixedAreListed indices.fixed.items (Some last) tables = subst (λ dirty. FixedAreListed indices.fixed.items dirty tables) c.in-Some.is c.requires.indices.listed in
    let free : is_fixed c.table-table.result.now.fixes ≡ false = sym c.is_fixed.ensures ∙ c.if-is_fixed.false in
    let idle : IsUnfixed c.table-table.result.now = (free, c.reveal_invariant.ensures.tombstones free) in
    kept-beside indices tables c.requires.indices indices.fixed None (listed-idle tables indices.fixed.items last c.in-Some-Some.owned at listed (subst IsUnfixed c.table-table.ensures idle)) c.requires.indices.room
