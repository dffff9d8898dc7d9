use Rattle.std.proofs.Common.{◌++◌, ◌∷◌, [], Some, sym, ap, subst, ◌∙◌, length, arith}
use Rattle.ownership.specs.declared.metadata.Metadata.{Metadata}
use Rattle.ownership.specs.World.{Table, Tables, World, whereis}
use Rattle.ownership.specs.inside.Indices.{IndicesInvariant}
use Rattle.ownership.proofs.world.World.push_table.Goals as goal

pub invariant_of-self : goal.invariant_of-self
invariant_of-self g c = rw c.reserve.ensures.items c.self.invariant

pub insert-requires-clause-indices : goal.insert-requires-clause-indices
insert-requires-clause-indices g c = subst (λ (ts : Tables). IndicesInvariant c.self.inside.indices ts) (sym (c.as_slice.ensures.value ∙ c.reserve.ensures.items)) c.self.invariant

pub insert-requires-clause-few : goal.insert-requires-clause-few
insert-requires-clause-few g c =
    let same = ap (λ (ts : Tables). length ts) (c.as_slice.ensures.value ∙ c.reserve.ensures.items) ∙ ap (λ (v : World). length v.tables) c.self.view_is in
    omega (arith, same, c.requires.few)

pub insert-requires-clause-free : goal.insert-requires-clause-free
insert-requires-clause-free g c = λ named.
    let table = c.in_ok-owned.owned in
    let its = ap (λ (t : Table). t.metadata) c.in_ok-owned.ensures in
    ap (λ (ts : Tables). whereis ts table.metadata.name) (c.as_slice.ensures.value ∙ c.reserve.ensures.items) ∙ ap (λ (v : World). whereis v.tables table.metadata.name) c.self.view_is
    ∙ ap (λ (h : Metadata). whereis c.args.self.now.tables h.name) its ∙ c.requires.free (ap (λ (h : Metadata). h.named) (sym its) ∙ named)

pub invariant_of-self-in-Err-insert : goal.invariant_of-self-in-Err-insert
invariant_of-self-in-Err-insert g c = subst (λ (ts : Tables). IndicesInvariant c.insert.new.self ts) c.as_slice.ensures.value c.in-Err-insert.ensures.err

pub invariant_of-self-2 : goal.invariant_of-self-2
invariant_of-self-2 g c =
    subst (λ (ts : Tables). IndicesInvariant c.insert.new.self ts) (ap (λ (ts : Tables). ts ++ Some c.in_ok-owned.owned ∷ []) c.as_slice.ensures.value ∙ sym c.push_reserved.ensures.items) c.in_default-insert.ensures.ok
