use Rattle.std.proofs.Common.{◌≡◌, ◌&&◌, Bool, true, false, ℕ, Option, None, Some, refl, sym, ap, ◌∙◌}
use Rattle.std.specs.Prelude.{is_some}
use Rattle.ownership.specs.declared.metadata.Metadata.{Metadata}
use Rattle.ownership.specs.World.{whereis}
use Rattle.ownership.proofs.world.World.create_table.Goals as goal

free : (named : Bool) (there : Option ℕ) → (named && is_some there) ≡ false → named ≡ true → there ≡ None
free true None taken e = refl
free true (Some t) taken e = cc
free false there taken e = cc

pub push_table-requires-clause-free : goal.push_table-requires-clause-free
push_table-requires-clause-free g c = λ named.
    let tables = c.args.self.now.tables in
    let its = c.in-Ok.ensures.metadata in
    ap (λ (h : Metadata). whereis tables h.name) its ∙ free c.args.options.named (whereis tables c.args.name.now) c.requires.free (ap (λ (h : Metadata). h.named) (sym its) ∙ named)
