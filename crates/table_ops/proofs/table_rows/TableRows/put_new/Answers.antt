use Rattle.std.proofs.Common.{◌≡◌, List, [], ◌∷◌, ap, subst, ◌∙◌}
use Rattle.ets_term.specs.declared.term.Term.{Term}
use Rattle.bucket_table.specs.Slots.{Enters}
use Rattle.table_ops.proofs.PutLaws.{new-put}
use Rattle.table_ops.proofs.table_rows.TableRows.put_new.Goals as goal

pub returns-clause-slots : goal.returns-clause-slots
returns-clause-slots g c =
    let old = g.R.Rows.slots c.args.self.now.rows in
    let new = g.R.Rows.slots c.put_at.new.self in
    new-put c.args.below_limit c.args.self.now.kind c.args.key.now c.args.object.now old new c.requires.new c.if-not-below_limit.false
    (subst (λ (l : List Term). Enters old c.args.key.now l new) (c.one-chain.ensures ∙ ap (λ t. t ∷ []) c.in_ok-packed.ensures) c.in_ok-put_at.ensures.ok)
