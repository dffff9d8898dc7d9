use Rattle.std.proofs.Common.{◌≡◌, List, [], ◌∷◌, sym, ap, subst, ◌∙◌, arith}
use Rattle.ets_term.specs.declared.term.Term.{Term}
use Rattle.bucket_table.specs.Slots.{Enters}
use Rattle.table_ops.proofs.InsertLaws.{one-enters, one-full}
use Rattle.table_ops.proofs.table_rows.TableRows.put_one.Goals as goal

pub returns-then-before-self-clause-slots : goal.returns-then-before-self-clause-slots
returns-then-before-self-clause-slots g c =
    one-full c.args.self.now.limit c.args.before c.args.self.now.kind c.args.self.now.keypos c.args.object.now (g.R.Rows.slots c.args.self.now.rows) c.requires.holds.counted c.in-Some.key.now (omega (arith, c.if-before-self.true)) (sym c.in-Some.ensures) c.in-Vacant.ensures.0

pub returns-in_ok-put_at-in-Vacant-clause-slots : goal.returns-in_ok-put_at-in-Vacant-clause-slots
returns-in_ok-put_at-in-Vacant-clause-slots g c =
    let old = g.R.Rows.slots c.args.self.now.rows in
    let new = g.R.Rows.slots c.put_at.new.self in
    one-enters c.args.self.now.limit c.args.before c.args.self.now.kind c.args.self.now.keypos c.args.object.now old c.requires.holds.counted c.in-Some.key.now new (omega (arith, c.if-before-self.false)) (sym c.in-Some.ensures) c.in-Vacant.ensures.0
    (subst (λ (l : List Term). Enters old c.in-Some.key.now l new) (c.one-chain.ensures ∙ ap (λ t. t ∷ []) c.in_ok-packed-in-Vacant.ensures) c.in_ok-put_at-in-Vacant.ensures.ok)
