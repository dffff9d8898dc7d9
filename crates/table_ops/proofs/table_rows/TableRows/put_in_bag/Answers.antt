use Rattle.std.proofs.Common.{sym, ◌∙◌}
use Rattle.table_ops.proofs.PutLaws.{at-key, own-in, bag-contains}
use Rattle.table_ops.proofs.table_rows.TableRows.put_in_bag.Goals as goal

pub returns-then-contains-clause-slots : goal.returns-then-contains-clause-slots
returns-then-contains-clause-slots g c =
    let old = g.R.Rows.slots c.args.self.now.rows in
    let place = g.R.Rows.key_at c.args.self.now.rows c.args.place in
    at-key place _ c.requires (λ key is.
    bag-contains c.args.below_limit key c.args.object.now old c.objects_at.result.now (own-in old place key c.objects_at.result.now is c.objects_at.ensures) (sym c.contains.ensures ∙ c.if-contains.true))
