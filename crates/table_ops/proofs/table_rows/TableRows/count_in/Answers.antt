use Rattle.std.proofs.Common.{arith}
use Rattle.table_ops.proofs.QueryLaws.{chosen-take}
use Rattle.table_ops.proofs.table_rows.TableRows.count_in.Goals as goal

pub overflow_add-count : goal.overflow_add-count
overflow_add-count g c = omega (arith, chosen-take (g.P.Predicate.tests c.args.trial.now.query.now) c.loop-i.i c.args.objects.now, c.loop-i.invariant.done, c.in_ok-count.ensures.one)
