use Rattle.std.proofs.Common.{sym, subst}
use Rattle.std.specs.List.{IsDistinct}
use Rattle.bucket_table.specs.Rows.{HasDistinctKeys}
use Rattle.test_tables.proofs.tests.rows.calls.put.Goals as goal

pub put-requires-clause-distinct : goal.put-requires-clause-distinct
unfolding IsDistinct
put-requires-clause-distinct g c = subst HasDistinctKeys (sym c.in_ok-vec.ensures.items) (tt, tt)
