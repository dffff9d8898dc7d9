use Rattle.std.proofs.Common.{sym, ◌∙◌, subst}
use Rattle.std.specs.List.{IsDistinct}
use Rattle.bucket_table.specs.Rows.{HasDistinctKeys}
use Rattle.test_tables.proofs.tests.rows.several.put_three.Goals as goal

pub put-requires-clause-distinct : goal.put-requires-clause-distinct
unfolding IsDistinct
put-requires-clause-distinct g c =
    subst HasDistinctKeys (sym c.in_ok-vec.ensures.items)
    ((sym c.eq.ensures ∙ c.if-eq.false, (sym c.eq-else-eq-2.ensures ∙ c.if-eq-3.false, tt)), ((sym c.eq-else-eq.ensures ∙ c.if-eq-2.false, tt), (tt, tt)))
