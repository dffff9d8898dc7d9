use Rattle.std.proofs.Common.{List, ap, arith}
use Rattle.bucket_table.specs.Slots.{Slot, object_count}
use Rattle.table_ops.specs.Results.{chosen_count}
use Rattle.table_ops.specs.Read.{all_objects}
use Rattle.table_ops.proofs.QueryLaws.{chosen-append, chosen-few, objects-count}
use Rattle.table_ops.proofs.table_rows.TableRows.count_all.Goals as goal

pub overflow_add-total : goal.overflow_add-total
overflow_add-total g c =
    let choose = g.P.Predicate.tests c.args.trial.now.query.now in
    let all = g.R.Rows.slots c.args.self.now.rows in
    let os = c.in-Some.objects.now in
    let rest = c.next.new.self in
    let same = ap (λ (l : List Slot). chosen_count choose (all_objects l)) c.in-Some.ensures.steps in
    omega (arith, same, chosen-append choose os (all_objects rest), c.in_ok-total.ensures.count, c.loop-objects.invariant.2, chosen-few choose (all_objects all), objects-count all, c.requires.few)

pub loop-objects-preserved : goal.loop-objects-preserved
loop-objects-preserved g c =
    let choose = g.P.Predicate.tests c.args.trial.now.query.now in
    let os = c.in-Some.objects.now in
    let rest = c.next.new.self in
    let inv = c.loop-objects.invariant in
    let same = c.in-Some.ensures.steps in (
      tt,
      tt,
      omega (arith, ap (λ (l : List Slot). chosen_count choose (all_objects l)) same, chosen-append choose os (all_objects rest), c.in_ok-total.ensures.count, inv.2),
      omega (arith, c.in_ok-total.ensures.looks, ap object_count same, inv.3, inv.4),
      omega (arith, c.in_ok-total.ensures.looks, inv.4),
      omega (arith, c.in_ok-total.ensures.looks, inv.4, inv.5),
    )
