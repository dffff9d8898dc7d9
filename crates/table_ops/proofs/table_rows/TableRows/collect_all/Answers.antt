use Rattle.std.proofs.Common.{◌++◌, List, map, sym, ap, ◌∙◌, arith, append_assoc}
use Rattle.ets_term.specs.Data.{Data, data_of}
use Rattle.bucket_table.specs.Slots.{object_count}
use Rattle.std.specs.Prelude.{filter_map}
use Rattle.table_ops.specs.Read.{all_objects}
use Rattle.table_ops.proofs.QueryLaws.{answers-append}
use Rattle.table_ops.proofs.table_rows.TableRows.collect_all.Goals as goal

pub loop-objects-preserved : goal.loop-objects-preserved
loop-objects-preserved g c =
    let give = g.P.Projection.projects c.args.trial.now.query.now in
    let before : List Data = map data_of c.loop-objects.results.items in
    let os = c.in-Some.objects.now in
    let rest = c.next.new.self in
    let inv = c.loop-objects.invariant in
    let same = c.in-Some.ensures.steps in (
      tt,
      tt,
      ap (λ (l : List Data). l ++ filter_map give (all_objects rest)) c.in_ok-collect_from.ensures.answers
          ∙ append_assoc before (filter_map give os) (filter_map give (all_objects rest))
          ∙ ap (λ (l : List Data). before ++ l) (sym (answers-append give os (all_objects rest)) ∙ ap (filter_map give) (sym (ap all_objects same)))
          ∙ inv.2,
      omega (arith, c.in_ok-collect_from.ensures.looks, ap object_count same, inv.3, inv.4),
      omega (arith, c.in_ok-collect_from.ensures.looks, inv.4),
      omega (arith, c.in_ok-collect_from.ensures.looks, inv.4, inv.5),
    )
