use Rattle.std.proofs.Common.{◌≡◌, ◌+◌, ◌<◌, [], Some, refl, ◌∙◌, length, take, map, slice_get, arith}
use Rattle.std.proofs.lemmas.Option.{slice_get_read}
use Rattle.ets_term.specs.Data.{data_of}
use Rattle.std.specs.List.{cons_option}
use Rattle.std.specs.Prelude.{filter_map}
use Rattle.table_ops.proofs.QueryLaws.{answers-next, ticks-one, joined}
use Rattle.table_ops.proofs.table_rows.TableRows.collect_from.Goals as goal

pub loop-object-preserved : goal.loop-object-preserved
loop-object-preserved g c =
    let xs = c.args.objects.now in
    let i = c.loop-object.object-index in
    let x = c.object-item.result in
    let give = g.P.Projection.projects c.args.trial.now.query.now in
    let within : i < length xs = omega arith in
    let at : slice_get xs i ≡ Some x = slice_get_read xs (length xs) i x refl within c.object-item.is in
    record {
      done = joined (map data_of c.args.results.now.items) (map data_of c.loop-object.results.items) (map data_of c.collect_one.new.results.items) (filter_map give (take i xs)) (cons_option (give x) []) (filter_map give (take (i + 1) xs))
          c.loop-object.invariant.done c.in_ok-collect_one.ensures.answers (answers-next give xs i x at);
      looked = c.in_ok-collect_one.ensures.looks ∙ ticks-one i c.args.looks.now c.loop-object.looks c.loop-object.invariant.looked;
    }
