use Rattle.std.proofs.Common.{◌∙◌, ◌+◌, ◌<◌, ◌≤◌, length, drop, get_or, rules, arith}
use Rattle.std.proofs.lemmas.Result.{err_from_is_err_and}
use Rattle.ets_script.specs.Threads.{stopped_text}
use Rattle.ets_script.specs.inside.Journal.{stop_text}
use Rattle.ets_script.proofs.Printing.{printed-more, printed-all, printed-broken, stopped-at, stopped-end}
use Rattle.ets_script.proofs.journal.print_stopped_processes.Goals as goal

pub returns-in_err-print_stop-clause-err : goal.returns-in_err-print_stop-clause-err
returns-in_err-print_stop-clause-err g c =
    let l = c.loop-number in
    let ns = c.args.names.now in
    let ts = c.args.left.now in
    let here : l.number < length ts = search rules in
    let named : l.number < length ns = let le = c.requires in omega (arith, here, le) in
    rw (err_from_is_err_and c.from_residual.result c.from_residual.ensures.1).1
    (printed-broken (g.W.Write.contents c.args.output.now.writer.now) (g.W.Write.contents l.output.writer.now) (g.W.Write.contents c.print_stop.new.output.writer.now) c.args.output.now.bytes.now.items (stopped_text ns ts) l.output.bytes.now.items (stopped_text (drop l.number ns) (drop l.number ts)) (stop_text c.name.result.now (get_or ts l.number 0)) (stopped_text (drop (l.number + 1) ns) (drop (l.number + 1) ts)) l.invariant.0
    (stopped-at ns ts l.number c.name.result.now here named c.name.ensures) c.in_err-print_stop.ensures.err)

pub loop-number-preserved : goal.loop-number-preserved
loop-number-preserved g c =
    let l = c.loop-number in
    let ns = c.args.names.now in
    let ts = c.args.left.now in
    let here : l.number < length ts = search rules in
    let named : l.number < length ns = let le = c.requires in omega (arith, here, le) in (
      printed-more (g.W.Write.contents c.args.output.now.writer.now) (g.W.Write.contents l.output.writer.now) (g.W.Write.contents c.print_stop.new.output.writer.now) c.args.output.now.bytes.now.items (stopped_text ns ts) l.output.bytes.now.items c.print_stop.new.output.bytes.now.items (stopped_text (drop l.number ns) (drop l.number ts)) (stop_text c.name.result.now (get_or ts l.number 0)) (stopped_text (drop (l.number + 1) ns) (drop (l.number + 1) ts)) l.invariant.0
          (stopped-at ns ts l.number c.name.result.now here named c.name.ensures) c.in_ok-print_stop.ensures.ok,
      c.print_stop.ensures.same_writer ∙ l.invariant.1,
    )

pub returns-clause-ok : goal.returns-clause-ok
returns-clause-ok g c =
    let l = c.loop-number in
    let ns = c.args.names.now in
    let ts = c.args.left.now in
    let past : length ts ≤ l.number = search rules in
    printed-all (g.W.Write.contents c.args.output.now.writer.now) (g.W.Write.contents l.output.writer.now) c.args.output.now.bytes.now.items (stopped_text ns ts) l.output.bytes.now.items (stopped_text (drop l.number ns) (drop l.number ts)) l.invariant.0 (stopped-end ns ts l.number past)
