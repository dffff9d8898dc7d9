use Rattle.std.proofs.lemmas.Result.{err_from_is_err_and}
use Rattle.ets_packets.specs.Traffic.{traffic}
use Rattle.ets_packets.proofs.KnownBytes.{between, appends-same}
use Rattle.ets_script.specs.Threads.{ThreadsStop}
use Rattle.ets_script.proofs.Clients.{fault-of-err}
use Rattle.ets_script.proofs.ThreadsEnds.{threads-end, threads-write_fault, threads-stop}
use Rattle.ets_script.proofs.threads.run_threads.Goals as goal

pub returns-in_default-clause-err : goal.returns-in_default-clause-err
returns-in_default-clause-err g c = appends-same (g.W.Write.contents c.args.streams.now.output)

pub returns-in_err-planned-clause-err : goal.returns-in_err-planned-clause-err
returns-in_err-planned-clause-err g c =
    let before = g.R.Read.remaining c.args.streams.now.input in
    let after = g.R.Read.remaining c.run_input.new.reader in
    let old = g.W.Write.contents c.args.streams.now.output in
    fault-of-err (ThreadsStop c.args.settings.limits (traffic (between before after) (between old old))) c.from_residual.result _ c.from_residual.ensures.1 (threads-stop c.args.settings.limits before after old _ c.in_err-planned.ensures.err)

pub returns-in_err-print_results-clause-err : goal.returns-in_err-print_results-clause-err
returns-in_err-print_results-clause-err g c =
    let p = err_from_is_err_and c.from_residual-in_err-print_results.result c.from_residual-in_err-print_results.ensures.1 in
    rw (p.1, p.2) (threads-write_fault c.args.settings.limits (g.R.Read.remaining c.args.streams.now.input) (g.R.Read.remaining c.run_input.new.reader) (g.W.Write.contents c.args.streams.now.output) (g.W.Write.contents c.print_results.new.output.writer.now) c.in_ok-planned.planned c.in_ok-planned.run' c.in_ok-planned.ensures.ok (rw c.new-output.ensures.writer at c.in_err-print_results.ensures.err))

pub returns-clause-ok : goal.returns-clause-ok
returns-clause-ok g c =
    threads-end c.args.settings.limits (g.R.Read.remaining c.args.streams.now.input) (g.R.Read.remaining c.run_input.new.reader) (g.W.Write.contents c.args.streams.now.output) (g.W.Write.contents c.print_results.new.output.writer.now) c.in_ok-planned.planned c.in_ok-planned.run' c.in_ok-planned.ensures.ok (rw c.new-output.ensures.writer at c.in_ok-print_results.ensures.ok)
