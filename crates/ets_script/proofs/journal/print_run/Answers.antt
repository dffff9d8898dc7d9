use Rattle.std.proofs.lemmas.Result.{err_from_is_err_and}
use Rattle.std.proofs.Common.{◌≡◌, rules, flat_map}
use Rattle.ets_packets.proofs.KnownBytes.{on-ok, on-err, sends-two, breaks-first, breaks-two}
use Rattle.ets_script.specs.Threads.{entry_text, stopped_text}
use Rattle.ets_script.proofs.journal.print_run.Goals as goal

pub returns-in_err-print_entries-clause-err : goal.returns-in_err-print_entries-clause-err
returns-in_err-print_entries-clause-err g c =
    let entries : c.as_slice.result.now ≡ c.args.run.now.entries.items = search rules in
    rw (err_from_is_err_and c.from_residual.result c.from_residual.ensures.1).1
    (breaks-first (g.W.Write.contents c.args.output.now.writer.now) (g.W.Write.contents c.print_entries.new.output.writer.now) c.args.output.now.bytes.now.items (flat_map (entry_text c.args.names.now) c.args.run.now.entries.items) (stopped_text c.args.names.now c.args.run.now.left.items) (rw entries at c.in_err-print_entries.ensures.err))

pub returns-clause-ok : goal.returns-clause-ok
returns-clause-ok g c =
    let entries : c.as_slice.result.now ≡ c.args.run.now.entries.items = search rules in
    let left : c.as_slice-2.result.now ≡ c.args.run.now.left.items = search rules in
    on-ok c.print_stopped_processes.result
    (λ q. sends-two (g.W.Write.contents c.args.output.now.writer.now) (g.W.Write.contents c.print_entries.new.output.writer.now) (g.W.Write.contents c.print_stopped_processes.new.output.writer.now) c.args.output.now.bytes.now.items (flat_map (entry_text c.args.names.now) c.args.run.now.entries.items) c.print_entries.new.output.bytes.now.items (stopped_text c.args.names.now c.args.run.now.left.items) c.print_stopped_processes.new.output.bytes.now.items (rw entries at c.in_ok-print_entries.ensures.ok) q) (rw left at c.print_stopped_processes.ensures.ok)

pub returns-clause-err : goal.returns-clause-err
returns-clause-err g c =
    let entries : c.as_slice.result.now ≡ c.args.run.now.entries.items = search rules in
    let left : c.as_slice-2.result.now ≡ c.args.run.now.left.items = search rules in
    on-err c.print_stopped_processes.result
    (λ q. breaks-two (g.W.Write.contents c.args.output.now.writer.now) (g.W.Write.contents c.print_entries.new.output.writer.now) (g.W.Write.contents c.print_stopped_processes.new.output.writer.now) c.args.output.now.bytes.now.items (flat_map (entry_text c.args.names.now) c.args.run.now.entries.items) c.print_entries.new.output.bytes.now.items (stopped_text c.args.names.now c.args.run.now.left.items) (rw entries at c.in_ok-print_entries.ensures.ok) q) (rw left at c.print_stopped_processes.ensures.err)
