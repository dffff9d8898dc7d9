use Rattle.std.proofs.Common.{◌≡◌, ◌∙◌, ◌+◌, drop, get_or, flat_map, rules}
use Rattle.std.proofs.lemmas.Result.{err_from_is_err_and}
use Rattle.ets_script.specs.Threads.{entry_text}
use Rattle.ets_script.proofs.Printing.{printed-more, printed-broken, items-at}
use Rattle.ets_script.proofs.journal.print_entries.Goals as goal

pub returns-in_err-print_entry-clause-err : goal.returns-in_err-print_entry-clause-err
returns-in_err-print_entry-clause-err g c =
    let l = c.loop-entry in
    let ts = c.args.entries.now in
    let f = entry_text c.args.names.now in
    let item : get_or ts l.entry-index c.entry-item.result ≡ c.entry-item.result = search rules in
    let x = c.get.result.now in
    let same : get_or ts l.entry-index x ≡ x = rw c.get.ensures item in
    rw (err_from_is_err_and c.from_residual.result c.from_residual.ensures.1).1
    (printed-broken (g.W.Write.contents c.args.output.now.writer.now) (g.W.Write.contents l.output.writer.now) (g.W.Write.contents c.print_entry.new.output.writer.now) c.args.output.now.bytes.now.items (flat_map f ts) l.output.bytes.now.items (flat_map f (drop l.entry-index ts)) (f x) (flat_map f (drop (l.entry-index + 1) ts)) l.invariant.0
    (items-at f ts l.entry-index x c.loop-entry-test.true same) c.in_err-print_entry.ensures.err)

pub loop-entry-preserved : goal.loop-entry-preserved
loop-entry-preserved g c =
    let l = c.loop-entry in
    let ts = c.args.entries.now in
    let f = entry_text c.args.names.now in
    let item : get_or ts l.entry-index c.entry-item.result ≡ c.entry-item.result = search rules in
    let x = c.get.result.now in
    let same : get_or ts l.entry-index x ≡ x = rw c.get.ensures item in (
      printed-more (g.W.Write.contents c.args.output.now.writer.now) (g.W.Write.contents l.output.writer.now) (g.W.Write.contents c.print_entry.new.output.writer.now) c.args.output.now.bytes.now.items (flat_map f ts) l.output.bytes.now.items c.print_entry.new.output.bytes.now.items (flat_map f (drop l.entry-index ts)) (f x) (flat_map f (drop (l.entry-index + 1) ts)) l.invariant.0
          (items-at f ts l.entry-index x c.loop-entry-test.true same) c.in_ok-print_entry.ensures.ok,
      c.print_entry.ensures.same_writer ∙ l.invariant.1,
    )
