use Rattle.std.proofs.Common.{◌++◌, map, false, drop, get_or, ◌+◌, rules, arith, ◌≡◌}
use Rattle.term_text.specs.Printed.{text_of_term, join_with_commas}
use Rattle.term_text.proofs.Printed.{text_of_term-Binary}
use Rattle.term_text.proofs.Pieces.{front-first, sends-fault, rows-more, rows-here, rows-at, row-comma-fails, row-item-fails, row-sent}
use Rattle.term_text.proofs.printer.+append.Goals as goal

pub append-returns-in-Binary : goal.append-returns-in-Binary
append-returns-in-Binary g t c =
    let bytes : c.as_slice-in-Binary.result.now ≡ c.in-Binary.bytes = c.as_slice-in-Binary.ensures in
    rw (c.in-Binary.is, text_of_term-Binary c.in-Binary.bytes) (rw bytes at c.append_bytes.ensures)

pub append_items-returns-in_err-write_str : goal.append_items-returns-in_err-write_str
append_items-returns-in_err-write_str g t c = sends-fault _ _ _ c.from_residual.result c.from_residual.ensures.0 (front-first _ _ c.args.front.now (join_with_commas false (map text_of_term c.args.items.now) ++ c.args.back.now) c.in_err-write_str.ensures)

pub append_items-returns-in_err-append_comma : goal.append_items-returns-in_err-append_comma
append_items-returns-in_err-append_comma g t c =
    let l = c.loop-item in
    let ts = c.args.items.now in
    let row = join_with_commas false (map text_of_term ts) in
    let sent = g.S.Sink.contents c.write_str.new.self in
    let now = g.S.Sink.contents l.out in
    let x = c.item-item.result in
    row-comma-fails _ sent now _ text_of_term l.later (get_or ts l.item-index x) (drop (l.item-index + 1) ts) c.args.front.now row c.args.back.now c.from_residual-in_err-append_comma.result
    c.from_residual-in_err-append_comma.ensures.0 c.in_ok-write_str.ensures (rows-here sent now text_of_term l.later ts l.item-index x row c.loop-item-test.true l.invariant) c.in_err-append_comma.ensures

pub append_items-returns-in_err-append : goal.append_items-returns-in_err-append
append_items-returns-in_err-append g t c =
    let l = c.loop-item in
    let ts = c.args.items.now in
    let row = join_with_commas false (map text_of_term ts) in
    let sent = g.S.Sink.contents c.write_str.new.self in
    let now = g.S.Sink.contents l.out in
    let x = c.item-item.result in
    let same : get_or ts l.item-index x ≡ x = search rules in
    row-item-fails _ sent now (g.S.Sink.contents c.append_comma.new.out) _ text_of_term l.later x (drop (l.item-index + 1) ts) c.args.front.now row c.args.back.now c.from_residual-in_err-append.result
    c.from_residual-in_err-append.ensures.0 c.in_ok-write_str.ensures (rows-at sent now text_of_term l.later ts l.item-index x row c.loop-item-test.true same l.invariant) c.in_ok-append_comma.ensures c.in_err-append.ensures

pub append_items-loop-item-preserved : goal.append_items-loop-item-preserved
append_items-loop-item-preserved g t c =
    let l = c.loop-item in
    let ts = c.args.items.now in
    let row = join_with_commas false (map text_of_term ts) in
    let sent = g.S.Sink.contents c.write_str.new.self in
    let now = g.S.Sink.contents l.out in
    let x = c.item-item.result in
    let same : get_or ts l.item-index x ≡ x = search rules in
    rows-more sent now (g.S.Sink.contents c.append_comma.new.out) (g.S.Sink.contents c.append.new.out) text_of_term l.later x (drop (l.item-index + 1) ts) row
    (rows-at sent now text_of_term l.later ts l.item-index x row c.loop-item-test.true same l.invariant) c.in_ok-append_comma.ensures c.in_ok-append.ensures

pub append_items-returns : goal.append_items-returns
append_items-returns g t c =
    let l = c.loop-item in
    let ts = c.args.items.now in
    row-sent _ (g.S.Sink.contents c.write_str.new.self) (g.S.Sink.contents l.out) _ text_of_term l.later ts l.item-index c.args.front.now (join_with_commas false (map text_of_term ts)) c.args.back.now c.write_str-2.result (omega arith)
    c.in_ok-write_str.ensures l.invariant c.write_str-2.ensures
