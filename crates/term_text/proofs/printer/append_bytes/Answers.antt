use Rattle.std.proofs.Common.{decimal, ◌++◌, map, false, drop, get_or, ◌+◌, arith}
use Rattle.term_text.specs.Printed.{join_with_commas}
use Rattle.term_text.proofs.Pieces.{front-first, sends-fault, rows-more, rows-here, row-comma-fails, row-item-fails, row-sent}
use Rattle.term_text.proofs.printer.append_bytes.Goals as goal

pub returns-in_err-write_str : goal.returns-in_err-write_str
returns-in_err-write_str g c = sends-fault _ _ _ c.from_residual.result c.from_residual.ensures.0 (front-first _ _ c.args.front.now (join_with_commas false (map decimal c.args.bytes.now) ++ c.args.back.now) c.in_err-write_str.ensures)

pub returns-in_err-append_comma : goal.returns-in_err-append_comma
returns-in_err-append_comma g c =
    let l = c.loop-b in
    let bs = c.args.bytes.now in
    let row = join_with_commas false (map decimal bs) in
    let sent = g.S.Sink.contents c.write_str.new.self in
    let now = g.S.Sink.contents l.out in
    row-comma-fails _ sent now _ decimal l.later (get_or bs l.b-index 0) (drop (l.b-index + 1) bs) c.args.front.now row c.args.back.now c.from_residual-in_err-append_comma.result
    c.from_residual-in_err-append_comma.ensures.0 c.in_ok-write_str.ensures (rows-here sent now decimal l.later bs l.b-index 0 row c.loop-b-test.true l.invariant) c.in_err-append_comma.ensures

pub returns-in_err-append_decimal : goal.returns-in_err-append_decimal
returns-in_err-append_decimal g c =
    let l = c.loop-b in
    let bs = c.args.bytes.now in
    let row = join_with_commas false (map decimal bs) in
    let sent = g.S.Sink.contents c.write_str.new.self in
    let now = g.S.Sink.contents l.out in
    row-item-fails _ sent now (g.S.Sink.contents c.append_comma.new.out) _ decimal l.later (get_or bs l.b-index 0) (drop (l.b-index + 1) bs) c.args.front.now row c.args.back.now c.from_residual-in_err-append_decimal.result
    c.from_residual-in_err-append_decimal.ensures.0 c.in_ok-write_str.ensures (rows-here sent now decimal l.later bs l.b-index 0 row c.loop-b-test.true l.invariant) c.in_ok-append_comma.ensures c.in_err-append_decimal.ensures

pub loop-b-preserved : goal.loop-b-preserved
loop-b-preserved g c =
    let l = c.loop-b in
    let bs = c.args.bytes.now in
    let row = join_with_commas false (map decimal bs) in
    let sent = g.S.Sink.contents c.write_str.new.self in
    let now = g.S.Sink.contents l.out in
    rows-more sent now (g.S.Sink.contents c.append_comma.new.out) (g.S.Sink.contents c.append_decimal.new.out) decimal l.later (get_or bs l.b-index 0) (drop (l.b-index + 1) bs) row
    (rows-here sent now decimal l.later bs l.b-index 0 row c.loop-b-test.true l.invariant) c.in_ok-append_comma.ensures c.in_ok-append_decimal.ensures

pub returns : goal.returns
returns g c =
    let l = c.loop-b in
    let bs = c.args.bytes.now in
    row-sent _ (g.S.Sink.contents c.write_str.new.self) (g.S.Sink.contents l.out) _ decimal l.later bs l.b-index c.args.front.now (join_with_commas false (map decimal bs)) c.args.back.now c.write_str-2.result (omega arith)
    c.in_ok-write_str.ensures l.invariant c.write_str-2.ensures
