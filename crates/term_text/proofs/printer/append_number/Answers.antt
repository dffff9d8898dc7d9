use Rattle.std.proofs.Common.{decimal, ◌++◌}
use Rattle.term_text.proofs.Pieces.{front-first, front-then, sends-fault, sends-then}
use Rattle.term_text.proofs.printer.append_number.Goals as goal

pub returns-in_err-write_str : goal.returns-in_err-write_str
returns-in_err-write_str g c = sends-fault _ _ _ c.from_residual.result c.from_residual.ensures.0 (front-first _ _ c.args.front.now (decimal c.args.n ++ c.args.back.now) c.in_err-write_str.ensures)

pub returns-in_err-append_decimal : goal.returns-in_err-append_decimal
returns-in_err-append_decimal g c =
    sends-fault _ _ _ c.from_residual-in_err-append_decimal.result c.from_residual-in_err-append_decimal.ensures.0
    (front-then _ (g.S.Sink.contents c.write_str.new.self) _ c.args.front.now (decimal c.args.n ++ c.args.back.now) c.in_ok-write_str.ensures (front-first _ _ (decimal c.args.n) c.args.back.now c.in_err-append_decimal.ensures))

pub returns : goal.returns
returns g c = sends-then _ (g.S.Sink.contents c.write_str.new.self) _ c.args.front.now (decimal c.args.n ++ c.args.back.now) c.write_str-2.result c.in_ok-write_str.ensures (sends-then _ (g.S.Sink.contents c.append_decimal.new.out) _ (decimal c.args.n) c.args.back.now c.write_str-2.result c.in_ok-append_decimal.ensures c.write_str-2.ensures)
