use Rattle.std.proofs.Common.{◌∷◌, [], ◌-◌, take, drop}
use Rattle.term_text.proofs.Pieces.{front-first, sends-fault, sends-then}
use Rattle.term_text.proofs.printer.append_piece.Goals as goal

pub returns-in_err-append_slice : goal.returns-in_err-append_slice
returns-in_err-append_slice g c = sends-fault _ _ _ c.from_residual.result c.from_residual.ensures.0 (front-first _ _ (take (c.args.end - c.args.start) (drop c.args.start c.args.text.now)) (92 ∷ []) c.in_err-append_slice.ensures)

pub returns : goal.returns
returns g c = sends-then _ (g.S.Sink.contents c.append_slice.new.out) _ (take (c.args.end - c.args.start) (drop c.args.start c.args.text.now)) (92 ∷ []) c.write_str.result c.in_ok-append_slice.ensures c.write_str.ensures
