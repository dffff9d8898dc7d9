use Rattle.std.proofs.Common.{◌++◌, ◌∷◌, []}
use Rattle.std.specs.List.{flat_map}
use Rattle.term_text.specs.Printed.{escape}
use Rattle.term_text.proofs.Pieces.{front-first, front-then, sends-fault, sends-then}
use Rattle.term_text.proofs.printer.append_in_quotes.Goals as goal

pub returns-in_err-write_str : goal.returns-in_err-write_str
returns-in_err-write_str g c = sends-fault _ _ _ c.from_residual.result c.from_residual.ensures.0 (front-first _ _ (39 ∷ []) (flat_map escape c.args.text.now ++ 39 ∷ []) c.in_err-write_str.ensures)

pub returns-in_err-append_with_escapes : goal.returns-in_err-append_with_escapes
returns-in_err-append_with_escapes g c =
    sends-fault _ _ _ c.from_residual-in_err-append_with_escapes.result c.from_residual-in_err-append_with_escapes.ensures.0
    (front-then _ (g.S.Sink.contents c.write_str.new.self) _ (39 ∷ []) (flat_map escape c.args.text.now ++ 39 ∷ []) c.in_ok-write_str.ensures (front-first _ _ (flat_map escape c.args.text.now) (39 ∷ []) c.in_err-append_with_escapes.ensures))

pub returns : goal.returns
returns g c = sends-then _ (g.S.Sink.contents c.write_str.new.self) _ (39 ∷ []) (flat_map escape c.args.text.now ++ 39 ∷ []) c.write_str-2.result c.in_ok-write_str.ensures (sends-then _ (g.S.Sink.contents c.append_with_escapes.new.out) _ (flat_map escape c.args.text.now) (39 ∷ []) c.write_str-2.result c.in_ok-append_with_escapes.ensures c.write_str-2.ensures)
