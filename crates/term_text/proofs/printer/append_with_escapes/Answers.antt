use Rattle.std.proofs.Common.{rules, ap, ◌+◌}
use Rattle.term_text.proofs.Escapes.{escape-first, escape-stays, escape-turns, piece-fails, escape-ends, escape-same}
use Rattle.term_text.proofs.Pieces.{sends-fault}
use Rattle.term_text.proofs.printer.append_with_escapes.Goals as goal
use Rattle.term_text.proofs.printer.append_with_escapes.Goals.{then-needs_escape+in_ok-append_piece, else-needs_escape}

pub loop-i-init : goal.loop-i-init
loop-i-init g c = escape-first (g.S.Sink.contents c.args.out.now) c.args.text.now

pub returns-in_err-append_piece : goal.returns-in_err-append_piece
returns-in_err-append_piece g c =
    let w = c.loop-i in
    sends-fault _ _ _ c.from_residual.result c.from_residual.ensures.0 (piece-fails (g.S.Sink.contents c.args.out.now) (g.S.Sink.contents w.out) (g.S.Sink.contents c.append_piece.new.out) w.start w.i c.args.text.now w.invariant (search rules) (search rules) c.in_err-append_piece.ensures)

pub loop-i-preserved : goal.loop-i-preserved
loop-i-preserved g c =
    let v = c.loop-i in
    let old = g.S.Sink.contents c.args.out.now in
    let text = c.args.text.now in
    elim c.if-needs_escape.branch [
      | then-needs_escape+in_ok-append_piece w ↦
          escape-same old (g.S.Sink.contents w.append_piece.new.out) (g.S.Sink.contents c.if-needs_escape.out) v.i c.if-needs_escape.start (v.i + 1) text
          (ap g.S.Sink.contents w.out-is) w.start-is
          (escape-turns old (g.S.Sink.contents v.out) (g.S.Sink.contents w.append_piece.new.out) v.start v.i text v.invariant (search rules) (search rules) w.in_ok-append_piece.ensures)
      | else-needs_escape w ↦
          escape-same old (g.S.Sink.contents v.out) (g.S.Sink.contents c.if-needs_escape.out) v.start c.if-needs_escape.start (v.i + 1) text
          (ap g.S.Sink.contents w.out-is) w.start-is
          (escape-stays old (g.S.Sink.contents v.out) v.start v.i text v.invariant (search rules) (search rules))
    ]

pub returns : goal.returns
returns g c =
    let w = c.loop-i in
    escape-ends (g.S.Sink.contents c.args.out.now) (g.S.Sink.contents w.out) (g.S.Sink.contents c.append_slice.new.out) w.start w.i c.args.text.now c.append_slice.result w.invariant (search rules) (search rules)
