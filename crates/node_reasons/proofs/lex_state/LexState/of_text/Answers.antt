use Rattle.std.proofs.Common.{◌<◌, take, length, get_or, ap, sym, ◌∙◌, arith}
use Rattle.std.proofs.lemmas.List.{take_more, length-take-le}
use Rattle.node_reasons.specs.declared.lex_state.LexState.{LexState}
use Rattle.node_reasons.specs.LexStates.{lex_state_of}
use Rattle.node_reasons.specs.inside.Advance.{advance}
use Rattle.node_reasons.proofs.LexStateLaws.{lex_state-push, levels-low}
use Rattle.node_reasons.proofs.lex_state.LexState.of_text.Goals as goal

pub advance-requires : goal.advance-requires
advance-requires c =
    let text = c.args.text.now in
    let i = c.loop-byte.byte-index in
    let here = ap (λ (p : LexState). p.levels) c.loop-byte.invariant in
    omega (arith, here, levels-low (take i text), length-take-le i text (omega arith))

pub loop-byte-preserved : goal.loop-byte-preserved
loop-byte-preserved c =
    let text = c.args.text.now in
    let i = c.loop-byte.byte-index in
    let within : i < length text = omega arith in
    c.advance.ensures ∙ ap (λ (p : LexState). advance p (get_or text i 0)) c.loop-byte.invariant
    ∙ sym (lex_state-push (take i text) (get_or text i 0)) ∙ ap lex_state_of (sym (take_more text i 0 within))
