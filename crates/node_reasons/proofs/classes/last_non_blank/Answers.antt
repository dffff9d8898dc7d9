use Rattle.std.proofs.Common.{◌<◌, ℕ, length, get_or, if◌then◌else◌, ap, sym, ◌∙◌, arith}
use Rattle.node_reasons.specs.Classes.{is_gap}
use Rattle.node_reasons.proofs.Signs.{sign_more}
use Rattle.node_reasons.proofs.classes.last_non_blank.Goals as goal

pub loop-byte-preserved : goal.loop-byte-preserved
loop-byte-preserved c =
    let text = c.args.text.now in
    let i = c.loop-byte.byte-index in
    let within : i < length text = omega arith in
    c.update_last_non_blank-last.ensures ∙ ap (λ (n : ℕ). if is_gap (get_or text i 0) then n else get_or text i 0) c.loop-byte.invariant ∙ sym (sign_more text i within)
