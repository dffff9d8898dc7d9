use Rattle.std.proofs.Common.{◌≤◌, arith}
use Rattle.std.specs.List.{prefix_len}
use Rattle.term_text.specs.Text.{is_name}
use Rattle.ets_script.proofs.Words.{word-text}
use Rattle.ets_script.proofs.command.parts.parse_word.Goals as goal

pub returns-clause-atom : goal.returns-clause-atom
returns-clause-atom c =
    let e = c.name_len-len.ensures.len in
    let short : prefix_len is_name c.args.text.now ≤ 255 = omega arith in
    rw c.split_at.ensures.front (rw e (word-text c.args.text.now short))
