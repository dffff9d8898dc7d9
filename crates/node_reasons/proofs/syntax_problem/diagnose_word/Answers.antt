use Rattle.std.proofs.Common.{◌≡◌, ◌≤◌, true, sym, arith}
use Rattle.std.specs.List.{prefix_len}
use Rattle.term_text.specs.Text.{is_lowercase, is_name}
use Rattle.node_reasons.proofs.Names.{diagnose_word-long}
use Rattle.node_reasons.proofs.syntax_problem.diagnose_word.Goals as goal

pub returns-then-name_len-ge-MAX_CHARACTERS : goal.returns-then-name_len-ge-MAX_CHARACTERS
returns-then-name_len-ge-MAX_CHARACTERS c =
    let small : is_lowercase c.args.byte ≡ true = cc in
    let long : 255 ≤ prefix_len is_name c.args.after.now = omega arith in
    sym (diagnose_word-long c.args.byte c.args.after.now small long)
