use Rattle.std.proofs.Common.{rules, arith}
use Rattle.term_text.proofs.Characters.{no-escape}
use Rattle.term_text.proofs.quoted.escape_at.Goals as goal

pub returns-then-b-ne92-clause-reads : goal.returns-then-b-ne92-clause-reads
returns-then-b-ne92-clause-reads c = λ cs os. no-escape c.args.text.now c.args.at c.args.quotes cs os (omega arith) (search rules) (search rules)
