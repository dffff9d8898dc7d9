use Rattle.std.proofs.Common.{rules, arith, get_or}
use Rattle.term_text.specs.Text.{is_digit}
use Rattle.term_text.specs.inside.Reader.{reads_on, digit}
use Rattle.term_text.specs.declared.fault.TextFault.TheVariants.{Unexpected}
use Rattle.term_text.proofs.Offsets.{ends-at, fails-at, if-false, number-reaches, number-fails}
use Rattle.term_text.proofs.number.number_at.Goals as goal

pub returns-then-at-text-clause-reads : goal.returns-then-at-text-clause-reads
returns-then-at-text-clause-reads c = λ kind os e. ends-at c.args.text.now c.args.at (reads_on (digit kind c.args.start) os) (omega arith)

pub returns-then-not-is_digit_byte-clause-reads : goal.returns-then-not-is_digit_byte-clause-reads
returns-then-not-is_digit_byte-clause-reads c = λ kind os e. fails-at c.args.text.now c.args.at (reads_on (digit kind c.args.start) os) (Unexpected c.args.at) (omega arith) (if-false (is_digit (get_or c.args.text.now c.args.at 0)) _ _ (search rules))

pub returns-in-Some-clause-reads : goal.returns-in-Some-clause-reads
returns-in-Some-clause-reads c = λ kind os e.
    number-reaches c.args.text.now c.args.at c.args.start c.in-Some.found.0 c.in-Some.found.1 kind os (omega arith) (search rules) (search rules) (omega (arith, e)) (search rules)

pub returns-in-None-clause-reads : goal.returns-in-None-clause-reads
returns-in-None-clause-reads c = λ kind os e.
    number-fails c.args.text.now c.args.at c.args.start kind os (omega arith) (search rules) (omega (arith, e)) (omega (arith, e))
