use Rattle.std.proofs.Common.{rules, arith, ◌∙◌, ◌∷◌, [], ◌+◌, refl, get_or, ◌==◌}
use Rattle.term_text.specs.inside.Reader.{reads_on, angle, opened_binary, expect, digits, pid}
use Rattle.term_text.specs.declared.fault.TextFault.TheVariants.{Unexpected}
use Rattle.term_text.proofs.Offsets.{read-at, fails-at, reads_along, if-false}
use Rattle.term_text.proofs.binary.pid_or_binary_at.Goals as goal

pub returns-in-60-clause-reads : goal.returns-in-60-clause-reads
returns-in-60-clause-reads c = λ os. reads_along c.args.text.now c.args.at (c.args.at + 1) (reads_on angle os) (reads_on opened_binary os) os c.binary_at.result (read-at c.args.text.now c.args.at (reads_on angle os) (reads_on opened_binary os) (omega arith) (rw c.in-60.is refl)) (c.binary_at.ensures.reads os)

pub returns-in-48-clause-reads : goal.returns-in-48-clause-reads
returns-in-48-clause-reads c = λ os.
    let z = expect (c.args.at + 1) (46 ∷ []) (digits pid) os in
    reads_along c.args.text.now c.args.at (c.args.at + 1) (reads_on angle os) z os c.pid_at.result (read-at c.args.text.now c.args.at (reads_on angle os) z (omega arith) (rw c.in-48.is refl)) (c.pid_at.ensures.reads os)

pub returns-in_default-clause-reads : goal.returns-in_default-clause-reads
returns-in_default-clause-reads c = λ os.
    let b = get_or c.args.text.now c.args.at 0 in
    fails-at c.args.text.now c.args.at (reads_on angle os) (Unexpected c.args.at) (omega arith) (if-false (b == 60) _ _ (search rules) ∙ if-false (b == 48) _ _ (search rules))
