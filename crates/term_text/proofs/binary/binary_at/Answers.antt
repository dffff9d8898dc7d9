use Rattle.std.proofs.Common.{rules, ◌∙◌, ◌+◌, []}
use Rattle.term_text.specs.inside.Reader.{reads_on, opened_binary, digit, byte, in_quotes}
use Rattle.term_text.specs.declared.quote_form.QuoteForm.TheVariants as form
use Rattle.term_text.proofs.Binaries.{opened_quote, opened_digit}
use Rattle.term_text.proofs.Blanks.{opened_binary_ignores}
use Rattle.term_text.proofs.Offsets.{reads_along}
use Rattle.term_text.proofs.binary.binary_at.Goals as goal

pub returns-then-byte_is-clause-reads : goal.returns-then-byte_is-clause-reads
returns-then-byte_is-clause-reads c = λ os.
    let text = c.args.text.now in
    let start = c.past_blanks-start.result in
    reads_along text c.args.at (start + 1) (reads_on opened_binary os) (reads_on (in_quotes form.Binary []) os) os c.string_binary_at.result
    (c.past_blanks-start.ensures.stays (reads_on opened_binary os) (opened_binary_ignores os) ∙ opened_quote text start os (search rules) (search rules))
    (c.string_binary_at.ensures.reads os)

pub returns-then-digit_at-clause-reads : goal.returns-then-digit_at-clause-reads
returns-then-digit_at-clause-reads c = λ os.
    let text = c.args.text.now in
    let start = c.past_blanks-start.result in
    reads_along text c.args.at start (reads_on opened_binary os) (reads_on (digit (byte []) start) os) os c.byte_binary_at.result
    (c.past_blanks-start.ensures.stays (reads_on opened_binary os) (opened_binary_ignores os) ∙ opened_digit text start os (search rules) (search rules) (search rules))
    (c.byte_binary_at.ensures.reads os)
