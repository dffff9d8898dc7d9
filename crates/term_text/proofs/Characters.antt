-- Characters between quotes.
use Rattle.std.proofs.Common.{◌≡◌, ap, ◌∙◌, ◌<◌, ◌==◌, ◌||◌, ℕ, List, length, drop, get_or, Bool, true, false, Some, Err}
use Rattle.ets_term.specs.Character.{is_character}
use Rattle.term_text.specs.declared.fault.TextFault.{TextFault}
use Rattle.term_text.specs.declared.fault.TextFault.TheVariants.{Unexpected, Memory}
use Rattle.term_text.specs.declared.quote_form.QuoteForm.{QuoteForm}
use Rattle.term_text.specs.inside.Reader.{OpenBracket, in_quotes, after_backslash, Reading, reads_on, fails, quote, admits, read_from}
use Rattle.term_text.specs.Reading.{ReaderFails}
use Rattle.term_text.specs.inside.Parts.{RefusesNext, ReadsCharacter}
use Rattle.term_text.proofs.Offsets.{by-test, fails-at, if-true, if-false}

either-false : (a b : Bool) → a ≡ false → b ≡ false → (a || b) ≡ false
either-false true b h k = h
either-false false b h k = k

pub fails-as : (f : TextFault) (s : Reading) → s ≡ fails f → ReaderFails f s
fails-as Memory s e = tt
fails-as f s e = e

pub no-escape : (text : List ℕ) (at : ℕ) (q : QuoteForm) (cs : List ℕ) (os : List OpenBracket) → at < length text → (get_or text at 0 == quote q) ≡ false → (get_or text at 0 == 92) ≡ false
    → read_from at (reads_on (after_backslash q cs) os) (drop at text) ≡ fails (Unexpected at)
no-escape text at q cs os h a b = fails-at text at (reads_on (after_backslash q cs) os) (Unexpected at) h (if-false _ _ _ (either-false _ _ a b))

pub no-character : (text : List ℕ) (at : ℕ) (q : QuoteForm) (cs : List ℕ) (os : List OpenBracket) → at < length text → (get_or text at 0 == quote q) ≡ false → (get_or text at 0 == 92) ≡ false → is_character (get_or text at 0) ≡ false
    → read_from at (reads_on (in_quotes q cs) os) (drop at text) ≡ fails (Unexpected at)
no-character text at q cs os h a b d = fails-at text at (reads_on (in_quotes q cs) os) (Unexpected at) h (if-false _ _ _ a ∙ if-false _ _ _ b ∙ if-false _ _ _ d)

pub refused : (text : List ℕ) (at : ℕ) (q : QuoteForm) (out_of_levels : Bool) (n : ℕ) (f : TextFault) → at < length text → (get_or text at 0 == quote q) ≡ false → ((get_or text at 0 == 92) ≡ false → is_character (get_or text at 0) ≡ true)
    → RefusesNext at q n out_of_levels (Some f) → ReadsCharacter text at q out_of_levels n (Err f)
refused text at q out_of_levels n f h a d r = λ cs os len level.
    let s : Reading = reads_on (in_quotes q cs) os in
    let failed : (z : Reading) → admits at q (length cs) os z ≡ fails f = λ z. ap (λ (k : ℕ). admits at q k os z) len ∙ r os z level in
    fails-as f _ (fails-at text at s f h (by-test (get_or text at 0 == 92)
    (λ b. if-false _ _ _ a ∙ if-true _ _ _ b ∙ failed _)
    (λ b. if-false _ _ _ a ∙ if-false _ _ _ b ∙ if-true _ _ _ (d b) ∙ failed _)))
