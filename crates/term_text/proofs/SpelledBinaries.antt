-- The automaton reads each spelling of a binary.
use Rattle.std.proofs.Common.{ℕ, ◌≡◌, refl, ap, ◌∙◌, ◌+◌, ◌++◌, ◌==◌, List, [], ◌∷◌, length, arith, false, append_assoc, length-append}
use Rattle.ets_term.specs.declared.term.Term.TheVariants.{Binary}
use Rattle.term_text.specs.declared.quote_form.QuoteForm.TheVariants as form
use Rattle.term_text.specs.Text.{is_blank, is_digit, begins}
use Rattle.term_text.specs.inside.Reader.{OpenBracket, byte, whole, in_quotes, opened_binary, wants_byte, after_byte, after_string, reads_on, put, expect, read_from}
use Rattle.term_text.specs.Grammar.{AreBlanks, SpellsQuoted, SpellsBytes, first, more}
use Rattle.term_text.proofs.Binaries.{opened-digit-here, opened-ends-here, bytes-end-here, wants-digit-here, string-ends-here}
use Rattle.term_text.proofs.Blanks.{opened_binary_ignores, wants_byte_ignores, after_byte_ignores, after_string_ignores}
use Rattle.term_text.proofs.Offsets.{if-false}
use Rattle.term_text.proofs.Meaning.{begins-more}
use Rattle.term_text.proofs.Signs.{angle-no-blank, angle-no-digit, blank-no-digit, comma-no-blank, comma-no-digit, digit-no-blank, digit-no-quote, quote-no-blank}
use Rattle.term_text.proofs.SpelledParts.{begins-other, blanks-stay, blanks-then, byte-taken, number-text, signs-text}
use Rattle.term_text.proofs.SpelledQuotes.{quoted-text}

-- the bytes of a binary
pub bytes-text : (at : ℕ) (os : List OpenBracket) (row bs rest : List ℕ) (fin : ℕ) → SpellsBytes row bs → begins is_digit rest ≡ false → fin ≡ at + length row
    → read_from at (reads_on opened_binary os) (row ++ rest) ≡ read_from fin (reads_on (after_byte bs) os) rest
bytes-text at os row bs rest fin (first before s n h num) k e =
    ap (λ (w : List ℕ). read_from at (reads_on opened_binary os) w) (append_assoc before s rest)
    ∙ blanks-stay at (reads_on opened_binary os) before (s ++ rest) (opened_binary_ignores os) h
    ∙ opened-digit-here (at + length before) os (s ++ rest) (begins-other is_digit is_blank s rest num.some digit-no-blank) (begins-other is_digit (λ b. b == 34) s rest num.some digit-no-quote) (begins-more is_digit s rest num.some)
    ∙ number-text (at + length before) (at + length before) (byte []) os s rest n fin num k (omega (arith, e, length-append before s))
bytes-text at os row bs rest fin (more r before behind s us n sp h i num) k e =
    let after-comma : List ℕ = behind ++ (s ++ rest) in
    let p1 : ℕ = at + length r in
    let p2 : ℕ = p1 + length before in
    let p3 : ℕ = p2 + 1 + length behind in
    ap (λ (w : List ℕ). read_from at (reads_on opened_binary os) w)
    (append_assoc r (before ++ 44 ∷ (behind ++ s)) rest ∙ ap (λ (w : List ℕ). r ++ w) (append_assoc before (44 ∷ (behind ++ s)) rest ∙ ap (λ (w : List ℕ). before ++ 44 ∷ w) (append_assoc behind s rest)))
    ∙ bytes-text at os r us (before ++ 44 ∷ after-comma) p1 sp (blanks-then is_digit before 44 after-comma h blank-no-digit comma-no-digit) refl
    ∙ blanks-stay p1 (reads_on (after_byte us) os) before (44 ∷ after-comma) (after_byte_ignores us os) h
    ∙ byte-taken p2 (reads_on (after_byte us) os) (reads_on (wants_byte us) os) 44 after-comma (if-false _ _ _ comma-no-blank)
    ∙ blanks-stay (p2 + 1) (reads_on (wants_byte us) os) behind (s ++ rest) (wants_byte_ignores us os) i
    ∙ wants-digit-here p3 us os (s ++ rest) (begins-other is_digit is_blank s rest num.some digit-no-blank)
    ∙ number-text p3 p3 (byte us) os s rest n fin (record { some = num.some; each = num.each; value = num.value; fits = num.fits }) k
    (omega (arith, e, length-append r (before ++ 44 ∷ (behind ++ s)), length-append before (44 ∷ (behind ++ s)), length-append behind s))

-- a binary after its `<<`
binary-end : (at : ℕ) (bs : List ℕ) (os : List OpenBracket) (rest : List ℕ) (fin : ℕ) → fin ≡ at + 2 → read_from at (expect at (62 ∷ 62 ∷ []) (whole (Binary bs)) os) (62 ∷ 62 ∷ rest) ≡ read_from fin (put os (Binary bs) fin) rest
binary-end at bs os rest fin e = signs-text at (62 ∷ 62 ∷ []) (whole (Binary bs)) os rest fin e

pub no-bytes-text : (at : ℕ) (os : List OpenBracket) (blanks rest : List ℕ) (fin : ℕ) → AreBlanks blanks → fin ≡ at + length (blanks ++ 62 ∷ 62 ∷ [])
    → read_from at (reads_on opened_binary os) ((blanks ++ 62 ∷ 62 ∷ []) ++ rest) ≡ read_from fin (put os (Binary []) fin) rest
no-bytes-text at os blanks rest fin h e =
    ap (λ (w : List ℕ). read_from at (reads_on opened_binary os) w) (append_assoc blanks (62 ∷ 62 ∷ []) rest)
    ∙ blanks-stay at (reads_on opened_binary os) blanks (62 ∷ 62 ∷ rest) (opened_binary_ignores os) h
    ∙ opened-ends-here (at + length blanks) os (62 ∷ 62 ∷ rest) angle-no-blank refl angle-no-digit
    ∙ binary-end (at + length blanks) [] os rest fin (omega (arith, e, length-append blanks (62 ∷ 62 ∷ [])))

pub full-bytes-text : (at : ℕ) (os : List OpenBracket) (row behind bs rest : List ℕ) (fin : ℕ) → SpellsBytes row bs → AreBlanks behind → fin ≡ at + length (row ++ (behind ++ 62 ∷ 62 ∷ []))
    → read_from at (reads_on opened_binary os) ((row ++ (behind ++ 62 ∷ 62 ∷ [])) ++ rest) ≡ read_from fin (put os (Binary bs) fin) rest
full-bytes-text at os row behind bs rest fin sp h e =
    let p : ℕ = at + length row in
    ap (λ (w : List ℕ). read_from at (reads_on opened_binary os) w) (append_assoc row (behind ++ 62 ∷ 62 ∷ []) rest ∙ ap (λ (w : List ℕ). row ++ w) (append_assoc behind (62 ∷ 62 ∷ []) rest))
    ∙ bytes-text at os row bs (behind ++ 62 ∷ 62 ∷ rest) p sp (blanks-then is_digit behind 62 (62 ∷ rest) h blank-no-digit angle-no-digit) refl
    ∙ blanks-stay p (reads_on (after_byte bs) os) behind (62 ∷ 62 ∷ rest) (after_byte_ignores bs os) h
    ∙ bytes-end-here (p + length behind) bs os (62 ∷ 62 ∷ rest) angle-no-blank refl
    ∙ binary-end (p + length behind) bs os rest fin (omega (arith, e, length-append row (behind ++ 62 ∷ 62 ∷ []), length-append behind (62 ∷ 62 ∷ [])))

pub byte-string-text : (at : ℕ) (os : List OpenBracket) (before s behind bs rest : List ℕ) (fin : ℕ) → AreBlanks before → SpellsQuoted 34 s bs → AreBlanks behind → fin ≡ at + length (before ++ 34 ∷ (s ++ 34 ∷ (behind ++ 62 ∷ 62 ∷ [])))
    → read_from at (reads_on opened_binary os) ((before ++ 34 ∷ (s ++ 34 ∷ (behind ++ 62 ∷ 62 ∷ []))) ++ rest) ≡ read_from fin (put os (Binary bs) fin) rest
byte-string-text at os before s behind bs rest fin h sp i e =
    let tail : List ℕ = behind ++ 62 ∷ 62 ∷ rest in
    let p1 : ℕ = at + length before in
    let p2 : ℕ = p1 + 1 + length s in
    let p3 : ℕ = p2 + 1 + length behind in
    ap (λ (w : List ℕ). read_from at (reads_on opened_binary os) w)
    (append_assoc before (34 ∷ (s ++ 34 ∷ (behind ++ 62 ∷ 62 ∷ []))) rest ∙ ap (λ (w : List ℕ). before ++ 34 ∷ w) (append_assoc s (34 ∷ (behind ++ 62 ∷ 62 ∷ [])) rest ∙ ap (λ (w : List ℕ). s ++ 34 ∷ w) (append_assoc behind (62 ∷ 62 ∷ []) rest)))
    ∙ blanks-stay at (reads_on opened_binary os) before (34 ∷ (s ++ 34 ∷ tail)) (opened_binary_ignores os) h
    ∙ byte-taken p1 (reads_on opened_binary os) (reads_on (in_quotes form.Binary []) os) 34 (s ++ 34 ∷ tail) (if-false _ _ _ quote-no-blank)
    ∙ quoted-text (p1 + 1) form.Binary os s bs (34 ∷ tail) p2 sp tt refl
    ∙ byte-taken p2 (reads_on (in_quotes form.Binary bs) os) (reads_on (after_string bs) os) 34 tail refl
    ∙ blanks-stay (p2 + 1) (reads_on (after_string bs) os) behind (62 ∷ 62 ∷ rest) (after_string_ignores bs os) i
    ∙ string-ends-here p3 bs os (62 ∷ 62 ∷ rest) angle-no-blank
    ∙ binary-end p3 bs os rest fin (omega (arith, e, length-append before (34 ∷ (s ++ 34 ∷ (behind ++ 62 ∷ 62 ∷ []))), length-append s (34 ∷ (behind ++ 62 ∷ 62 ∷ [])), length-append behind (62 ∷ 62 ∷ [])))
