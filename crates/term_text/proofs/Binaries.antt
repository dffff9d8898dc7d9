-- The bytes of a binary, and what follows them.
use Rattle.std.proofs.Common.{◌≡◌, refl, ap, sym, ◌∙◌, ◌+◌, ◌<◌, ◌==◌, ℕ, List, [], ◌∷◌, length, drop, get_or, Bool, true, false}
use Rattle.ets_term.specs.declared.term.Term.TheVariants.{Binary}
use Rattle.term_text.specs.declared.quote_form.QuoteForm.TheVariants as form
use Rattle.term_text.specs.inside.Reader.{OpenBracket, byte, whole, digit, in_quotes, after_byte, after_string, opened_binary, wants_byte, Reading, reads_on, expect, read_from}
use Rattle.term_text.specs.inside.Parts.{Reaches}
use Rattle.term_text.specs.Text.{is_blank, is_digit, begins}
use Rattle.term_text.proofs.Offsets.{if-true, if-false, read-at, begins_at, begins_in}

pub string-ends-here : (offset : ℕ) (bs : List ℕ) (os : List OpenBracket) (rest : List ℕ) → begins is_blank rest ≡ false
    → read_from offset (reads_on (after_string bs) os) rest ≡ read_from offset (expect offset (62 ∷ 62 ∷ []) (whole (Binary bs)) os) rest
string-ends-here offset bs os [] h = refl
string-ends-here offset bs os (b ∷ rest) h = ap (λ (s : Reading). read_from (offset + 1) s rest) (if-false _ _ _ h)

pub string_ends : (text : List ℕ) (offset : ℕ) (bs : List ℕ) (os : List OpenBracket) → begins is_blank (drop offset text) ≡ false
    → Reaches text offset (reads_on (after_string bs) os) offset (expect offset (62 ∷ 62 ∷ []) (whole (Binary bs)) os)
string_ends text offset bs os h = string-ends-here offset bs os (drop offset text) h

pub wants-digit-here : (offset : ℕ) (bs : List ℕ) (os : List OpenBracket) (rest : List ℕ) → begins is_blank rest ≡ false
    → read_from offset (reads_on (wants_byte bs) os) rest ≡ read_from offset (reads_on (digit (byte bs) offset) os) rest
wants-digit-here offset bs os [] h = refl
wants-digit-here offset bs os (b ∷ rest) h = ap (λ (s : Reading). read_from (offset + 1) s rest) (if-false _ _ _ h)

pub wants_digit : (text : List ℕ) (offset : ℕ) (bs : List ℕ) (os : List OpenBracket) → begins is_blank (drop offset text) ≡ false
    → Reaches text offset (reads_on (wants_byte bs) os) offset (reads_on (digit (byte bs) offset) os)
wants_digit text offset bs os h = wants-digit-here offset bs os (drop offset text) h

pub bytes-end-here : (offset : ℕ) (bs : List ℕ) (os : List OpenBracket) (rest : List ℕ) → begins is_blank rest ≡ false → begins (λ b. b == 44) rest ≡ false
    → read_from offset (reads_on (after_byte bs) os) rest ≡ read_from offset (expect offset (62 ∷ 62 ∷ []) (whole (Binary bs)) os) rest
bytes-end-here offset bs os [] h k = refl
bytes-end-here offset bs os (b ∷ rest) h k = ap (λ (s : Reading). read_from (offset + 1) s rest) (if-false _ _ _ h ∙ if-false _ _ _ k)

-- after a byte that no comma follows
pub bytes_end : (text : List ℕ) (offset : ℕ) (bs : List ℕ) (os : List OpenBracket) → begins is_blank (drop offset text) ≡ false → begins (λ b. b == 44) (drop offset text) ≡ false
    → Reaches text offset (reads_on (after_byte bs) os) offset (expect offset (62 ∷ 62 ∷ []) (whole (Binary bs)) os)
bytes_end text offset bs os h k = bytes-end-here offset bs os (drop offset text) h k

-- what is true of the first byte of the rest is true of the byte at the offset
pub here : (p : ℕ → Bool) (v : Bool) (text : List ℕ) (offset : ℕ) → offset < length text → begins p (drop offset text) ≡ v → p (get_or text offset 0) ≡ v
here p v text offset h e = sym (begins_at p text offset h) ∙ e

-- after a byte and a comma
pub comma_byte : (text : List ℕ) (offset : ℕ) (bs : List ℕ) (os : List OpenBracket) → begins is_blank (drop offset text) ≡ false → begins (λ b. b == 44) (drop offset text) ≡ true
    → Reaches text offset (reads_on (after_byte bs) os) (offset + 1) (reads_on (wants_byte bs) os)
comma_byte text offset bs os e k =
    let h = begins_in (λ b. b == 44) text offset k in
    read-at text offset _ _ h (if-false _ _ _ (here is_blank false text offset h e) ∙ if-true _ _ _ (here (λ b. b == 44) true text offset h k))

pub opened-digit-here : (offset : ℕ) (os : List OpenBracket) (rest : List ℕ) → begins is_blank rest ≡ false → begins (λ b. b == 34) rest ≡ false → begins is_digit rest ≡ true
    → read_from offset (reads_on opened_binary os) rest ≡ read_from offset (reads_on (digit (byte []) offset) os) rest
opened-digit-here offset os [] h k d = refl
opened-digit-here offset os (b ∷ rest) h k d = ap (λ (s : Reading). read_from (offset + 1) s rest) (if-false _ _ _ h ∙ if-false _ _ _ k ∙ if-true _ _ _ d ∙ sym (if-true _ _ _ d))

-- after the `<<` of a binary
pub opened_digit : (text : List ℕ) (offset : ℕ) (os : List OpenBracket) → begins is_blank (drop offset text) ≡ false → begins (λ b. b == 34) (drop offset text) ≡ false → begins is_digit (drop offset text) ≡ true
    → Reaches text offset (reads_on opened_binary os) offset (reads_on (digit (byte []) offset) os)
opened_digit text offset os h k d = opened-digit-here offset os (drop offset text) h k d

pub opened_quote : (text : List ℕ) (offset : ℕ) (os : List OpenBracket) → begins is_blank (drop offset text) ≡ false → begins (λ b. b == 34) (drop offset text) ≡ true
    → Reaches text offset (reads_on opened_binary os) (offset + 1) (reads_on (in_quotes form.Binary []) os)
opened_quote text offset os e k =
    let h = begins_in (λ b. b == 34) text offset k in
    read-at text offset _ _ h (if-false _ _ _ (here is_blank false text offset h e) ∙ if-true _ _ _ (here (λ b. b == 34) true text offset h k))

pub opened-ends-here : (offset : ℕ) (os : List OpenBracket) (rest : List ℕ) → begins is_blank rest ≡ false → begins (λ b. b == 34) rest ≡ false → begins is_digit rest ≡ false
    → read_from offset (reads_on opened_binary os) rest ≡ read_from offset (expect offset (62 ∷ 62 ∷ []) (whole (Binary [])) os) rest
opened-ends-here offset os [] h k d = refl
opened-ends-here offset os (b ∷ rest) h k d = ap (λ (s : Reading). read_from (offset + 1) s rest) (if-false _ _ _ h ∙ if-false _ _ _ k ∙ if-false _ _ _ d)

pub opened_ends : (text : List ℕ) (offset : ℕ) (os : List OpenBracket) → begins is_blank (drop offset text) ≡ false → begins (λ b. b == 34) (drop offset text) ≡ false → begins is_digit (drop offset text) ≡ false
    → Reaches text offset (reads_on opened_binary os) offset (expect offset (62 ∷ 62 ∷ []) (whole (Binary [])) os)
opened_ends text offset os h k d = opened-ends-here offset os (drop offset text) h k d
