-- Where blanks end, and the states that they do not change.
use Rattle.std.proofs.Common.{◌≡◌, ap, ◌∙◌, ◌+◌, ◌<◌, ◌≤◌, ℕ, List, ◌∷◌, length, drop, get_or, arith, Bool, true, false}
use Rattle.std.proofs.lemmas.List.{drop_all}
use Rattle.term_text.specs.inside.Reader.{OpenBracket, Reading, reads_on, wants, opened_binary, wants_byte, after_byte, after_string, after}
use Rattle.term_text.specs.inside.Parts.{Reaches, IgnoresBlanks}
use Rattle.term_text.specs.Text.{is_blank, begins, closes}
use Rattle.term_text.proofs.Offsets.{read-at, begins_at, if-true, if-false}

-- an offset without a blank
pub stops_here : (text : List ℕ) (offset : ℕ) → offset < length text → is_blank (get_or text offset 0) ≡ false → begins is_blank (drop offset text) ≡ false
stops_here text offset h e = begins_at is_blank text offset h ∙ e

pub stops_end : (text : List ℕ) (offset : ℕ) → length text ≤ offset → begins is_blank (drop offset text) ≡ false
stops_end text offset h = ap (begins is_blank) (drop_all offset text h)

pub stays_more : (text : List ℕ) (at offset : ℕ) (s : Reading) → IgnoresBlanks s → Reaches text at s offset s → offset < length text → is_blank (get_or text offset 0) ≡ true → Reaches text at s (offset + 1) s
stays_more text at offset s h so_far k b = so_far ∙ read-at text offset s s k (h offset (get_or text offset 0) b)

no-close : (square : Bool) (b : ℕ) → is_blank b ≡ true → closes square b ≡ false
unfolding is_blank closes
no-close true b h = grind arith
no-close false b h = grind arith

pub wants-ignores : (opened : Bool) (os : List OpenBracket) → IgnoresBlanks (reads_on (wants opened) os)
wants-ignores opened os = λ at b h. if-true _ _ _ h

pub opened_binary_ignores : (os : List OpenBracket) → IgnoresBlanks (reads_on opened_binary os)
opened_binary_ignores os = λ at b h. if-true _ _ _ h

pub wants_byte_ignores : (bs : List ℕ) (os : List OpenBracket) → IgnoresBlanks (reads_on (wants_byte bs) os)
wants_byte_ignores bs os = λ at b h. if-true _ _ _ h

pub after_byte_ignores : (bs : List ℕ) (os : List OpenBracket) → IgnoresBlanks (reads_on (after_byte bs) os)
after_byte_ignores bs os = λ at b h. if-true _ _ _ h

pub after_string_ignores : (bs : List ℕ) (os : List OpenBracket) → IgnoresBlanks (reads_on (after_string bs) os)
after_string_ignores bs os = λ at b h. if-true _ _ _ h

pub after-ignores : (o : OpenBracket) (os : List OpenBracket) → IgnoresBlanks (reads_on after (o ∷ os))
after-ignores o os = λ at b h. if-false _ _ _ (no-close o.square b h) ∙ if-true _ _ _ h
