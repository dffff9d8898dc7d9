-- The automaton that reads a term, one byte after another. It has a fault at the byte for which it has no next state.
use Rattle.std.specs.Prelude.{ℕ, ◌+◌, ◌-◌, ◌*◌, List, [], ◌∷◌, ◌++◌, length, map, Bool, true, false, ◌||◌, ◌==◌, nat_le, if◌then◌else◌, codes}
use Rattle.ets_term.specs.Character.{is_character, max_characters}
use Rattle.ets_term.specs.declared.term.Term.{Term}
use Rattle.ets_term.specs.declared.term.Term.TheVariants.{Int, Atom, Pid, Tid, List as ListOf, Binary}
use Rattle.ets_term.specs.Depth.{max_depth}
use Rattle.term_text.specs.declared.fault.TextFault.{TextFault}
use Rattle.term_text.specs.declared.fault.TextFault.TheVariants.{Unexpected, Unclosed, OutOfRange, TooDeep, AtomTooLong}
use Rattle.term_text.specs.declared.quote_form.QuoteForm.{QuoteForm}
use Rattle.term_text.specs.declared.quote_form.QuoteForm.TheVariants as form
pub use Rattle.term_text.specs.Forms.{OpenBracket, Number, integer, pid, identifier, byte, with_sign, magnitude, max_magnitude, bracket, code}
use Rattle.term_text.specs.Text.{apostrophe, quotation_mark, is_blank, is_digit, is_name, closes, begins_term}

-- what must follow some fixed signs
pub data Expect : Type 0 where
  whole : Term → Expect
  digits : Number → Expect

-- What may come next. A number or an atom keeps the offset where it began.
pub data Mode : Type 0 where
  wants : Bool → Mode  -- a term; or, if true, the sign that closes the bracket just opened
  digit : Number → ℕ → Mode  -- the first digit of a number
  number : Number → ℕ → ℕ → Mode  -- a further digit, after those of this value
  name : ℕ → List ℕ → Mode  -- a further character of an atom without quotes, which began at this offset and has these characters so far
  in_quotes : QuoteForm → List ℕ → Mode  -- a further character in quotes, or the quote that closes
  after_backslash : QuoteForm → List ℕ → Mode  -- the quote or `\` after a `\`
  signs : List ℕ → Expect → Mode  -- these signs
  angle : Mode  -- after `<`, the `<` of a binary or the `0` of a pid
  opened_binary : Mode  -- a byte, a string or the closing sign of a binary just opened
  wants_byte : List ℕ → Mode  -- a further byte of a binary
  after_byte : List ℕ → Mode  -- a comma or the closing sign
  after_string : List ℕ → Mode  -- the closing sign of a binary
  after : Mode  -- in a bracket, after a term: a comma or the closing sign

-- The state: a mode in open brackets, listed from the innermost, or the result.
pub data Reading : Type 0 where
  reads_on : Mode → List OpenBracket → Reading
  found : Term → ℕ → Reading  -- the term that the text begins with, and the number of its bytes
  fails : TextFault → Reading

abbrev pub open_bracket : Bool → OpenBracket
open_bracket square = record { square = square; terms = [] }

abbrev pub with_term : OpenBracket → Term → OpenBracket
with_term o t = record { square = o.square; terms = o.terms ++ t ∷ [] }

-- a term is complete after n bytes
abbrev pub put : List OpenBracket → Term → ℕ → Reading
put [] t n = found t n
put (o ∷ os) t n = reads_on after (with_term o t ∷ os)

-- after n bytes, with these signs still to come
abbrev pub expect : ℕ → List ℕ → Expect → List OpenBracket → Reading
expect n [] (whole t) os = put os t n
expect n [] (digits kind) os = reads_on (digit kind n) os
expect n (c ∷ cs) goal os = reads_on (signs (c ∷ cs) goal) os

abbrev pub next_sign : ℕ → List ℕ → Expect → List OpenBracket → ℕ → Reading
next_sign at [] goal os b = fails (Unexpected at)
next_sign at (c ∷ cs) goal os b = if b == c then expect (at + 1) cs goal os else fails (Unexpected at)

-- the first byte of a term; there are max_depth levels
unfoldable pub begin : ℕ → List OpenBracket → ℕ → Reading
begin at os b = if begins_term b
    then (if nat_le max_depth (length os) then fails (TooDeep at)
    else if b == 123 then reads_on (wants true) (open_bracket false ∷ os)
    else if b == 91 then reads_on (wants true) (open_bracket true ∷ os)
    else if b == 45 then reads_on (digit (integer true) at) os
    else if b == 39 then reads_on (in_quotes (form.Atom at) []) os
    else if b == 34 then reads_on (in_quotes form.String []) os
    else if b == 60 then reads_on angle os
    else if b == 35 then reads_on (signs (codes "Tid<") (digits identifier)) os
    else if is_digit b then reads_on (number (integer false) at (b - 48)) os
    else reads_on (name at (b ∷ [])) os)
    else fails (Unexpected at)

-- a byte after a term in a bracket
abbrev pub next_after : ℕ → List OpenBracket → ℕ → Reading
next_after at [] b = fails (Unexpected at)
next_after at (o ∷ os) b = if closes o.square b then put os (bracket o) (at + 1)
    else if is_blank b then reads_on after (o ∷ os)
    else if b == 44 then reads_on (wants false) (o ∷ os)
    else fails (Unexpected at)

-- the byte after an integer or a name, which it ends
abbrev pub next_unless_found : ℕ → Reading → ℕ → Reading
next_unless_found at (reads_on mode os) b = next_after at os b
next_unless_found at (found t n) b = found t n
next_unless_found at (fails f) b = fails f

-- the first byte in a bracket
abbrev pub next_in_bracket : ℕ → List OpenBracket → ℕ → Reading
next_in_bracket at [] b = begin at [] b
next_in_bracket at (o ∷ os) b = if closes o.square b then put os (bracket o) (at + 1) else begin at (o ∷ os) b

-- the signs after the bytes of a binary
abbrev pub binary_ends : ℕ → List ℕ → List OpenBracket → ℕ → Reading
binary_ends at bs os b = next_sign at (codes ">>") (whole (Binary bs)) os b

abbrev pub next_after_byte : ℕ → List ℕ → List OpenBracket → ℕ → Reading
next_after_byte at bs os b = if is_blank b then reads_on (after_byte bs) os
    else if b == 44 then reads_on (wants_byte bs) os
    else binary_ends at bs os b

-- the byte after the digits of a number
abbrev pub next_after_number : ℕ → Number → ℕ → List OpenBracket → ℕ → Reading
next_after_number at (integer below) n os b = next_unless_found at (put os (Int (with_sign below n)) at) b
next_after_number at pid n os b = next_sign at (codes ".0>") (whole (Pid n)) os b
next_after_number at identifier n os b = next_sign at (codes ">") (whole (Tid n)) os b
next_after_number at (byte bs) n os b = next_after_byte at (bs ++ n ∷ []) os b

abbrev pub next_digit : ℕ → Number → ℕ → List OpenBracket → ℕ → Reading
next_digit at kind start os b = if is_digit b then reads_on (number kind start (b - 48)) os else fails (Unexpected at)

abbrev pub next_number : ℕ → Number → ℕ → ℕ → List OpenBracket → ℕ → Reading
next_number at kind start n os b = if is_digit b
    then (if nat_le (n * 10 + (b - 48)) (max_magnitude kind) then reads_on (number kind start (n * 10 + (b - 48))) os
    else fails (OutOfRange start))
    else next_after_number at kind n os b

-- the quote of a form
abbrev pub quote : QuoteForm → ℕ
quote (form.Atom start) = apostrophe
quote form.String = quotation_mark
quote form.Binary = quotation_mark

-- after the closing quote and n bytes; a string is the list of its characters' codes
abbrev pub after_quote : ℕ → QuoteForm → List ℕ → List OpenBracket → Reading
after_quote n (form.Atom start) cs os = put os (Atom cs) n
after_quote n form.String cs os = put os (ListOf (map code cs)) n
after_quote n form.Binary cs os = reads_on (after_string cs) os

-- the first byte of a further character after n others: an atom has at most max_characters, and the characters of a
-- string are one level further in
abbrev pub admits : ℕ → QuoteForm → ℕ → List OpenBracket → Reading → Reading
admits at (form.Atom start) n os s = if n == max_characters then fails (AtomTooLong start) else s
admits at form.String n os s = if nat_le (max_depth - 1) (length os) then fails (TooDeep at) else s
admits at form.Binary n os s = s

abbrev pub next_in_quotes : ℕ → QuoteForm → List ℕ → List OpenBracket → ℕ → Reading
next_in_quotes at q cs os b = if b == quote q then after_quote (at + 1) q cs os
    else if b == 92 then admits at q (length cs) os (reads_on (after_backslash q cs) os)
    else if is_character b then admits at q (length cs) os (reads_on (in_quotes q (cs ++ b ∷ [])) os)
    else fails (Unexpected at)

abbrev pub next : ℕ → Mode → List OpenBracket → ℕ → Reading
next at (wants opened) os b = if is_blank b then reads_on (wants opened) os
    else if opened then next_in_bracket at os b
    else begin at os b
next at (digit kind start) os b = next_digit at kind start os b
next at (number kind start n) os b = next_number at kind start n os b
next at (name start cs) os b = if is_name b
    then (if length cs == max_characters then fails (AtomTooLong start) else reads_on (name start (cs ++ b ∷ [])) os)
    else next_unless_found at (put os (Atom cs) at) b
next at (in_quotes q cs) os b = next_in_quotes at q cs os b
next at (after_backslash q cs) os b = if (b == quote q) || (b == 92)
    then reads_on (in_quotes q (cs ++ b ∷ [])) os
    else fails (Unexpected at)
next at (signs cs goal) os b = next_sign at cs goal os b
next at angle os b = if b == 60 then reads_on opened_binary os
    else if b == 48 then reads_on (signs (codes ".") (digits pid)) os
    else fails (Unexpected at)
next at opened_binary os b = if is_blank b then reads_on opened_binary os
    else if b == 34 then reads_on (in_quotes form.Binary []) os
    else if is_digit b then reads_on (number (byte []) at (b - 48)) os
    else binary_ends at [] os b
next at (wants_byte bs) os b = if is_blank b then reads_on (wants_byte bs) os else next_digit at (byte bs) at os b
next at (after_byte bs) os b = next_after_byte at bs os b
next at (after_string bs) os b = if is_blank b then reads_on (after_string bs) os else binary_ends at bs os b
next at after os b = next_after at os b

-- A result does not change with further bytes.
abbrev pub take_byte : ℕ → Reading → ℕ → Reading
take_byte at (reads_on mode os) b = next at mode os b
take_byte at (found t n) b = found t n
take_byte at (fails f) b = fails f

-- the end of the text after a term
abbrev pub end_after_term : ℕ → Reading → Reading
end_after_term at (reads_on mode os) = fails (Unclosed at)
end_after_term at (found t n) = found t n
end_after_term at (fails f) = fails f

-- the end of the text, where an integer or a name may end
abbrev pub end_in_mode : ℕ → Mode → List OpenBracket → Reading
end_in_mode at (number (integer below) start n) os = end_after_term at (put os (Int (with_sign below n)) at)
end_in_mode at (name start cs) os = end_after_term at (put os (Atom cs) at)
end_in_mode at mode os = fails (Unclosed at)

abbrev pub end : ℕ → Reading → Reading
end at (reads_on mode os) = end_in_mode at mode os
end at (found t n) = found t n
end at (fails f) = fails f

-- the result from a state before the byte at, over the rest of the text
abbrev pub read_from : ℕ → Reading → List ℕ → Reading
read_from at s [] = end at s
read_from at s (b ∷ bs) = read_from (at + 1) (take_byte at s b) bs

-- the result of a text: a term and the number of its bytes, or the fault at the first byte that has no next state
abbrev pub reading : List ℕ → Reading
reading bs = read_from 0 (reads_on (wants false) []) bs
