-- The private contracts of the recursive descent: each function runs a part of the automaton.
use Rattle.std.specs.Prelude.{◌≡◌, ℕ, List, [], ◌∷◌, ◌++◌, ◌+◌, ◌-◌, length, drop, ◌≤◌, Bool, true, false, nat_le, Option, None, Some, Result, Ok, Err, IfOk, codes}
use Rattle.std.specs.List.{prefix_len}
use Rattle.ets_term.specs.declared.term.Term.{Term}
use Rattle.ets_term.specs.declared.term.Term.TheVariants.{Int, Pid, Tid, Binary}
use Rattle.ets_term.specs.Depth.{max_depth}
use Rattle.ets_term.specs.Character.{max_characters}
use Rattle.term_text.specs.declared.fault.TextFault.{TextFault}
use Rattle.term_text.specs.inside.Reader.{OpenBracket, Number, integer, pid, identifier, byte, Expect, whole, digit, after_byte, in_quotes, after_backslash, after_quote, admits, Reading, reads_on, fails, with_sign, max_magnitude, put, expect, take_byte, read_from}
use Rattle.term_text.specs.declared.bracket.Bracket.{Bracket}
use Rattle.term_text.specs.declared.bracket.Bracket.TheVariants.{Square, Brace}
use Rattle.term_text.specs.declared.quote_form.QuoteForm.{QuoteForm}
use Rattle.term_text.specs.declared.quote_form.QuoteForm.TheVariants as form
use Rattle.term_text.specs.Reading.{ReaderFails}
use Rattle.term_text.specs.Text.{is_blank, is_digit}

-- the function ends at an offset from `at` on, within the text
abbrev pub EndsWithin : {A E : Type 0} → List ℕ → ℕ → Result (A × ℕ) E → Type 0
EndsWithin text at result = IfOk result (λ x. (at ≤ x.1) × (x.1 ≤ length text))

-- from the state `s`, before the byte at offset `at`, the automaton reaches the state `z`, before the byte at offset `n`
abbrev pub Reaches : List ℕ → ℕ → Reading → ℕ → Reading → Type 0
Reaches text at s n z = read_from at s (drop at text) ≡ read_from n z (drop n text)

-- from the state `s`, before the byte at offset `at`, the automaton reaches the end of a term in these brackets, or fails
abbrev pub ReadsTerm : List ℕ → ℕ → Reading → List OpenBracket → Result (Term × ℕ) TextFault → Type 0
ReadsTerm text at s os (Ok x) = Reaches text at s x.1 (put os x.0 x.1)
ReadsTerm text at s os (Err f) = ReaderFails f (read_from at s (drop at text))

-- after the digits of a number, which end before the byte at offset `n`
abbrev pub after_digits : ℕ → Number → ℕ → List OpenBracket → Reading
after_digits n (integer below) v os = put os (Int (with_sign below v)) n
after_digits n pid v os = expect n (codes ".0>") (whole (Pid v)) os
after_digits n identifier v os = expect n (codes ">") (whole (Tid v)) os
after_digits n (byte bs) v os = reads_on (after_byte (bs ++ v ∷ [])) os

-- the offset after the digits that begin at offset `at`
abbrev pub digits_end : List ℕ → ℕ → ℕ
digits_end text at = at + prefix_len is_digit (drop at text)

-- reads a number whose digits must begin at offset `at`, and whose greatest magnitude is `limit`
abbrev pub ReadsNumber : List ℕ → ℕ → ℕ → ℕ → Result (ℕ × ℕ) TextFault → Type 0
ReadsNumber text at start limit (Ok x) =
    (kind : Number) (os : List OpenBracket) → limit ≡ max_magnitude kind
    → Reaches text at (reads_on (digit kind start) os) x.1 (after_digits x.1 kind x.0 os)
ReadsNumber text at start limit (Err f) =
    (kind : Number) (os : List OpenBracket) → limit ≡ max_magnitude kind
    → ReaderFails f (read_from at (reads_on (digit kind start) os) (drop at text))

-- reads signs that must begin at offset `at`
abbrev pub ReadsSigns : List ℕ → ℕ → List ℕ → Result ℕ TextFault → Type 0
ReadsSigns text at signs (Ok n) =
    (goal : Expect) (os : List OpenBracket) → Reaches text at (expect at signs goal os) n (expect n [] goal os)
ReadsSigns text at signs (Err f) =
    (goal : Expect) (os : List OpenBracket) → ReaderFails f (read_from at (expect at signs goal os) (drop at text))

-- whether the bracket is square
abbrev pub is_square : Bracket → Bool
is_square Square = true
is_square Brace = false

-- blanks do not change the state
abbrev pub IgnoresBlanks : Reading → Type 0
IgnoresBlanks s = (at b : ℕ) → is_blank b ≡ true → take_byte at s b ≡ s

-- whether no level is left for the characters of a string
abbrev pub IsOutOfLevels : QuoteForm → Bool → List OpenBracket → Type 0
IsOutOfLevels form.String out_of_levels os = out_of_levels ≡ nat_le (max_depth - 1) (length os)
IsOutOfLevels q out_of_levels os = Unit {0}

-- an atom may have n characters
abbrev pub IsShort : QuoteForm → ℕ → Type 0
IsShort (form.Atom start) n = n ≤ max_characters
IsShort q n = Unit {0}

-- whether one more character, after n, is refused
abbrev pub RefusesNext : ℕ → QuoteForm → ℕ → Bool → Option TextFault → Type 0
RefusesNext at q n out_of_levels None =
    (os : List OpenBracket) (s : Reading) → IsOutOfLevels q out_of_levels os → admits at q n os s ≡ s
RefusesNext at q n out_of_levels (Some f) =
    (os : List OpenBracket) (s : Reading) → IsOutOfLevels q out_of_levels os → admits at q n os s ≡ fails f

-- reads the character at offset `at`, after a `\`
abbrev pub ReadsEscaped : List ℕ → ℕ → QuoteForm → Result (ℕ × ℕ) TextFault → Type 0
ReadsEscaped text at q (Ok x) =
    (cs : List ℕ) (os : List OpenBracket)
    → Reaches text at (reads_on (after_backslash q cs) os) x.1 (reads_on (in_quotes q (cs ++ x.0 ∷ [])) os)
ReadsEscaped text at q (Err f) =
    (cs : List ℕ) (os : List OpenBracket) → ReaderFails f (read_from at (reads_on (after_backslash q cs) os) (drop at text))

-- reads a further character in quotes, after n
abbrev pub ReadsCharacter : List ℕ → ℕ → QuoteForm → Bool → ℕ → Result (ℕ × ℕ) TextFault → Type 0
ReadsCharacter text at q out_of_levels n (Ok x) =
    (cs : List ℕ) (os : List OpenBracket) → length cs ≡ n → IsOutOfLevels q out_of_levels os
    → Reaches text at (reads_on (in_quotes q cs) os) x.1 (reads_on (in_quotes q (cs ++ x.0 ∷ [])) os)
ReadsCharacter text at q out_of_levels n (Err f) =
    (cs : List ℕ) (os : List OpenBracket) → length cs ≡ n → IsOutOfLevels q out_of_levels os
    → ReaderFails f (read_from at (reads_on (in_quotes q cs) os) (drop at text))

-- reads the characters from offset `at` on, and the closing quote
abbrev pub ReadsQuoted : List ℕ → ℕ → QuoteForm → Bool → Result (List ℕ × ℕ) TextFault → Type 0
ReadsQuoted text at q out_of_levels (Ok x) =
    (os : List OpenBracket) → IsOutOfLevels q out_of_levels os
    → Reaches text at (reads_on (in_quotes q []) os) x.1 (after_quote x.1 q x.0 os)
ReadsQuoted text at q out_of_levels (Err f) =
    (os : List OpenBracket) → IsOutOfLevels q out_of_levels os
    → ReaderFails f (read_from at (reads_on (in_quotes q []) os) (drop at text))

-- reads the bytes of a binary, of which the first must begin at offset `at`
abbrev pub ReadsBytes : List ℕ → ℕ → Result (List ℕ × ℕ) TextFault → Type 0
ReadsBytes text at (Ok x) =
    (os : List OpenBracket)
    → Reaches text at (reads_on (digit (byte []) at) os) x.1 (expect x.1 (codes ">>") (whole (Binary x.0)) os)
ReadsBytes text at (Err f) =
    (os : List OpenBracket) → ReaderFails f (read_from at (reads_on (digit (byte []) at) os) (drop at text))
