-- Classes of bytes on a line, and what is at the end of a text.
use Rattle.std.specs.Prelude.{ℕ, ◌-◌, List, [], ◌∷◌, length, filter, slice_index, Bool, false, not, ◌&&◌, ◌||◌, ◌==◌, nat_le, codes}
use Rattle.std.specs.Str.{byte}
use Rattle.ets_term.specs.Character.{is_character}
use Rattle.term_text.specs.Text.{is_blank, is_digit, is_lowercase, begins_term}

-- the byte is one of these signs
abbrev pub among : List ℕ → ℕ → Bool
among [] b = false
among (sign ∷ signs) b = (b == sign) || among signs b

-- a space or a tab
abbrev pub is_gap : ℕ → Bool
is_gap b = among (codes " \t") b

-- a byte that is allowed on a line: the tab, and printable ASCII
abbrev pub is_line_byte : ℕ → Bool
is_line_byte b = (b == byte "\t") || is_character b

abbrev pub begins_atom : ℕ → Bool
begins_atom b = is_lowercase b || (b == byte "'")

abbrev pub begins_number : ℕ → Bool
begins_number b = is_digit b || (b == byte "-")

-- a byte with which a term begins, except for `#`, with which an identifier of a table begins
abbrev pub begins_nested_term : ℕ → Bool
begins_nested_term b = begins_atom b || begins_number b || among (codes "\"[{<") b

-- a capital letter, or `_`
abbrev pub begins_variable : ℕ → Bool
begins_variable b = (nat_le 65 b && nat_le b 90) || (b == byte "_")

-- a byte with which a term begins, or blanks before a term
abbrev pub may_begin_term : ℕ → Bool
may_begin_term b = begins_term b || is_blank b

-- the last byte, or 0
abbrev pub last_byte : List ℕ → ℕ
last_byte text = slice_index text (length text - 1)

-- the last byte that is neither a space nor a tab, or 0
abbrev pub last_non_blank : List ℕ → ℕ
last_non_blank text = last_byte (filter (λ b. not (is_gap b)) text)

-- a term can come after this text: its last sign is one of these
abbrev pub expects_term : List ℕ → Bool
expects_term before = among (codes ",{[<(") (last_non_blank before)
