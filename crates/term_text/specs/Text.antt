-- The classes of bytes in a text.
use Rattle.std.specs.Prelude.{ℕ, ◌+◌, ◌-◌, ◌*◌, List, [], ◌∷◌, Bool, false, ◌&&◌, ◌||◌, ◌==◌, nat_le, if◌then◌else◌}

-- whether a byte is blank: space, tab, line feed or carriage return
unfoldable pub is_blank : ℕ → Bool
is_blank b = (b == 32) || (b == 9) || (b == 10) || (b == 13)

-- whether a byte is a digit, `0` to `9`
unfoldable pub is_digit : ℕ → Bool
is_digit b = nat_le 48 b && nat_le b 57

-- whether a byte is a lowercase letter, `a` to `z`
unfoldable pub is_lowercase : ℕ → Bool
is_lowercase b = nat_le 97 b && nat_le b 122

-- whether an atom without quotes may contain a byte: ASCII letters, digits, `_` and `@`
unfoldable pub is_name : ℕ → Bool
is_name b = is_lowercase b || (nat_le 65 b && nat_le b 90) || is_digit b || (b == 95) || (b == 64)

-- the quote of an atom
abbrev pub apostrophe : ℕ
apostrophe = 39

-- the quote of a string
abbrev pub quotation_mark : ℕ
quotation_mark = 34

-- whether a byte closes a list (true) or a tuple
unfoldable pub closes : Bool → ℕ → Bool
closes square b = if square then b == 93 else b == 125

-- whether a term can begin with a byte: `{`, `[`, `-`, `'`, `"`, `<`, `#`, a digit or a lowercase letter
unfoldable pub begins_term : ℕ → Bool
begins_term b =
    (b == 123) || (b == 91) || (b == 45) || (b == 39) || (b == 34) || (b == 60) || (b == 35)
    || is_digit b || is_lowercase b

-- the decimal number of the digits at the start of a text, if n is the number of the digits before them
abbrev pub value_of_digits : ℕ → List ℕ → ℕ
value_of_digits n [] = n
value_of_digits n (b ∷ bs) = if is_digit b then value_of_digits (n * 10 + (b - 48)) bs else n

-- whether there is a first byte and it passes the test
abbrev pub begins : (ℕ → Bool) → List ℕ → Bool
begins p [] = false
begins p (b ∷ bs) = p b
