-- The classes of single bytes.
use Rattle.std.proofs.Common.{ℕ, ◌≡◌, refl, ◌≤◌, ◌==◌, ◌||◌, arith, rules, Bool, true, false}
use Rattle.std.proofs.lemmas.Bool.Decides.{nat_tests}
use Rattle.ets_term.specs.Character.{is_character}
use Rattle.term_text.specs.Text.{is_blank, is_digit, is_lowercase, is_name, closes, begins_term}
use Rattle.term_text.specs.Grammar.{closing_sign}

pub close-is : (square : Bool) (b : ℕ) → closes square b ≡ true → b ≡ closing_sign square
unfolding closes
close-is true b h = search (arith, rules)
close-is false b h = search (arith, rules)

pub is-byte : (b c : ℕ) → (b == c) ≡ true → b ≡ c
is-byte b c h = search (arith, rules)

pub digit-no-small : (b : ℕ) → is_digit b ≡ true → is_lowercase b ≡ false
unfolding is_digit is_lowercase
digit-no-small b h = grind (arith, nat_tests)

pub small-no-number : (b : ℕ) → is_lowercase b ≡ true → (is_digit b || (b == 45)) ≡ false
unfolding is_digit is_lowercase
small-no-number b h = grind (arith, nat_tests)

pub minus-no-small : is_lowercase 45 ≡ false
unfolding is_lowercase
minus-no-small = refl

pub sign-is-character : is_character 92 ≡ true
sign-is-character = refl

pub same : (n : ℕ) → (n == n) ≡ true
same n = search (arith, rules)

pub digit-no-blank : (b : ℕ) → is_digit b ≡ true → is_blank b ≡ false
unfolding is_digit is_blank
digit-no-blank b h = grind (arith, nat_tests)

pub digit-no-quote : (b : ℕ) → is_digit b ≡ true → (b == 34) ≡ false
unfolding is_digit
digit-no-quote b h = grind (arith, nat_tests)

blank-low : (b : ℕ) → is_blank b ≡ true → b ≤ 32
unfolding is_blank
blank-low b h = grind arith

low-no-name : (b : ℕ) → b ≤ 32 → is_name b ≡ false
unfolding is_name is_lowercase is_digit
low-no-name b h = grind arith

pub blank-no-name : (b : ℕ) → is_blank b ≡ true → is_name b ≡ false
blank-no-name b h = low-no-name b (blank-low b h)

pub no-name-no-digit : (b : ℕ) → is_name b ≡ false → is_digit b ≡ false
unfolding is_name is_lowercase is_digit
no-name-no-digit b h = grind arith

pub blank-no-digit : (b : ℕ) → is_blank b ≡ true → is_digit b ≡ false
blank-no-digit b h = no-name-no-digit b (blank-no-name b h)

pub comma-no-digit : is_digit 44 ≡ false
unfolding is_digit
comma-no-digit = refl

pub comma-no-blank : is_blank 44 ≡ false
unfolding is_blank
comma-no-blank = refl

pub comma-no-name : is_name 44 ≡ false
unfolding is_name is_lowercase is_digit
comma-no-name = refl

pub angle-no-digit : is_digit 62 ≡ false
unfolding is_digit
angle-no-digit = refl

pub angle-no-blank : is_blank 62 ≡ false
unfolding is_blank
angle-no-blank = refl

pub dot-no-digit : is_digit 46 ≡ false
unfolding is_digit
dot-no-digit = refl

pub quote-no-blank : is_blank 34 ≡ false
unfolding is_blank
quote-no-blank = refl

-- the first byte of an expected term
pub no-blank : (b : ℕ) → begins_term b ≡ true → is_blank b ≡ false
unfolding begins_term is_digit is_lowercase is_blank
no-blank b h = grind arith

pub no-closing : (square : Bool) (b : ℕ) → begins_term b ≡ true → closes square b ≡ false
unfolding begins_term is_digit is_lowercase closes
no-closing true b h = grind arith
no-closing false b h = grind arith

pub digit-begins : (b : ℕ) → is_digit b ≡ true → begins_term b ≡ true
unfolding begins_term is_lowercase is_digit
digit-begins b h = grind arith

pub small-begins : (b : ℕ) → is_lowercase b ≡ true → begins_term b ≡ true
unfolding begins_term is_lowercase is_digit
small-begins b h = grind arith

pub brace-begins : begins_term 123 ≡ true
unfolding begins_term is_digit is_lowercase
brace-begins = refl

pub square-begins : begins_term 91 ≡ true
unfolding begins_term is_digit is_lowercase
square-begins = refl

pub minus-begins : begins_term 45 ≡ true
unfolding begins_term is_digit is_lowercase
minus-begins = refl

pub quote-begins : begins_term 39 ≡ true
unfolding begins_term is_digit is_lowercase
quote-begins = refl

pub string-begins : begins_term 34 ≡ true
unfolding begins_term is_digit is_lowercase
string-begins = refl

pub angle-begins : begins_term 60 ≡ true
unfolding begins_term is_digit is_lowercase
angle-begins = refl

pub hash-begins : begins_term 35 ≡ true
unfolding begins_term is_digit is_lowercase
hash-begins = refl

pub close-no-blank : (square : Bool) → is_blank (closing_sign square) ≡ false
unfolding is_blank
close-no-blank true = refl
close-no-blank false = refl

pub close-no-name : (square : Bool) → is_name (closing_sign square) ≡ false
unfolding is_name is_lowercase is_digit
close-no-name true = refl
close-no-name false = refl

pub closes-so : (square : Bool) → closes square (closing_sign square) ≡ true
unfolding closes
closes-so true = refl
closes-so false = refl

pub comma-no-close : (square : Bool) → closes square 44 ≡ false
unfolding closes
comma-no-close true = refl
comma-no-close false = refl
