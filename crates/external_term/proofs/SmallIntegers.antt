-- Integers that are bytes.
use Rattle.std.proofs.Common.{◌≡◌, ℕ, ◌<◌, ◌≤◌, ◌+◌, ◌-◌, ◌^◌, ℤ, pos, negsuc, ◌≤ℤ◌, ◌<ℤ◌, List, [], ◌∷◌, length, get_or, refl, sym, ap, ◌∙◌, arith, Bool, true, false, if◌then◌else◌, nat_lt}
use Rattle.std.proofs.lemmas.Bool.Decides.{nat_tests}
use Rattle.std.proofs.lemmas.Int.{ints}
use Rattle.external_term.specs.Encoding.{big4, big_bytes, encode_integer, is_small, char_of}

pub byte_bytes : (n : ℕ) → n < 256 → encode_integer (pos n) ≡ 97 ∷ n ∷ []
byte_bytes n h = let e : nat_lt n 256 ≡ true = grind (arith, nat_tests) in
    ap (λ (b : Bool). if b then 97 ∷ n ∷ [] else if nat_lt n (2 ^ 31) then 98 ∷ big4 n else big_bytes 0 n) e

wide_if : (b : Bool) (xs ys : List ℕ) → is_small (if b then 98 ∷ xs else 110 ∷ ys) ≡ false
wide_if true xs ys = refl
wide_if false xs ys = refl

pub byte_is_small : (n : ℤ) → pos 0 ≤ℤ n → n ≤ℤ pos 255 → is_small (encode_integer n) ≡ true
byte_is_small (pos n) h k = ap is_small (byte_bytes n (omega (arith, ints, k)))
byte_is_small (negsuc n) h k = absurd (omega (arith, ints, h))

pub negative_not_small : (n : ℤ) → n <ℤ pos 0 → is_small (encode_integer n) ≡ false
negative_not_small (pos n) h = absurd (omega (arith, ints, h))
negative_not_small (negsuc n) h = wide_if (nat_lt n (2 ^ 31)) _ _

pub large_not_small : (n : ℤ) → pos 255 <ℤ n → is_small (encode_integer n) ≡ false
large_not_small (pos n) h =
    let m : 256 ≤ n = omega (arith, ints, h) in
    let e : nat_lt n 256 ≡ false = grind (arith, nat_tests) in
    ap (λ (b : Bool). is_small (if b then 97 ∷ n ∷ [] else if nat_lt n (2 ^ 31) then 98 ∷ big4 n else big_bytes 0 n)) e
    ∙ wide_if (nat_lt n (2 ^ 31)) _ _
large_not_small (negsuc n) h = wide_if (nat_lt n (2 ^ 31)) _ _

no_char : (e : List ℕ) → is_small e ≡ false → 0 ≡ char_of e
no_char e h = sym (ap (λ (b : Bool). if b then get_or e 1 0 else 0) h)

pub negative_char : (n : ℤ) → n <ℤ pos 0 → 0 ≡ char_of (encode_integer n)
negative_char n h = no_char (encode_integer n) (negative_not_small n h)

pub large_char : (n : ℤ) → pos 255 <ℤ n → 0 ≡ char_of (encode_integer n)
large_char n h = no_char (encode_integer n) (large_not_small n h)

pub byte_char : (n : ℕ) → n < 256 → char_of (encode_integer (pos n)) ≡ n
byte_char n h = ap char_of (byte_bytes n h)

-- the forms of wider integers
pub word_bytes : (n : ℕ) → 256 ≤ n → n < 2 ^ 31 → encode_integer (pos n) ≡ 98 ∷ big4 n
word_bytes n h k =
    let e : nat_lt n 256 ≡ false = grind (arith, nat_tests) in
    let f : nat_lt n (2 ^ 31) ≡ true = grind (arith, nat_tests) in
    ap (λ (b : Bool). if b then 97 ∷ n ∷ [] else if nat_lt n (2 ^ 31) then 98 ∷ big4 n else big_bytes 0 n) e
    ∙ ap (λ (b : Bool). if b then 98 ∷ big4 n else big_bytes 0 n) f

pub wide_bytes : (n : ℕ) → 2 ^ 31 ≤ n → encode_integer (pos n) ≡ big_bytes 0 n
wide_bytes n h =
    let e : nat_lt n 256 ≡ false = grind (arith, nat_tests) in
    let f : nat_lt n (2 ^ 31) ≡ false = grind (arith, nat_tests) in
    ap (λ (b : Bool). if b then 97 ∷ n ∷ [] else if nat_lt n (2 ^ 31) then 98 ∷ big4 n else big_bytes 0 n) e
    ∙ ap (λ (b : Bool). if b then 98 ∷ big4 n else big_bytes 0 n) f

pub negative_word : (n : ℕ) → n < 2 ^ 31 → encode_integer (negsuc n) ≡ 98 ∷ big4 (2 ^ 32 - 1 - n)
negative_word n h = let e : nat_lt n (2 ^ 31) ≡ true = grind (arith, nat_tests) in
    ap (λ (b : Bool). if b then 98 ∷ big4 (2 ^ 32 - 1 - n) else big_bytes 1 (n + 1)) e

pub negative_wide : (n : ℕ) → 2 ^ 31 ≤ n → encode_integer (negsuc n) ≡ big_bytes 1 (n + 1)
negative_wide n h = let e : nat_lt n (2 ^ 31) ≡ false = grind (arith, nat_tests) in
    ap (λ (b : Bool). if b then 98 ∷ big4 (2 ^ 32 - 1 - n) else big_bytes 1 (n + 1)) e

-- an integer takes a byte
some_if : (a b : Bool) (n : ℕ) (xs ys : List ℕ) → 0 < length (if a then 97 ∷ n ∷ [] else if b then 98 ∷ xs else 110 ∷ ys)
some_if true b n xs ys = omega arith
some_if false true n xs ys = omega arith
some_if false false n xs ys = omega arith

pub some_bytes : (n : ℤ) → 0 < length (encode_integer n)
some_bytes (pos n) = some_if (nat_lt n 256) (nat_lt n (2 ^ 31)) n _ _
some_bytes (negsuc n) = some_if false (nat_lt n (2 ^ 31)) n _ _
