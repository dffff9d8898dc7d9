-- Reads integers.
use Rattle.std.specs.Prelude.{ℕ, zero, suc, ◌+◌, ◌-◌, ◌*◌, ◌^◌, ℤ, pos, negsuc, List, [], ◌∷◌, slice_range, Ok, Err, Bool, true, false, ◌&&◌, nat_le, nat_lt, if◌then◌else◌}
use Rattle.ets_term.specs.declared.term.Term.{Term}
use Rattle.ets_term.specs.declared.term.Term.TheVariants.{Int}
use Rattle.external_term.specs.declared.field.Width.TheVariants.{One, Four}
use Rattle.external_term.specs.declared.fault.ExternalFault.TheVariants.{BadInteger}
use Rattle.external_term.specs.Fields.{Read, after, number_at, piece_at}

-- reads a SMALL_INTEGER_EXT: one byte
abbrev pub small_integer_at : List ℕ → ℕ → Read Term
small_integer_at bytes at = after (number_at One bytes (at + 1)) (λ n end. Ok (Int (pos n), end))

-- the integer whose 32 bits in two's complement are this number
abbrev pub with_sign32 : ℕ → ℤ
with_sign32 n = if nat_lt n (2 ^ 31) then pos n else negsuc (2 ^ 32 - 1 - n)

-- reads an INTEGER_EXT: four bytes in two's complement
abbrev pub integer32_at : List ℕ → ℕ → Read Term
integer32_at bytes at = after (number_at Four bytes (at + 1)) (λ n end. Ok (Int (with_sign32 n), end))

-- the number with these bytes, of which the low byte comes first
abbrev pub little : List ℕ → ℕ
little [] = 0
little (b ∷ bs) = b + 256 * little bs

-- the integer with this magnitude, negative if the first argument is true
abbrev pub with_sign : Bool → ℕ → ℤ
with_sign true zero = pos 0
with_sign true (suc n) = negsuc n
with_sign false n = pos n

-- the greatest magnitude of a negative integer (true), or of an integer that is not negative
abbrev pub max_magnitude : Bool → ℕ
max_magnitude true = 2 ^ 127
max_magnitude false = 2 ^ 127 - 1

-- the greatest number of bytes of a magnitude
abbrev pub max_digits : ℕ
max_digits = 16

-- the integer with this magnitude if it is in range, else the fault
abbrev pub big_if : Bool → ℕ → Bool → ℕ → ℕ → Read Term
big_if true at negative n end = Ok (Int (with_sign negative n), end)
big_if false at negative n end = Err (BadInteger at)

-- the integer whose magnitude has n bytes, from `start` up to `end`; a fault if it is out of range
abbrev pub big_value : List ℕ → ℕ → ℕ → Bool → ℕ → ℕ → Read Term
big_value bytes at n negative start end =
    let magnitude = little (slice_range bytes start end) in
    big_if (nat_le n max_digits && nat_le magnitude (max_magnitude negative)) at negative magnitude end

-- reads a SMALL_BIG_EXT: the number of bytes, the sign, which is 0 if not negative, and the bytes of the magnitude
abbrev pub big_at : List ℕ → ℕ → Read Term
big_at bytes at =
    after (number_at One bytes (at + 1)) (λ n second.
    after (number_at One bytes second) (λ sign third.
    after (piece_at n bytes third) (λ start end. big_value bytes at n (nat_lt 0 sign) start end)))
