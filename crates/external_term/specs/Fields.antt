-- Fields of bytes: unsigned numbers, and pieces of a known length.
use Rattle.std.specs.Prelude.{ℕ, ◌+◌, ◌*◌, List, length, slice_index, Result, Ok, Err, Bool, true, false, nat_le}
use Rattle.external_term.specs.declared.field.Width.{Width}
use Rattle.external_term.specs.declared.field.Width.TheVariants.{One, Two, Four}
use Rattle.external_term.specs.declared.fault.ExternalFault.{ExternalFault}
use Rattle.external_term.specs.declared.fault.ExternalFault.TheVariants.{Truncated}

-- the result of reading at an offset: a value and the offset after it, or a fault
abbrev pub Read : Type 0 → Type 0
Read A = Result (A × ℕ) ExternalFault

-- reads on after a value, by a function of the value and the offset after it; a fault stays
abbrev pub after : {A B : Type 0} → Read A → (A → ℕ → Read B) → Read B
after (Ok x) more = more x.0 x.1
after (Err f) more = Err f

-- the number in the two bytes at an offset, the high byte first
abbrev pub big16 : List ℕ → ℕ → ℕ
big16 bytes at = slice_index bytes at * 256 + slice_index bytes (at + 1)

-- the number in the four bytes at an offset, the high byte first
abbrev pub big32 : List ℕ → ℕ → ℕ
big32 bytes at = big16 bytes at * 65536 + big16 bytes (at + 2)

-- the number of bytes of a number with this width
abbrev pub width_bytes : Width → ℕ
width_bytes One = 1
width_bytes Two = 2
width_bytes Four = 4

-- the unsigned number with this width at an offset
abbrev pub number : Width → List ℕ → ℕ → ℕ
number One bytes at = slice_index bytes at
number Two bytes at = big16 bytes at
number Four bytes at = big32 bytes at

-- whether at least n bytes are left at an offset
abbrev pub has : ℕ → List ℕ → ℕ → Bool
has n bytes at = nat_le (at + n) (length bytes)

-- the number at an offset if there are enough bytes, else the fault
abbrev pub number_if : Bool → Width → List ℕ → ℕ → Read ℕ
number_if true w bytes at = Ok (number w bytes at, at + width_bytes w)
number_if false w bytes at = Err (Truncated at)

-- reads an unsigned number with this width
abbrev pub number_at : Width → List ℕ → ℕ → Read ℕ
number_at w bytes at = number_if (has (width_bytes w) bytes at) w bytes at

-- the offsets of a piece of n bytes if there are enough bytes, else the fault
abbrev pub piece_if : Bool → ℕ → ℕ → Read ℕ
piece_if true n at = Ok (at, at + n)
piece_if false n at = Err (Truncated at)

-- reads a piece of n bytes: the offset where it begins, and the offset after it
abbrev pub piece_at : ℕ → List ℕ → ℕ → Read ℕ
piece_at n bytes at = piece_if (has n bytes at) n at
