-- The integers of terms: 128 bits, two's complement.
use Rattle.std.specs.Prelude.{ℕ, ℤ, ◌^◌, ◌-◌, ◌&&◌, if◌then◌else◌, int_le, pos, negsuc, Option, Some, None}

-- the least integer of a term
abbrev pub least : ℤ
least = negsuc (2 ^ 127 - 1)

-- the greatest integer of a term
abbrev pub greatest : ℤ
greatest = pos (2 ^ 127 - 1)

-- the integer itself, None if it is out of range
abbrev pub in_range : ℤ → Option ℤ
in_range n = if int_le least n && int_le n greatest then Some n else None
