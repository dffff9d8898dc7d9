-- Packets: a length of four bytes, the high byte first, and a body of this length.
use Rattle.std.specs.Prelude.{◌≡◌, ◌⊎◌, ℕ, ◌+◌, ◌*◌, ◌/◌, ◌%◌, ◌^◌, ◌≤◌, ◌<◌, List, [], ◌∷◌, ◌++◌, length, slice_index}

-- a number below 2^32 in four bytes, the high byte first
abbrev pub big4 : ℕ → List ℕ
big4 n = n / 2 ^ 24 % 256 ∷ n / 2 ^ 16 % 256 ∷ n / 2 ^ 8 % 256 ∷ n % 256 ∷ []

-- the number that the four bytes at an offset encode
abbrev pub number_at : List ℕ → ℕ → ℕ
number_at bytes at =
    slice_index bytes at * 2 ^ 24 + slice_index bytes (at + 1) * 2 ^ 16
    + slice_index bytes (at + 2) * 2 ^ 8 + slice_index bytes (at + 3)

-- the packet of a body
abbrev pub packet : List ℕ → List ℕ
packet body = big4 (length body) ++ body

-- a part of a packet: fewer than four bytes, or a length and fewer bytes than that
abbrev pub IsUnfinished : List ℕ → Type 0
IsUnfinished part =
    (length part < 4)
    ⊎ ((n : ℕ) × (some : List ℕ) × (part ≡ big4 n ++ some) × (length some < n) × (n < 2 ^ 32))
