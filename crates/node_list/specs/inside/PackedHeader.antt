-- The packed header: its word is twice the place of the next node, plus 1 for a free place. The greatest place encodes
-- none.
use Rattle.std.specs.Prelude.{ℕ, ◌<◌, ◌^◌, ◌-◌, ◌/◌, ◌%◌, nat_eq, if◌then◌else◌, Bool, Option, Some, None}
use Rattle.node_list.specs.declared.packed.PackedHeader.{PackedHeader}

abbrev pub place_in : ℕ → Option ℕ
place_in place = if nat_eq place (2 ^ 31 - 1) then None else Some place

-- the number of a link's place
abbrev pub place_number : Option ℕ → ℕ
place_number None = 2 ^ 31 - 1
place_number (Some place) = place

abbrev pub next_in : PackedHeader → Option ℕ
next_in p = place_in (p.word / 2)

abbrev pub is_free : PackedHeader → Bool
is_free p = nat_eq (p.word % 2) 1

-- the word has bits for this link
abbrev pub Fits : Option ℕ → Type 0
Fits None = Unit {0}
Fits (Some place) = place < 2 ^ 31 - 1
