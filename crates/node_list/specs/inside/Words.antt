-- A link in one word: the greatest number encodes none.
use Rattle.std.specs.Prelude.{ℕ, ◌^◌, ◌-◌, nat_eq, if◌then◌else◌, Option, Some, None}

abbrev pub link_in : ℕ → Option ℕ
link_in word = if nat_eq word (2 ^ 32 - 1) then None else Some word

abbrev pub word_of : Option ℕ → ℕ
word_of None = 2 ^ 32 - 1
word_of (Some place) = place
