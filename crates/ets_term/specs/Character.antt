-- The characters of atoms.
use Rattle.std.specs.Prelude.{ℕ, ◌≤◌, List, length, Bool, ◌&&◌, nat_le, IsTrue}
use Rattle.std.specs.List.{list_all}

-- printable ASCII, from the space to the tilde
abbrev pub is_character : ℕ → Bool
is_character b = nat_le 32 b && nat_le b 126

-- the greatest number of characters in an atom
abbrev pub max_characters : ℕ
max_characters = 255

-- the greatest number of characters in an atom that takes no memory
abbrev pub max_inline : ℕ
max_inline = 22

-- at most `max_characters` characters, each printable ASCII
pub record IsAtomText (text : List ℕ) : Type 0 where
  pub short : length text ≤ max_characters
  pub each : IsTrue (list_all is_character text)
