-- How an atom keeps its characters.
use Rattle.std.specs.Prelude.{ℕ, ◌≤◌, List, take, string_bytes}
use Rattle.ets_term.specs.Character.{max_inline}
use Rattle.ets_term.specs.declared.atom_text.AtomText.{AtomText}
use Rattle.ets_term.specs.declared.atom_text.AtomText.TheVariants.{Inline, Allocated}

-- the characters, inline or allocated
abbrev pub characters : AtomText → List ℕ
characters (Inline len bytes) = take len bytes
characters (Allocated text) = string_bytes text.value

-- inline characters end within the array
abbrev pub EndsInline : AtomText → Type 0
EndsInline (Inline len bytes) = len ≤ max_inline
EndsInline (Allocated text) = Unit {0}
