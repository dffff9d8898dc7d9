-- Reads atoms, strings and binaries.
use Rattle.std.specs.Prelude.{ℕ, ◌+◌, pos, List, map, length, slice_range, Ok, Err, Bool, true, false, ◌==◌, ◌&&◌, nat_le, nat_lt}
use Rattle.std.specs.List.{list_all}
use Rattle.ets_term.specs.Character.{is_character, max_characters}
use Rattle.ets_term.specs.declared.term.Term.{Term}
use Rattle.ets_term.specs.declared.term.Term.TheVariants.{Int, Atom as AtomOf, List as ListOf, Binary as BinaryOf}
use Rattle.external_term.specs.declared.field.Width.{Width}
use Rattle.external_term.specs.declared.field.Width.TheVariants.{Two, Four}
use Rattle.external_term.specs.declared.fault.ExternalFault.TheVariants.{TooDeep, BadAtom}
use Rattle.external_term.specs.Fields.{Read, after, number_at, piece_at}

-- reads the length and the characters of an atom, after its tag: the offsets where the characters begin and end
abbrev pub name_at : Width → List ℕ → ℕ → Read ℕ
name_at w bytes at = after (number_at w bytes at) (λ n next. piece_at n bytes next)

-- whether an atom may have these characters
abbrev pub is_atom_text : List ℕ → Bool
is_atom_text s = nat_le (length s) max_characters && list_all is_character s

-- the atom if its characters are allowed, else the fault
abbrev pub atom_if : Bool → ℕ → List ℕ → ℕ → Read Term
atom_if true at s end = Ok (AtomOf s, end)
atom_if false at s end = Err (BadAtom at)

-- reads an atom: its length and its characters
abbrev pub atom_at : Width → List ℕ → ℕ → Read Term
atom_at w bytes at =
    after (name_at w bytes (at + 1)) (λ start end.
    let s = slice_range bytes start end in atom_if (is_atom_text s) at s end)

-- reads a binary: its number of bytes, and the bytes
abbrev pub binary_at : List ℕ → ℕ → Read Term
binary_at bytes at =
    after (number_at Four bytes (at + 1)) (λ n next.
    after (piece_at n bytes next) (λ start end. Ok (BinaryOf (slice_range bytes start end), end)))

-- a character as an integer term
abbrev pub code : ℕ → Term
code c = Int (pos c)

-- the list of the characters, or the fault if they are too deep
abbrev pub string_if : Bool → List ℕ → ℕ → ℕ → Read Term
string_if true bytes start end = Err (TooDeep start)
string_if false bytes start end = Ok (ListOf (map code (slice_range bytes start end)), end)

-- reads a STRING_EXT as a list of integers, which are one level deeper than the list
abbrev pub string_at : List ℕ → ℕ → ℕ → Read Term
string_at bytes levels at =
    after (number_at Two bytes (at + 1)) (λ n next.
    after (piece_at n bytes next) (λ start end. string_if ((levels == 0) && nat_lt 0 n) bytes start end))
