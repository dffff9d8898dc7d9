-- The numbers, characters and brackets of a text, and their terms.
use Rattle.std.specs.Prelude.{ℕ, zero, suc, ◌+◌, ◌-◌, ◌^◌, ℤ, pos, negsuc, List, Bool, true, false, if◌then◌else◌}
use Rattle.ets_term.specs.Integers.{least, greatest}
use Rattle.ets_term.specs.declared.term.Term.{Term}
use Rattle.ets_term.specs.declared.term.Term.TheVariants.{Int, Tuple, List as ListOf}

-- the kinds of numbers in a text
pub data Number : Type 0 where
  integer : Bool → Number  -- an integer, negative if true
  pid : Number
  identifier : Number
  byte : List ℕ → Number  -- a byte of a binary, after these

-- an open bracket, which is square or a brace, and the terms that were read inside
pub record OpenBracket : Type 0 where
  pub square : Bool
  pub terms : List Term

-- the integer with this magnitude, negative if the first argument is true
abbrev pub with_sign : Bool → ℕ → ℤ
with_sign true zero = pos 0
with_sign true (suc n) = negsuc n
with_sign false n = pos n

-- the magnitude of an integer
abbrev pub magnitude : ℤ → ℕ
magnitude (pos n) = n
magnitude (negsuc n) = n + 1

-- the greatest magnitude of a number of this kind
abbrev pub max_magnitude : Number → ℕ
max_magnitude (integer true) = magnitude least
max_magnitude (integer false) = magnitude greatest
max_magnitude pid = 2 ^ 32 - 1
max_magnitude identifier = 2 ^ 32 - 1
max_magnitude (byte bs) = 2 ^ 8 - 1

-- the list or tuple of a bracket: the term with the terms inside as its elements
abbrev pub bracket : OpenBracket → Term
bracket o = if o.square then ListOf o.terms else Tuple o.terms

-- a character as an integer term
abbrev pub code : ℕ → Term
code c = Int (pos c)
