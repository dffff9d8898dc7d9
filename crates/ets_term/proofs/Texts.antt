-- The text of an atom is UTF-8.
use Rattle.std.proofs.Common.{ℕ, ◌<◌, List, [], ◌∷◌, Bool, true, false, ◌&&◌, IsTrue, refl, arith}
use Rattle.std.proofs.lemmas.Str.{IsUtf8-from_ascii}
use Rattle.std.proofs.lemmas.Str.Ascii.{IsAscii-nil, IsAscii-cons}
use Rattle.std.proofs.lemmas.Bool.Decides.{nat_tests}
use Rattle.std.specs.Str.{IsUtf8, IsAscii}
use Rattle.std.specs.List.{list_all}
use Rattle.ets_term.specs.Character.{is_character, IsAtomText}

both : (a b : Bool) → IsTrue (a && b) → IsTrue a × IsTrue b
both true b h = (refl, h)
both false b h = cc

small : (b : ℕ) → IsTrue (is_character b) → b < 128
small b h = grind (arith, nat_tests)

ascii : (bs : List ℕ) → IsTrue (list_all is_character bs) → IsAscii bs
ascii [] h = IsAscii-nil
ascii (b ∷ bs) h = let p = both (is_character b) (list_all is_character bs) h in IsAscii-cons b bs (small b p.0) (ascii bs p.1)

pub atom_is_utf8 : (bs : List ℕ) → IsAtomText bs → IsUtf8 bs
atom_is_utf8 bs h = IsUtf8-from_ascii bs (ascii bs h.each)
