-- A printed term is read back.
use Rattle.std.specs.Prelude.{◌≡◌, ℕ, ◌≤◌, List, ◌++◌, length}
use Rattle.ets_term.specs.Depth.{depth, max_depth}
use Rattle.ets_term.specs.Fits.{Fits}
use Rattle.ets_term.specs.declared.term.Term.{Term}
use Rattle.term_text.specs.Grammar.{Ends}
use Rattle.term_text.specs.inside.Reader.{found, reading}
use Rattle.term_text.specs.Printed.{text_of_term}

-- If a term has at most max_depth levels, its printed text is read as this term, to its last byte. If the term is an
-- integer or an atom without quotes, the text after it must not begin with a byte that continues it.
abbrev pub ReadsBack : Term → List ℕ → Type 0
ReadsBack t rest =
    Fits t → depth t ≤ max_depth → Ends (text_of_term t) rest
    → reading (text_of_term t ++ rest) ≡ found t (length (text_of_term t))
