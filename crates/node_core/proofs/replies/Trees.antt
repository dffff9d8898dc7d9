-- Terms and their trees.
use Rattle.std.proofs.Common.{◌≡◌, List, [], ◌∷◌, refl, map}
use Rattle.ets_term.specs.declared.term.Term.{Term}
use Rattle.ets_term.specs.Data.{data_of}
use Rattle.ets_term.specs.laws.Exact.{back}
use Rattle.ets_term.specs.Trees.{term_of}

-- terms are what their trees are of
pub terms-back : (terms : List Term) → map term_of (map data_of terms) ≡ terms
terms-back [] = refl
terms-back (t ∷ ts) = λ i. back t i ∷ terms-back ts i
