-- The bindings by which a term matches a pattern.
use Rattle.std.specs.Prelude.{◌≡◌, Option, Some, None}
use Rattle.ets_term.specs.Data.{Data}
use Rattle.match_spec.specs.Patterns.{Bindings}
use Rattle.match_spec.specs.Matching.{Match}

-- the only bindings by which the term matches, or None if it does not match
abbrev pub AreTheBindings : Data → Data → Option Bindings → Type 0
AreTheBindings pattern t None = (b : Bindings) → Match pattern t b → ⊥
AreTheBindings pattern t (Some b) = Match pattern t b × ((c : Bindings) → Match pattern t c → c ≡ b)
