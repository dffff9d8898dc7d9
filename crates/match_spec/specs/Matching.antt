-- When a term matches a pattern, without a computation: by bindings that exist.
use Rattle.std.specs.Prelude.{◌≡◌, List, Option, Some, None, map, IsTrue}
use Rattle.std.specs.Map.{values_of}
use Rattle.ets_term.specs.Data.{Data}
use Rattle.match_spec.specs.Variables.{variables}
use Rattle.match_spec.specs.Patterns.{binding, matches, Bindings}

-- the term matches the pattern by these bindings, which bind exactly the pattern's variables
pub record Match (pattern t : Data) (b : Bindings) : Type 0 where
  pub fits : IsTrue (matches (binding b) pattern t)
  pub bound : map (λ x. x.0) b ≡ variables pattern

-- the values, in order of number, of the only bindings by which a term matches a pattern; None if it does not match
abbrev pub IsBindings : Data → Data → Option (List Data) → Type 0
IsBindings pattern t None = (b : Bindings) → Match pattern t b → ⊥
IsBindings pattern t (Some vs) =
    (b : Bindings) × Match pattern t b × (values_of b ≡ vs)
    × ((c : Bindings) → Match pattern t c → c ≡ b)
