-- Atoms among terms.
use Rattle.std.specs.Prelude.{ℕ, Bool, false, List}
use Rattle.std.specs.Option.{option_map_or}
use Rattle.std.specs.Str.{bytes_eq}
use Rattle.ets_term.specs.declared.term.Term.{Term}
use Rattle.ets_term.specs.Views.{as_atom}

-- whether a term is the atom with this text
abbrev pub is_atom : List ℕ → Term → Bool
is_atom text term = option_map_or (λ own. bytes_eq own text) (as_atom term) false
