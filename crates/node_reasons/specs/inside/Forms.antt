-- Whether options have their form.
use Rattle.std.specs.Prelude.{ℕ, pos, nat_le, ◌&&◌, ◌||◌, Bool, false, if◌then◌else◌, List, [], ◌∷◌, is_some, codes}
use Rattle.std.specs.Str.{bytes_eq}
use Rattle.std.specs.List.{list_all}
use Rattle.ets_term.specs.declared.term.Term.{Term, out-Term}
use Rattle.ets_term.specs.declared.term.Term.TheOpen.{Term-F}
use Rattle.ets_term.specs.Atoms.{is_atom}
use Rattle.ownership.specs.Options.{parse_heir, is_tuning}

abbrev pub is_other_word : List ℕ → Bool
is_other_word word =
    bytes_eq word (codes "public") || bytes_eq word (codes "protected") || bytes_eq word (codes "private")
    || bytes_eq word (codes "named_table") || bytes_eq word (codes "compressed")

abbrev pub is_word : List ℕ → Bool
is_word word =
    bytes_eq word (codes "set") || bytes_eq word (codes "bag") || bytes_eq word (codes "duplicate_bag")
    || is_other_word word

abbrev pub is_keypos_form : Term-F Term → Bool
is_keypos_form (Term-F.Int (pos n)) = nat_le 1 n && nat_le n 4294967295
is_keypos_form _ = false

abbrev pub is_option_pair : Term → Term → Bool
is_option_pair name value = if is_atom (codes "keypos") name then is_keypos_form (out-Term value) else is_tuning name value

abbrev pub is_name_and_value : List Term → Bool
is_name_and_value (name ∷ value ∷ []) = is_option_pair name value
is_name_and_value _ = false

abbrev pub is_option_form : Term-F Term → Bool
is_option_form (Term-F.Atom word) = is_word word
is_option_form (Term-F.Tuple elements) = is_some (parse_heir elements) || is_name_and_value elements
is_option_form _ = false

abbrev pub is_option : Term → Bool
is_option term = is_option_form (out-Term term)

abbrev pub are_options_form : Term-F Term → Bool
are_options_form (Term-F.List terms) = list_all is_option terms
are_options_form _ = false

-- whether a term is a list of options
abbrev pub are_options : Term → Bool
are_options term = are_options_form (out-Term term)
