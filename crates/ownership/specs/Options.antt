-- The options of `new`, and the heirs that `setopts` sets (stdlib manual, module ets, new/2 and setopts/2). Options
-- are read in their order, and a later option overrides an earlier option.
use Rattle.std.specs.Prelude.{ℕ, nat_le, ◌&&◌, ◌||◌, Bool, true, false, if◌then◌else◌, List, [], ◌∷◌, Option, Some, None, codes, option_map}
use Rattle.std.specs.Option.{option_and_then, option_map_or}
use Rattle.std.specs.Str.{bytes_eq}
use Rattle.ets_term.specs.declared.term.Term.{Term, out-Term}
use Rattle.ets_term.specs.declared.term.Term.TheOpen.{Term-F}
use Rattle.ets_term.specs.Views.{as_natural, as_pid, as_list}
use Rattle.ets_term.specs.Atoms.{is_atom}
use Rattle.table_ops.specs.declared.kind.Kind.TheVariants.{Set, Bag, DuplicateBag}
use Rattle.ownership.specs.declared.metadata.Heir.{Heir}
use Rattle.ownership.specs.declared.metadata.Protection.TheVariants.{Public, Protected, Private}
use Rattle.ownership.specs.declared.options.NewOptions.{NewOptions}

-- the options of an empty list
abbrev pub default_options : NewOptions
default_options = record { kind = Set; keypos = 1; protection = Protected; named = false; heir = None }

-- whether a term is the atom `true` or `false`
abbrev pub is_boolean : Term → Bool
is_boolean term = is_atom (codes "true") term || is_atom (codes "false") term

-- the options after {keypos,N}; None if N is not allowed
abbrev pub keypos_option : ℕ → NewOptions → Option NewOptions
keypos_option n options =
    if nat_le 1 n && nat_le n 4294967295 then Some (record options { keypos = n }) else None

-- the options after an option that is an atom, of which `compressed` has no effect; None if there is no such option
abbrev pub word_option : List ℕ → NewOptions → Option NewOptions
word_option word options =
    if bytes_eq word (codes "set") then Some (record options { kind = Set })
    else if bytes_eq word (codes "bag") then Some (record options { kind = Bag })
    else if bytes_eq word (codes "duplicate_bag") then Some (record options { kind = DuplicateBag })
    else if bytes_eq word (codes "public") then Some (record options { protection = Public })
    else if bytes_eq word (codes "protected") then Some (record options { protection = Protected })
    else if bytes_eq word (codes "private") then Some (record options { protection = Private })
    else if bytes_eq word (codes "named_table") then Some (record options { named = true })
    else if bytes_eq word (codes "compressed") then Some options
    else None

-- the elements of {heir,none}, which name no heir, or of {heir,Pid,Data}, which name an heir; None for any other tuple
abbrev pub parse_heir : List Term → Option (Option Heir)
parse_heir (name ∷ none ∷ []) =
    if is_atom (codes "heir") name && is_atom (codes "none") none then Some None else None
parse_heir (name ∷ pid ∷ gift ∷ []) =
    if is_atom (codes "heir") name
    then option_map (λ p. Some (record { pid = p; gift = gift })) (as_pid pid)
    else None
parse_heir _ = None

-- whether a pair is a tuning option, which has no effect
abbrev pub is_tuning : Term → Term → Bool
is_tuning name value =
    if is_atom (codes "write_concurrency") name then is_boolean value || is_atom (codes "auto") value
    else (is_atom (codes "read_concurrency") name || is_atom (codes "decentralized_counters") name) && is_boolean value

-- the options after {keypos,N} or a tuning option; None for any other tuple
abbrev pub pair_option : List Term → NewOptions → Option NewOptions
pair_option (name ∷ value ∷ []) options =
    if is_atom (codes "keypos") name
    then option_and_then (λ n. keypos_option n options) (as_natural value)
    else if is_tuning name value then Some options
    else None
pair_option _ options = None

-- the options after an option that is a tuple, which sets or removes the heir, or is another option; None if there is no
-- such option
abbrev pub tuple_option : List Term → NewOptions → Option NewOptions
tuple_option elements options =
    option_map_or (λ heir. Some (record options { heir = heir })) (parse_heir elements) (pair_option elements options)

-- the options after one more option, by the first level of its term; None if there is no such option
abbrev pub option_form : Term-F Term → NewOptions → Option NewOptions
option_form (Term-F.Atom word) options = word_option word options
option_form (Term-F.Tuple elements) options = tuple_option elements options
option_form _ options = None

-- the options after all options of a list, in their order; None if one of them does not exist
abbrev pub options_from : NewOptions → List Term → Option NewOptions
options_from options [] = Some options
options_from options (option ∷ rest) =
    option_and_then (λ o. options_from o rest) (option_form (out-Term option) options)

-- the options of a term; None if it is not a list of options
abbrev pub options_of : Term → Option NewOptions
options_of term = option_and_then (options_from default_options) (as_list term)

-- the heir, or no heir, that one option of setopts names, by the first level of the term; None for any other term
abbrev pub heir_form : Term-F Term → Option (Option Heir)
heir_form (Term-F.Tuple elements) = parse_heir elements
heir_form _ = None

-- the heir after the options of a list, in their order, from the heir before
abbrev pub heirs_from : Option Heir → List Term → Option (Option Heir)
heirs_from heir [] = Some heir
heirs_from heir (option ∷ rest) =
    option_and_then (λ h. heirs_from h rest) (heir_form (out-Term option))

-- the heir after setopts, by the first level of the term
abbrev pub heirs_form : Option Heir → Term-F Term → Option (Option Heir)
heirs_form heir (Term-F.List terms) = heirs_from heir terms
heirs_form heir form = heir_form form

-- the heir of a table after setopts, from the heir before; the outer None if the term is neither an option nor a list
-- of options
abbrev pub heir_after : Option Heir → Term → Option (Option Heir)
heir_after heir term = heirs_form heir (out-Term term)
