-- The printed text of terms: without blanks, a string as a list, numbers without superfluous zeros.
use Rattle.std.specs.Prelude.{ℕ, List, [], ◌∷◌, ◌++◌, map, Bool, true, false, ◌&&◌, ◌||◌, ◌==◌, if◌then◌else◌, decimal, codes}
use Rattle.std.specs.Fmt.{signed_decimal}
use Rattle.std.specs.List.{list_all, flat_map}
use Rattle.ets_term.specs.declared.term.Term.{Term, fold-Term}
use Rattle.ets_term.specs.declared.term.Term.TheOpen.{Term-F}
use Rattle.term_text.specs.Text.{is_lowercase, is_name, begins}

-- whether an atom needs no quotes: its text is a lowercase letter, then letters, digits, `_` and `@`
abbrev pub is_plain : List ℕ → Bool
is_plain s = begins is_lowercase s && list_all is_name s

-- the text of a character between single quotes: a `\` comes before a single quote and before a `\`
abbrev pub escape : ℕ → List ℕ
escape c = if (c == 39) || (c == 92) then codes "\\" ++ c ∷ [] else c ∷ []

-- the text of an atom
abbrev pub atom_text : List ℕ → List ℕ
atom_text s = if is_plain s then s else codes "'" ++ (flat_map escape s ++ codes "'")

-- a comma before an item that has an earlier one: if `later` is true
abbrev pub comma_if : Bool → List ℕ
comma_if later = if later then codes "," else []

-- the texts, separated by commas; if `later` is true, there is also a comma before the first
abbrev pub join_with_commas : Bool → List (List ℕ) → List ℕ
join_with_commas later [] = []
join_with_commas later (s ∷ ss) = comma_if later ++ (s ++ join_with_commas true ss)

-- the printed text of a term, from the texts of its elements: for example `<0.7.0>`, `#Tid<7>`, `{a,b}`, `[1,2]` and
-- `<<97,98>>`
abbrev pub text_of_form : Term-F (List ℕ) → List ℕ
text_of_form (Term-F.Int n) = signed_decimal n
text_of_form (Term-F.Atom s) = atom_text s
text_of_form (Term-F.Pid n) = codes "<0." ++ (decimal n ++ codes ".0>")
text_of_form (Term-F.Tid n) = codes "#Tid<" ++ (decimal n ++ codes ">")
text_of_form (Term-F.Tuple ss) = codes "{" ++ (join_with_commas false ss ++ codes "}")
text_of_form (Term-F.List ss) = codes "[" ++ (join_with_commas false ss ++ codes "]")
text_of_form (Term-F.Binary bs) = codes "<<" ++ (join_with_commas false (map decimal bs) ++ codes ">>")

-- the printed text of a term
abbrev pub text_of_term : Term → List ℕ
text_of_term = fold-Term (List ℕ) text_of_form
