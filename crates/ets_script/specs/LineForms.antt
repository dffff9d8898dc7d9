-- The forms of lines, as in the table of docs/script.md.
use Rattle.std.specs.Prelude.{◌≡◌, ℕ, ◌<◌, ◌≤◌, ◌-◌, ◌^◌, ◌||◌, ◌⊎◌, Bool, true, false, List, [], ◌∷◌, ◌++◌, length, codes}
use Rattle.std.specs.Str.{bytes_eq}
use Rattle.std.specs.List.{list_all}
use Rattle.ets_term.specs.declared.atom.TheConstants.{MAX_CHARACTERS}
use Rattle.ets_term.specs.declared.term.Term.{Term}
use Rattle.term_text.specs.Grammar.{Front}
use Rattle.term_text.specs.Text.{is_digit, is_lowercase, is_name, begins, value_of_digits}
use Rattle.ets_script.specs.Commands.{Command, command, is_silent}
use Rattle.ets_script.specs.Classes.{is_line_blank, is_printable, is_sign}

-- any number of spaces and tabs
abbrev pub AreBlanks : List ℕ → Type 0
AreBlanks bs = list_all is_line_blank bs ≡ true

-- at least one space or tab
abbrev pub IsGap : List ℕ → Type 0
IsGap bs = AreBlanks bs × (0 < length bs)

-- a lower-case letter, then letters, digits, `_` and `@`, at most MAX_CHARACTERS bytes
pub record IsName (name : List ℕ) : Type 0 where
  pub first : begins is_lowercase name ≡ true
  pub each : list_all is_name name ≡ true
  pub short : length name ≤ MAX_CHARACTERS

-- printable ASCII and tabs
abbrev pub IsPrintable : List ℕ → Type 0
IsPrintable line = list_all is_printable line ≡ true

-- blanks, or a comment
abbrev pub IsSilentLine : List ℕ → Type 0
IsSilentLine line =
    AreBlanks line
    ⊎ ((before : List ℕ) × (comment : List ℕ) × AreBlanks before × (line ≡ before ++ (codes "%" ++ comment)))

-- the line is not silent, and this is its command
abbrev pub Means : List ℕ → Command → Type 0
Means line c = (is_silent line ≡ false) × (command line ≡ c)

-- a line with a word and a name: blanks, the word, a gap, the name, blanks
abbrev pub IsNameLine : List ℕ → List ℕ → List ℕ → Type 0
IsNameLine word name line =
    (before : List ℕ) × (gap : List ℕ) × (after : List ℕ)
    × AreBlanks before × IsGap gap × AreBlanks after × IsName name
    × (line ≡ before ++ (word ++ (gap ++ (name ++ after))))

-- this text spells the term, by the grammar of terms, before this rest of the line; it may begin with blanks
abbrev pub IsTerm : List ℕ → Term → List ℕ → Type 0
IsTerm text t rest = Front (text ++ rest) t (length text)

-- these digits spell the number of a bucket, which is below 2^32
pub record IsBucket (digits : List ℕ) (bucket : ℕ) : Type 0 where
  pub first : begins is_digit digits ≡ true
  pub each : list_all is_digit digits ≡ true
  pub value : bucket ≡ value_of_digits 0 digits
  pub below : bucket ≤ 2 ^ 32 - 1

-- `grow T`: the gap has all blanks before the term
abbrev pub IsGrowLine : Term → List ℕ → Type 0
IsGrowLine t line =
    (before : List ℕ) × (gap : List ℕ) × (text : List ℕ) × (after : List ℕ)
    × AreBlanks before × IsGap gap × (begins is_line_blank (text ++ after) ≡ false) × IsTerm text t after
    × AreBlanks after × (line ≡ before ++ (codes "grow" ++ (gap ++ (text ++ after))))

-- `ready T B`
abbrev pub IsReadyLine : Term → ℕ → List ℕ → Type 0
IsReadyLine t bucket line =
    (before : List ℕ) × (gap : List ℕ) × (text : List ℕ) × (space : List ℕ) × (digits : List ℕ) × (after : List ℕ)
    × AreBlanks before × IsGap gap × (begins is_line_blank (text ++ (space ++ (digits ++ after))) ≡ false)
    × IsTerm text t (space ++ (digits ++ after)) × IsGap space × IsBucket digits bucket × AreBlanks after
    × (line ≡ before ++ (codes "ready" ++ (gap ++ (text ++ (space ++ (digits ++ after))))))

-- this text spells the terms, with commas between them and the closing parenthesis, before this rest of the line
abbrev pub AreTerms : List Term → List ℕ → List ℕ → Type 0
AreTerms [] text rest = ⊥
AreTerms (t ∷ []) text rest =
    (s : List ℕ) × (blanks : List ℕ) × AreBlanks blanks × IsTerm s t (blanks ++ (codes ")" ++ rest))
    × (text ≡ s ++ (blanks ++ codes ")"))
AreTerms (t ∷ (u ∷ us)) text rest =
    (s : List ℕ) × (blanks : List ℕ) × (more : List ℕ)
    × AreBlanks blanks × IsTerm s t (blanks ++ (codes "," ++ (more ++ rest)))
    × (text ≡ s ++ (blanks ++ (codes "," ++ more))) × AreTerms (u ∷ us) more rest

-- This text spells the arguments of a call, with the closing parenthesis, before this rest of the line. No term begins
-- with a closing parenthesis.
abbrev pub AreArguments : List Term → List ℕ → List ℕ → Type 0
AreArguments [] text rest = (blanks : List ℕ) × AreBlanks blanks × (text ≡ blanks ++ codes ")")
AreArguments (t ∷ ts) text rest =
    (blanks : List ℕ) × (row : List ℕ) × AreBlanks blanks × (begins is_line_blank (row ++ rest) ≡ false)
    × (begins (is_sign (codes ")")) (row ++ rest) ≡ false) × AreTerms (t ∷ ts) row rest × (text ≡ blanks ++ row)

-- a first word that is always a command, and never the name of a process that makes a call
abbrev pub is_command : List ℕ → Bool
is_command name =
    bytes_eq name (codes "spawn") || bytes_eq name (codes "exit")
    || bytes_eq name (codes "grow") || bytes_eq name (codes "ready")

-- `NAME word(T1,..,Tn)`
abbrev pub IsCallLine : List ℕ → List ℕ → List Term → List ℕ → Type 0
IsCallLine name word terms line =
    (before : List ℕ) × (gap : List ℕ) × (space : List ℕ) × (arguments : List ℕ) × (after : List ℕ)
    × AreBlanks before × IsName name × (is_command name ≡ false) × IsGap gap × IsName word × AreBlanks space
    × AreArguments terms arguments after × AreBlanks after
    × (line ≡ before ++ (name ++ (gap ++ (word ++ (space ++ (codes "(" ++ (arguments ++ after)))))))
