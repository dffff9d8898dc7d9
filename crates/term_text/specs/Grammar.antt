-- The grammar of terms: the texts that spell a term.
use Rattle.std.specs.Prelude.{◌≡◌, ℕ, suc, ◌<◌, ◌≤◌, List, [], ◌∷◌, ◌++◌, length, map, Bool, true, false, ◌||◌, ◌==◌, if◌then◌else◌, IsTrue, codes}
use Rattle.std.specs.List.{list_all}
use Rattle.ets_term.specs.Character.{is_character, max_characters}
use Rattle.ets_term.specs.declared.term.Term.{Term}
use Rattle.ets_term.specs.declared.term.Term.TheVariants.{Int, Atom, Pid, Tid, Binary, List as ListOf}
use Rattle.ets_term.specs.Depth.{max_depth}
use Rattle.term_text.specs.Forms.{Number, integer, pid, identifier, byte, with_sign, max_magnitude, code, bracket}
use Rattle.term_text.specs.Text.{apostrophe, quotation_mark, is_blank, is_digit, is_lowercase, is_name, begins, value_of_digits}

-- all bytes are blank
abbrev pub AreBlanks : List ℕ → Type 0
AreBlanks s = IsTrue (list_all is_blank s)

-- the text s has one digit or more, all digits, and they write the number n, which is in the range of its kind; leading
-- zeros are allowed
pub record SpellsNumber (kind : Number) (s : List ℕ) (n : ℕ) : Type 0 where
  pub some : IsTrue (begins is_digit s)
  pub each : IsTrue (list_all is_digit s)
  pub value : value_of_digits 0 s ≡ n
  pub fits : n ≤ max_magnitude kind

-- the text between two quotes, and the characters that it writes: a `\` comes before each quote and each `\`
pub data SpellsQuoted (quote : ℕ) : List ℕ → List ℕ → Type 0 where
  none : SpellsQuoted quote [] []
  plain : (s cs : List ℕ) (c : ℕ) → SpellsQuoted quote s cs
      → is_character c ≡ true → (c == quote) ≡ false → (c == 92) ≡ false
      → SpellsQuoted quote (s ++ c ∷ []) (cs ++ c ∷ [])
  escaped : (s cs : List ℕ) (c : ℕ) → SpellsQuoted quote s cs → ((c == quote) || (c == 92)) ≡ true
      → SpellsQuoted quote (s ++ (codes "\\" ++ c ∷ [])) (cs ++ c ∷ [])

-- the text of one or more bytes of a binary, separated by commas, and these bytes
pub data SpellsBytes : List ℕ → List ℕ → Type 0 where
  first : (before s : List ℕ) (n : ℕ) → AreBlanks before → SpellsNumber (byte []) s n
      → SpellsBytes (before ++ s) (n ∷ [])
  more : (row before after s bs : List ℕ) (n : ℕ) → SpellsBytes row bs
      → AreBlanks before → AreBlanks after → SpellsNumber (byte []) s n
      → SpellsBytes (row ++ (before ++ (codes "," ++ (after ++ s)))) (bs ++ n ∷ [])

-- the character that opens a list (true) or a tuple
abbrev pub opening_sign : Bool → ℕ
opening_sign square = if square then 91 else 123

-- the character that closes a list (true) or a tuple
abbrev pub closing_sign : Bool → ℕ
closing_sign square = if square then 93 else 125

mutual
  -- a text is a spelling of a term, which has at most k levels
  pub data Spells : ℕ → List ℕ → Term → Type 0 where
    positive : (k : ℕ) (s : List ℕ) (n : ℕ) → SpellsNumber (integer false) s n
        → Spells (suc k) s (Int (with_sign false n))
    negative : (k : ℕ) (s : List ℕ) (n : ℕ) → SpellsNumber (integer true) s n
        → Spells (suc k) (codes "-" ++ s) (Int (with_sign true n))
    plain_atom : (k : ℕ) (s : List ℕ) → IsTrue (begins is_lowercase s) → IsTrue (list_all is_name s)
        → length s ≤ max_characters → Spells (suc k) s (Atom s)
    quoted_atom : (k : ℕ) (s cs : List ℕ) → SpellsQuoted apostrophe s cs → length cs ≤ max_characters
        → Spells (suc k) (codes "'" ++ (s ++ codes "'")) (Atom cs)
    pid_form : (k : ℕ) (s : List ℕ) (n : ℕ) → SpellsNumber pid s n
        → Spells (suc k) (codes "<0." ++ (s ++ codes ".0>")) (Pid n)
    identifier_form : (k : ℕ) (s : List ℕ) (n : ℕ) → SpellsNumber identifier s n
        → Spells (suc k) (codes "#Tid<" ++ (s ++ codes ">")) (Tid n)
    no_bytes : (k : ℕ) (blanks : List ℕ) → AreBlanks blanks
        → Spells (suc k) (codes "<<" ++ (blanks ++ codes ">>")) (Binary [])
    bytes : (k : ℕ) (row after bs : List ℕ) → SpellsBytes row bs → AreBlanks after
        → Spells (suc k) (codes "<<" ++ (row ++ (after ++ codes ">>"))) (Binary bs)
    byte_string : (k : ℕ) (before s after bs : List ℕ) → AreBlanks before → SpellsQuoted quotation_mark s bs
        → AreBlanks after
        → Spells (suc k)
        (codes "<<" ++ (before ++ (codes "\"" ++ (s ++ (codes "\"" ++ (after ++ codes ">>")))))) (Binary bs)
    empty_string : (k : ℕ) → Spells (suc k) (codes "\"\"") (ListOf [])
    string : (k : ℕ) (s cs : List ℕ) → SpellsQuoted quotation_mark s cs → 0 < length cs
        → Spells (suc (suc k)) (codes "\"" ++ (s ++ codes "\"")) (ListOf (map code cs))
    empty_bracket : (k : ℕ) (square : Bool) (blanks : List ℕ) → AreBlanks blanks
        → Spells (suc k) (opening_sign square ∷ (blanks ++ closing_sign square ∷ []))
        (bracket (record { square = square; terms = [] }))
    full_bracket : (k : ℕ) (square : Bool) (row after : List ℕ) (ts : List Term) → SpellsTerms k row ts
        → AreBlanks after
        → Spells (suc k) (opening_sign square ∷ (row ++ (after ++ closing_sign square ∷ [])))
        (bracket (record { square = square; terms = ts }))

  -- the text of one or more terms in a bracket, separated by commas, and these terms
  pub data SpellsTerms : ℕ → List ℕ → List Term → Type 0 where
    first_term : (k : ℕ) (before s : List ℕ) (t : Term) → AreBlanks before → Spells k s t
        → SpellsTerms k (before ++ s) (t ∷ [])
    more_terms : (k : ℕ) (row before after s : List ℕ) (ts : List Term) (t : Term) → SpellsTerms k row ts
        → AreBlanks before → AreBlanks after → Spells k s t
        → SpellsTerms k (row ++ (before ++ (codes "," ++ (after ++ s)))) (ts ++ t ∷ [])

-- the term with the spelling s ends before the text rest: if it is an integer or an atom without quotes, the first byte
-- of rest cannot belong to it
abbrev pub Ends : List ℕ → List ℕ → Type 0
Ends s rest =
    (begins (λ b. is_digit b || (b == 45)) s ≡ true → begins is_digit rest ≡ false)
    × (begins is_lowercase s ≡ true → begins is_name rest ≡ false)

-- the first n bytes of the text are blanks and a spelling of the term, of at most max_depth levels, that ends there
pub record Front (text : List ℕ) (t : Term) (n : ℕ) : Type 0 where
  pub blanks : List ℕ
  pub spelling : List ℕ
  pub rest : List ℕ
  pub whole : text ≡ blanks ++ (spelling ++ rest)
  pub taken : n ≡ length (blanks ++ spelling)
  pub are_blanks : AreBlanks blanks
  pub spells : Spells max_depth spelling t
  pub ends : Ends spelling rest
