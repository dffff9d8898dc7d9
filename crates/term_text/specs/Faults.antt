-- The table of faults: one definition for each kind of fault says, by the grammar, which texts have it. The reader
-- notices the fault at the byte b, and `pre` is the text before b.
use Rattle.std.specs.Prelude.{◌≡◌, ℕ, suc, ◌+◌, ◌-◌, ◌*◌, ◌<◌, List, [], ◌∷◌, ◌++◌, length, true, false, ◌==◌, IsTrue, codes, Option, None, Some}
use Rattle.std.specs.List.{list_all}
use Rattle.ets_term.specs.Character.{is_character, max_characters}
use Rattle.ets_term.specs.declared.term.Term.{Term}
use Rattle.ets_term.specs.Depth.{max_depth}
use Rattle.term_text.specs.declared.fault.TextFault.{TextFault}
use Rattle.term_text.specs.declared.fault.TextFault.TheVariants.{Unexpected, Unclosed, OutOfRange, TooDeep, AtomTooLong, Memory}
use Rattle.term_text.specs.Forms.{OpenBracket, Number, integer, pid, identifier, byte, max_magnitude}
use Rattle.term_text.specs.Grammar.{AreBlanks, SpellsNumber, SpellsQuoted, SpellsBytes, SpellsTerms, opening_sign, Front}
use Rattle.term_text.specs.Text.{apostrophe, quotation_mark, is_digit, is_lowercase, is_name, begins, begins_term}

-- the text inside a bracket, after the terms ts, up to where the next term must begin
pub data AwaitsItem (k : ℕ) : List Term → List ℕ → Type 0 where
  fresh : (blanks : List ℕ) → AreBlanks blanks → AwaitsItem k [] blanks
  further : (ts : List Term) (row before after : List ℕ) → SpellsTerms k row ts → AreBlanks before → AreBlanks after
      → AwaitsItem k ts (row ++ (before ++ (codes "," ++ after)))

-- the text ends where a term of at most k levels must begin, inside these open brackets
abbrev pub AwaitsTerm : ℕ → List OpenBracket → List ℕ → Type 0
AwaitsTerm k [] pre = AreBlanks pre × (k ≡ max_depth)
AwaitsTerm k (o ∷ os) pre =
    (outer inner : List ℕ) × (pre ≡ outer ++ (opening_sign o.square ∷ inner))
    × AwaitsTerm (suc k) os outer × AwaitsItem k o.terms inner

-- the text of a binary after its `<<` and these bytes, up to where the next byte must begin
pub data AwaitsByte : List ℕ → List ℕ → Type 0 where
  opened : (blanks : List ℕ) → AreBlanks blanks → AwaitsByte [] blanks
  comma : (bs row before after : List ℕ) → SpellsBytes row bs → AreBlanks before → AreBlanks after
      → AwaitsByte bs (row ++ (before ++ (codes "," ++ after)))

-- the characters that come before the digits of a number of this kind, within its term
abbrev pub LeadsNumber : Number → List ℕ → Type 0
LeadsNumber (integer true) s = s ≡ codes "-"
LeadsNumber (integer false) s = s ≡ []
LeadsNumber pid s = s ≡ codes "<0."
LeadsNumber identifier s = s ≡ codes "#Tid<"
LeadsNumber (byte bs) s = (inner : List ℕ) × (s ≡ codes "<<" ++ inner) × AwaitsByte bs inner

-- the offset of a number for a fault: where an integer begins, with its sign, or the first digit of any other number
abbrev pub number_start : Number → ℕ → ℕ → ℕ
number_start (integer below) form digits = form
number_start kind form digits = digits

-- out of range: with the digit b, after the text pre, the number that begins at `start` exceeds its range
pub record PastRange (pre : List ℕ) (b start : ℕ) : Type 0 where
  pub os : List OpenBracket
  pub k : ℕ
  pub kind : Number
  pub value : ℕ
  pub lead : List ℕ
  pub before : List ℕ
  pub digits : List ℕ
  pub cut : pre ≡ lead ++ (before ++ digits)
  pub here : AwaitsTerm (suc k) os lead
  pub is_before : LeadsNumber kind before
  pub spells : SpellsNumber kind digits value
  pub begins : start ≡ number_start kind (length lead) (length lead + length before)
  pub digit : is_digit b ≡ true
  pub past : max_magnitude kind < value * 10 + (b - 48)

-- atom too long: after the text pre, b is the first byte of one character too many of the atom that begins at `start`
pub data PastAtom (pre : List ℕ) (b start : ℕ) : Type 0 where
  plain_form : (os : List OpenBracket) (k : ℕ) (lead s : List ℕ) → pre ≡ lead ++ s
      → AwaitsTerm (suc k) os lead → start ≡ length lead
      → IsTrue (begins is_lowercase s) → IsTrue (list_all is_name s) → length s ≡ max_characters → is_name b ≡ true
      → PastAtom pre b start
  quoted_form : (os : List OpenBracket) (k : ℕ) (lead s cs : List ℕ) → pre ≡ lead ++ (codes "'" ++ s)
      → AwaitsTerm (suc k) os lead → start ≡ length lead
      → SpellsQuoted apostrophe s cs → length cs ≡ max_characters → is_character b ≡ true → (b == apostrophe) ≡ false
      → PastAtom pre b start

-- too deep: after the text pre, b begins a term below the last level, or a character of a string at the last level
pub data PastDepth (pre : List ℕ) (b : ℕ) : Type 0 where
  a_term : (os : List OpenBracket) → AwaitsTerm 0 os pre → begins_term b ≡ true → PastDepth pre b
  a_character : (os : List OpenBracket) (lead : List ℕ) → pre ≡ lead ++ codes "\"" → AwaitsTerm 1 os lead
      → is_character b ≡ true → (b == quotation_mark) ≡ false → PastDepth pre b

-- the fault describes the byte b after the text pre
abbrev pub FaultMeans : List ℕ → ℕ → TextFault → Type 0
FaultMeans pre b (Unexpected at) = at ≡ length pre
FaultMeans pre b (OutOfRange at) = PastRange pre b at
FaultMeans pre b (TooDeep at) = (at ≡ length pre) × PastDepth pre b
FaultMeans pre b (AtomTooLong at) = PastAtom pre b at
FaultMeans pre b (Unclosed at) = ⊥
FaultMeans pre b Memory = ⊥

-- The fault of the byte b after the text pre: if b breaks a limit, the fault of this limit, else that b is unexpected.
abbrev pub IsFaultAt : List ℕ → ℕ → TextFault → Type 0
IsFaultAt pre b (Unexpected at) =
    (at ≡ length pre) × ((start : ℕ) → PastRange pre b start → ⊥)
    × (PastDepth pre b → ⊥) × ((start : ℕ) → PastAtom pre b start → ⊥)
IsFaultAt pre b f = FaultMeans pre b f

-- the bytes can be completed to a text that begins with a term, after blanks
abbrev pub CanBeCompleted : List ℕ → Type 0
CanBeCompleted bs = (more : List ℕ) × (t : Term) × (n : ℕ) × Front (bs ++ more) t n

-- the text before the byte b can be completed, but the text up to and including b cannot, and the fault is that of b
pub record IsNoticed (text : List ℕ) (f : TextFault) : Type 0 where
  pub pre : List ℕ
  pub b : ℕ
  pub rest : List ℕ
  pub whole : text ≡ pre ++ b ∷ rest
  pub before : CanBeCompleted pre
  pub after : CanBeCompleted (pre ++ b ∷ []) → ⊥
  pub fault : IsFaultAt pre b f

-- the text can be completed, but does not begin with a term
pub record EndsEarly (text : List ℕ) (at : ℕ) : Type 0 where
  pub length_is : at ≡ length text
  pub before : CanBeCompleted text
  pub none : (t : Term) (n : ℕ) → Front text t n → ⊥

-- the fault of a text
abbrev pub IsFault : List ℕ → TextFault → Type 0
IsFault text (Unclosed at) = EndsEarly text at
IsFault text f = IsNoticed text f

-- the fault of the text, or memory ran out
abbrev pub IsFaultOrMemory : List ℕ → TextFault → Type 0
IsFaultOrMemory text Memory = Unit {0}
IsFaultOrMemory text f = IsFault text f

-- the offset of a fault in bytes
abbrev pub offset : TextFault → Option ℕ
offset (Unexpected at) = Some at
offset (Unclosed at) = Some at
offset (OutOfRange at) = Some at
offset (TooDeep at) = Some at
offset (AtomTooLong at) = Some at
offset Memory = None
