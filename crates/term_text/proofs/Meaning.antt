-- What a state of the automaton says of the bytes before it, in terms of the grammar.
use Rattle.std.proofs.Common.{ℕ, ◌≡◌, refl, ap, ◌∙◌, ◌+◌, ◌<◌, ◌≤◌, ◌++◌, ◌==◌, ◌||◌, suc, List, [], ◌∷◌, length, arith, Bool, true, false, IsTrue, if◌then◌else◌, append_assoc, length-append}
use Rattle.std.specs.Cmp.Derive.{both_true}
use Rattle.std.proofs.lemmas.Bool.{false≢true, and_parts}
use Rattle.std.specs.List.{list_all}
use Rattle.term_text.specs.declared.fault.TextFault.{TextFault}
use Rattle.term_text.specs.declared.quote_form.QuoteForm.{QuoteForm}
use Rattle.term_text.specs.declared.quote_form.QuoteForm.TheVariants as form
use Rattle.term_text.specs.Text.{is_blank, is_digit, is_lowercase, is_name, begins}
use Rattle.term_text.specs.inside.Reader.{OpenBracket, Number, integer, Expect, whole, digits, Mode, wants, digit, number, name, in_quotes, after_backslash, signs, angle, opened_binary, wants_byte, after_byte, after_string, after, Reading, reads_on, found, fails, quote}
use Rattle.term_text.specs.Faults.{AwaitsTerm, AwaitsByte, LeadsNumber, number_start, FaultMeans}
use Rattle.term_text.specs.Grammar.{AreBlanks, SpellsNumber, SpellsQuoted, SpellsBytes, opening_sign, Spells, SpellsTerms, Front}

-- the text up to where a term must begin, and the first bytes s of that term
pub record At (os : List OpenBracket) (pre s : List ℕ) : Type 0 where
  pub k : ℕ
  pub p : List ℕ
  pub cut : pre ≡ p ++ s
  pub here : AwaitsTerm (suc k) os p

-- the text up to the end of a term in a bracket
pub record Behind (o : OpenBracket) (os : List OpenBracket) (pre : List ℕ) : Type 0 where
  pub k : ℕ
  pub outer : List ℕ
  pub row : List ℕ
  pub blanks : List ℕ
  pub cut : pre ≡ outer ++ (opening_sign o.square ∷ (row ++ blanks))
  pub here : AwaitsTerm (suc k) os outer
  pub spells : SpellsTerms k row o.terms
  pub are_blanks : AreBlanks blanks

-- the bytes before an opening quote
abbrev pub Lead : QuoteForm → List ℕ → Type 0
Lead form.Binary s = (blanks : List ℕ) × (s ≡ (60 ∷ 60 ∷ []) ++ blanks) × AreBlanks blanks
Lead q s = s ≡ []

-- the form allows n characters
abbrev pub Admitted : QuoteForm → ℕ → List OpenBracket → Type 0
Admitted (form.Atom start) n os = n ≤ 255
Admitted form.String n os = 0 < n → length os ≤ 126
Admitted form.Binary n os = Unit {0}

-- a number after signs, which a fault lets begin with its first digit
abbrev pub IsFramed : Number → Type 0
IsFramed (integer below) = ⊥
IsFramed kind = Unit {0}

-- the offset where a quoted atom began
abbrev pub QuoteStarts : QuoteForm → List ℕ → Type 0
QuoteStarts (form.Atom start) lead = start ≡ length lead
QuoteStarts q lead = Unit {0}

-- what signs lead to
abbrev pub Leads : List ℕ → Expect → Type 0
Leads s (whole t) = (k : ℕ) → Spells (suc k) s t
Leads s (digits kind) = LeadsNumber kind s × IsFramed kind

-- a text that no further byte can belong to
pub record Closed (s : List ℕ) : Type 0 where
  pub some : 0 < length s
  pub no-number : begins (λ b. is_digit b || (b == 45)) s ≡ false
  pub no-name : begins is_lowercase s ≡ false

abbrev pub MeansIn : List ℕ → Mode → List OpenBracket → Type 0
MeansIn pre (wants true) [] = ⊥
MeansIn pre (wants true) (o ∷ os) = (k : ℕ) × AwaitsTerm k (o ∷ os) pre × (o.terms ≡ [])
MeansIn pre (wants false) os = (k : ℕ) × AwaitsTerm k os pre
MeansIn pre (digit kind start) os = (s : List ℕ) × LeadsNumber kind s × (a : At os pre s) × (start ≡ number_start kind (length a.p) (length a.p + length s))
MeansIn pre (number kind start n) os = (s ds : List ℕ) × LeadsNumber kind s × (a : At os pre (s ++ ds)) × SpellsNumber kind ds n × (start ≡ number_start kind (length a.p) (length a.p + length s))
MeansIn pre (name start cs) os = (a : At os pre cs) × IsTrue (begins is_lowercase cs) × IsTrue (list_all is_name cs) × (length cs ≤ 255) × (start ≡ length a.p)
MeansIn pre (in_quotes q cs) os = (s body : List ℕ) × Lead q s × (a : At os pre (s ++ (quote q ∷ body))) × SpellsQuoted (quote q) body cs × Admitted q (length cs) os × QuoteStarts q a.p
MeansIn pre (after_backslash q cs) os = (s body : List ℕ) × Lead q s × (a : At os pre (s ++ (quote q ∷ (body ++ 92 ∷ [])))) × SpellsQuoted (quote q) body cs × Admitted q (length cs + 1) os × QuoteStarts q a.p
MeansIn pre (signs cs goal) os = (s : List ℕ) × At os pre s × Leads (s ++ cs) goal × Closed s
MeansIn pre angle os = At os pre (60 ∷ [])
MeansIn pre opened_binary os = (blanks : List ℕ) × At os pre ((60 ∷ 60 ∷ []) ++ blanks) × AreBlanks blanks
MeansIn pre (wants_byte bs) os = (inner : List ℕ) × At os pre ((60 ∷ 60 ∷ []) ++ inner) × AwaitsByte bs inner
MeansIn pre (after_byte bs) os = (row blanks : List ℕ) × At os pre ((60 ∷ 60 ∷ []) ++ (row ++ blanks)) × SpellsBytes row bs × AreBlanks blanks
MeansIn pre (after_string bs) os = (before body behind : List ℕ) × At os pre ((60 ∷ 60 ∷ []) ++ (before ++ (34 ∷ (body ++ (34 ∷ behind))))) × AreBlanks before × SpellsQuoted 34 body bs × AreBlanks behind
MeansIn pre after [] = ⊥
MeansIn pre after (o ∷ os) = Behind o os pre

abbrev pub Means : List ℕ → Reading → Type 0
Means pre (reads_on mode os) = MeansIn pre mode os
Means pre (found t n) = (rest : List ℕ) → Front (pre ++ rest) t n
Means pre (fails f) = (p : List ℕ) × (b : ℕ) × (pre ≡ p ++ b ∷ []) × FaultMeans p b f

pub record Holds (pre : List ℕ) (s : Reading) : Type 0 where
  pub meaning : Means pre s

pub holds-if : {pre : List ℕ} (b : Bool) (x y : Reading) → (b ≡ true → Holds pre x) → (b ≡ false → Holds pre y) → Holds pre (if b then x else y)
holds-if true x y p q = p refl
holds-if false x y p q = q refl

pub noticed : (pre : List ℕ) (b : ℕ) (f : TextFault) → FaultMeans pre b f → Holds (pre ++ b ∷ []) (fails f)
noticed pre b f h = record { meaning = (pre, b, refl, h) }

pub all-more : (p : ℕ → Bool) (s : List ℕ) (b : ℕ) → list_all p s ≡ true → p b ≡ true → list_all p (s ++ b ∷ []) ≡ true
all-more p [] b h k = both_true k refl
all-more p (c ∷ s) b h k = let q = and_parts (p c) (list_all p s) h in both_true q.0 (all-more p s b q.1 k)

pub begins-more : (p : ℕ → Bool) (s t : List ℕ) → begins p s ≡ true → begins p (s ++ t) ≡ true
begins-more p [] t h = absurd (false≢true h)
begins-more p (c ∷ s) t h = h

abbrev pub at_more : (os : List OpenBracket) (pre s z : List ℕ) (b : ℕ) → At os pre s → s ++ b ∷ [] ≡ z → At os (pre ++ b ∷ []) z
at_more os pre s z b a e = record { k = a.k; p = a.p; cut = ap (λ (w : List ℕ). w ++ b ∷ []) a.cut ∙ append_assoc a.p s (b ∷ []) ∙ ap (λ (w : List ℕ). a.p ++ w) e; here = a.here }

pub blank-more : (s : List ℕ) (b : ℕ) → AreBlanks s → is_blank b ≡ true → AreBlanks (s ++ b ∷ [])
blank-more s b h k = all-more is_blank s b h k

pub here-len : (k : ℕ) (os : List OpenBracket) (p : List ℕ) → AwaitsTerm k os p → length os + k ≡ 128
here-len k [] p h = omega (arith, h.1)
here-len k (o ∷ os) p (outer, inner, e, h, i) = let r = here-len (suc k) os outer h in omega (arith, r)

pub more-len : (at : ℕ) (pre : List ℕ) (b : ℕ) → at ≡ length pre → at + 1 ≡ length (pre ++ b ∷ [])
more-len at pre b e = omega (arith, e, length-append pre (b ∷ []))
