-- The automaton reads each spelling of an integer, unquoted atom, pid or identifier.
use Rattle.std.proofs.Common.{ℕ, ◌≡◌, refl, ap, sym, ◌∙◌, ◌+◌, ◌-◌, ◌<◌, ◌≤◌, ◌++◌, ◌==◌, ◌||◌, List, [], ◌∷◌, length, take, drop, arith, Bool, true, false, append_assoc, length-append}
use Rattle.std.proofs.lemmas.Bool.{false≢true, and_parts}
use Rattle.std.proofs.Math.Seq.{drop-append_seam, take-append_seam}
use Rattle.std.specs.List.{list_all, prefix_len}
use Rattle.ets_term.specs.declared.term.Term.{Term}
use Rattle.ets_term.specs.declared.term.Term.TheVariants.{Atom}
use Rattle.term_text.specs.inside.Parts.{after_digits}
use Rattle.term_text.specs.Text.{is_digit, is_lowercase, is_name, begins_term, begins}
use Rattle.term_text.specs.inside.Reader.{OpenBracket, Number, integer, whole, wants, digit, number, name, Reading, reads_on, put, expect, begin, read_from}
use Rattle.term_text.specs.Grammar.{SpellsNumber, Ends}
use Rattle.term_text.proofs.FirstBytes.{begin-digit, begin-name}
use Rattle.term_text.proofs.Names.{read-name, name-after}
use Rattle.term_text.proofs.Offsets.{if-true, if-false}
use Rattle.term_text.proofs.Signs.{digit-begins, no-blank, no-closing, no-name-no-digit, small-begins}
use Rattle.term_text.proofs.SpelledParts.{byte-taken, number-text, prefix-all, signs-text}

pub wants-first : (at : ℕ) (opened : Bool) (os : List OpenBracket) (b : ℕ) (z : Reading) (rest : List ℕ) → begins_term b ≡ true → begin at os b ≡ z → read_from at (reads_on (wants opened) os) (b ∷ rest) ≡ read_from (at + 1) z rest
wants-first at false os b z rest h e = byte-taken at (reads_on (wants false) os) z b rest (if-false _ _ _ (no-blank b h) ∙ e)
wants-first at true [] b z rest h e = byte-taken at (reads_on (wants true) []) z b rest (if-false _ _ _ (no-blank b h) ∙ e)
wants-first at true (o ∷ os) b z rest h e = byte-taken at (reads_on (wants true) (o ∷ os)) z b rest (if-false _ _ _ (no-blank b h) ∙ if-false _ _ _ (no-closing o.square b h) ∙ e)

pub digits-wanted : (at : ℕ) (opened : Bool) (os : List OpenBracket) (s rest : List ℕ) → length os < 128 → begins is_digit s ≡ true → read_from at (reads_on (wants opened) os) (s ++ rest) ≡ read_from at (reads_on (digit (integer false) at) os) (s ++ rest)
digits-wanted at opened os [] rest room h = absurd (false≢true h)
digits-wanted at opened os (b ∷ s) rest room h =
    wants-first at opened os b (reads_on (number (integer false) at (b - 48)) os) (s ++ rest) (digit-begins b h) (begin-digit at os b room h)
    ∙ sym (byte-taken at (reads_on (digit (integer false) at) os) (reads_on (number (integer false) at (b - 48)) os) b (s ++ rest) (if-true _ _ _ h))

name-same-end : (os : List OpenBracket) (m n : ℕ) (cs ds xs ys : List ℕ) → m ≡ n → cs ≡ ds → xs ≡ ys → read_from m (put os (Atom cs) m) xs ≡ read_from n (put os (Atom ds) n) ys
name-same-end os m n cs ds xs ys e f g = cc

pub name-text : (at : ℕ) (opened : Bool) (os : List OpenBracket) (s rest : List ℕ) (fin : ℕ) → length os < 128 → begins is_lowercase s ≡ true → list_all is_name s ≡ true → length s ≤ 255 → begins is_name rest ≡ false → fin ≡ at + length s
    → read_from at (reads_on (wants opened) os) (s ++ rest) ≡ read_from fin (put os (Atom s) fin) rest
name-text at opened os [] rest fin room h names few k e = absurd (false≢true h)
name-text at opened os (b ∷ s) rest fin room h names few k e =
    let others = (and_parts (is_name b) (list_all is_name s) names).1 in
    let c = prefix-all is_name s rest others k in
    let dropped : drop (prefix_len is_name (s ++ rest)) (s ++ rest) ≡ rest = ap (λ (m : ℕ). drop m (s ++ rest)) c ∙ drop-append_seam s rest in
    let taken : b ∷ take (prefix_len is_name (s ++ rest)) (s ++ rest) ≡ b ∷ s = ap (λ (w : List ℕ). b ∷ w) (ap (λ (m : ℕ). take m (s ++ rest)) c ∙ take-append_seam s rest) in
    wants-first at opened os b (reads_on (name at (b ∷ [])) os) (s ++ rest) (small-begins b h) (begin-name at os b room h)
    ∙ read-name (at + 1) at (b ∷ []) os (s ++ rest) (omega (arith, c, few))
    ∙ name-after (at + 1 + prefix_len is_name (s ++ rest)) at (b ∷ take (prefix_len is_name (s ++ rest)) (s ++ rest)) os (drop (prefix_len is_name (s ++ rest)) (s ++ rest)) (ap (begins is_name) dropped ∙ k)
    ∙ name-same-end os _ fin _ (b ∷ s) _ rest (omega (arith, c, e)) taken dropped

or-left : (a b : Bool) → a ≡ true → (a || b) ≡ true
or-left true b h = refl
or-left false b h = absurd (false≢true h)

pub or-right : (a : Bool) → (a || true) ≡ true
or-right true = refl
or-right false = refl

pub digits-are-number : (s : List ℕ) → begins is_digit s ≡ true → begins (λ b. is_digit b || (b == 45)) s ≡ true
digits-are-number [] h = h
digits-are-number (b ∷ s) h = or-left (is_digit b) (b == 45) h

pub no-name-ends : (s rest : List ℕ) → begins is_name rest ≡ false → Ends s rest
no-name-ends s [] h = (λ e. refl, λ e. refl)
no-name-ends s (b ∷ rest) h = (λ e. no-name-no-digit b h, λ e. h)

-- a pid and an identifier
pub framed-text : (at : ℕ) (kind : Number) (t : Term) (back s rest : List ℕ) (n : ℕ) (os : List OpenBracket) (fin : ℕ) → SpellsNumber kind s n → begins is_digit (back ++ rest) ≡ false
    → ((m : ℕ) → after_digits m kind n os ≡ expect m back (whole t) os) → fin ≡ at + length (s ++ back)
    → read_from at (reads_on (digit kind at) os) ((s ++ back) ++ rest) ≡ read_from fin (put os t fin) rest
framed-text at kind t back s rest n os fin num stop is e =
    ap (λ (w : List ℕ). read_from at (reads_on (digit kind at) os) w) (append_assoc s back rest)
    ∙ number-text at at kind os s (back ++ rest) n (at + length s) num stop refl
    ∙ ap (λ (z : Reading). read_from (at + length s) z (back ++ rest)) (is (at + length s))
    ∙ signs-text (at + length s) back (whole t) os rest fin (omega (arith, e, length-append s back))
