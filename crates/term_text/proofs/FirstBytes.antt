-- The first byte of a term, and the byte after a term in a bracket.
use Rattle.std.proofs.Common.{◌≡◌, refl, ap, sym, subst, ◌∙◌, ◌+◌, ◌-◌, ◌<◌, ◌≤◌, ◌==◌, ◌||◌, ℕ, List, [], ◌∷◌, length, drop, get_or, arith, Bool, true, false, nat_le, Result}
use Rattle.std.proofs.lemmas.Bool.{lt-leb, true≢false}
use Rattle.std.proofs.lemmas.Bool.Decides.{nat_tests}
use Rattle.ets_term.specs.declared.term.Term.{Term}
use Rattle.term_text.specs.declared.fault.TextFault.{TextFault}
use Rattle.term_text.specs.declared.fault.TextFault.TheVariants.{Unexpected, Unclosed, TooDeep}
use Rattle.term_text.specs.declared.quote_form.QuoteForm.TheVariants as form
use Rattle.term_text.specs.inside.Reader.{OpenBracket, integer, identifier, digits, wants, digit, number, name, in_quotes, signs, angle, after, Reading, reads_on, fails, open_bracket, bracket, put, begin, read_from}
use Rattle.term_text.specs.inside.Parts.{Reaches, ReadsTerm}
use Rattle.term_text.specs.Text.{is_blank, is_digit, is_lowercase, begins, begins_term, closes}
use Rattle.term_text.proofs.Offsets.{if-true, if-false, read-fails, read-at, fails-at, ends-at, begins_at, nat-le-true}

pub begin-unexpected : (at : ℕ) (os : List OpenBracket) (b : ℕ) → begins_term b ≡ false → begin at os b ≡ fails (Unexpected at)
unfolding begin
begin-unexpected at os b h = if-false _ _ _ h

pub begin-out-of-levels : (at : ℕ) (os : List OpenBracket) (b : ℕ) → begins_term b ≡ true → 128 ≤ length os → begin at os b ≡ fails (TooDeep at)
unfolding begin
begin-out-of-levels at os b h k = if-true _ _ _ h ∙ if-true _ _ _ (nat-le-true 128 (length os) k)

pub begin-brace : (at : ℕ) (os : List OpenBracket) → length os < 128 → begin at os 123 ≡ reads_on (wants true) (open_bracket false ∷ os)
unfolding begin begins_term is_lowercase is_digit
begin-brace at os h = rw (lt-leb 128 (length os) h) refl

pub begin-square : (at : ℕ) (os : List OpenBracket) → length os < 128 → begin at os 91 ≡ reads_on (wants true) (open_bracket true ∷ os)
unfolding begin begins_term is_lowercase is_digit
begin-square at os h = rw (lt-leb 128 (length os) h) refl

pub begin-minus : (at : ℕ) (os : List OpenBracket) → length os < 128 → begin at os 45 ≡ reads_on (digit (integer true) at) os
unfolding begin begins_term is_lowercase is_digit
begin-minus at os h = rw (lt-leb 128 (length os) h) refl

pub begin-quoted : (at : ℕ) (os : List OpenBracket) → length os < 128 → begin at os 39 ≡ reads_on (in_quotes (form.Atom at) []) os
unfolding begin begins_term is_lowercase is_digit
begin-quoted at os h = rw (lt-leb 128 (length os) h) refl

pub begin-string : (at : ℕ) (os : List OpenBracket) → length os < 128 → begin at os 34 ≡ reads_on (in_quotes form.String []) os
unfolding begin begins_term is_lowercase is_digit
begin-string at os h = rw (lt-leb 128 (length os) h) refl

pub begin-angle : (at : ℕ) (os : List OpenBracket) → length os < 128 → begin at os 60 ≡ reads_on angle os
unfolding begin begins_term is_lowercase is_digit
begin-angle at os h = rw (lt-leb 128 (length os) h) refl

pub begin-identifier : (at : ℕ) (os : List OpenBracket) → length os < 128 → begin at os 35 ≡ reads_on (signs (84 ∷ 105 ∷ 100 ∷ 60 ∷ []) (digits identifier)) os
unfolding begin begins_term is_lowercase is_digit
begin-identifier at os h = rw (lt-leb 128 (length os) h) refl

pub begin-digit : (at : ℕ) (os : List OpenBracket) (b : ℕ) → length os < 128 → is_digit b ≡ true → begin at os b ≡ reads_on (number (integer false) at (b - 48)) os
unfolding begin begins_term is_lowercase is_digit
begin-digit at os b k h = grind arith

pub begin-name : (at : ℕ) (os : List OpenBracket) (b : ℕ) → length os < 128 → is_lowercase b ≡ true → begin at os b ≡ reads_on (name at (b ∷ [])) os
unfolding begin begins_term is_lowercase is_digit
begin-name at os b k h = grind arith

either : (a b : Bool) → a ≡ false → b ≡ false → (a || b) ≡ false
either true b h k = h
either false b h k = k

last-of : (a b : Bool) → a ≡ false → (a || b) ≡ true → b ≡ true
last-of true b h k = absurd (true≢false h)
last-of false b h k = k

-- what else a term can begin with
pub begins-small : (b : ℕ) → begins_term b ≡ true → (b == 123) ≡ false → (b == 91) ≡ false → (b == 45) ≡ false → (b == 39) ≡ false → (b == 34) ≡ false → (b == 60) ≡ false → (b == 35) ≡ false → is_digit b ≡ false → is_lowercase b ≡ true
unfolding begins_term
begins-small b h b1 b2 b3 b4 b5 b6 b7 d = last-of _ (is_lowercase b) (either _ _ (either _ _ (either _ _ (either _ _ (either _ _ (either _ _ (either _ _ b1 b2) b3) b4) b5) b6) b7) d) h

pub begun : (text : List ℕ) (at : ℕ) (os : List OpenBracket) (b : ℕ) (z : Reading) (r : Result (Term × ℕ) TextFault) → begin at os b ≡ z → ReadsTerm text (at + 1) z os r → ReadsTerm text (at + 1) (begin at os b) os r
begun text at os b z r e h = let P : Reading → Type 0 = λ s. ReadsTerm text (at + 1) s os r in subst P (sym e) h

pub out-of-levels-room : (k r : ℕ) → k + r ≡ 128 → (r ≡ 0 → ⊥) → (r == 1) ≡ nat_le 127 k
out-of-levels-room k r e h = grind (arith, nat_tests)

here : (p : ℕ → Bool) (v : Bool) (text : List ℕ) (offset : ℕ) → offset < length text → begins p (drop offset text) ≡ v → p (get_or text offset 0) ≡ v
here p v text offset h e = sym (begins_at p text offset h) ∙ e

-- a byte that is not blank begins the expected term
pub wants-begin : (text : List ℕ) (at : ℕ) (os : List OpenBracket) → at < length text → begins is_blank (drop at text) ≡ false
    → Reaches text at (reads_on (wants false) os) (at + 1) (begin at os (get_or text at 0))
wants-begin text at os h e = read-at text at _ _ h (if-false _ _ _ (here is_blank false text at h e))

-- after a term in a bracket
pub after-closes : (text : List ℕ) (at : ℕ) (o : OpenBracket) (os : List OpenBracket) → at < length text → closes o.square (get_or text at 0) ≡ true
    → Reaches text at (reads_on after (o ∷ os)) (at + 1) (put os (bracket o) (at + 1))
after-closes text at o os h e = read-at text at _ _ h (if-true _ _ _ e)

pub after-comma : (text : List ℕ) (at : ℕ) (o : OpenBracket) (os : List OpenBracket) → at < length text → begins is_blank (drop at text) ≡ false → closes o.square (get_or text at 0) ≡ false → (get_or text at 0 == 44) ≡ true
    → Reaches text at (reads_on after (o ∷ os)) (at + 1) (reads_on (wants false) (o ∷ os))
after-comma text at o os h e k m = read-at text at _ _ h (if-false _ _ _ k ∙ if-false _ _ _ (here is_blank false text at h e) ∙ if-true _ _ _ m)

pub after-fails : (text : List ℕ) (at : ℕ) (o : OpenBracket) (os : List OpenBracket) → at < length text → begins is_blank (drop at text) ≡ false → closes o.square (get_or text at 0) ≡ false → (get_or text at 0 == 44) ≡ false
    → read_from at (reads_on after (o ∷ os)) (drop at text) ≡ fails (Unexpected at)
after-fails text at o os h e k m = fails-at text at _ (Unexpected at) h (if-false _ _ _ k ∙ if-false _ _ _ (here is_blank false text at h e) ∙ if-false _ _ _ m)

pub after-ends : (text : List ℕ) (at : ℕ) (o : OpenBracket) (os : List OpenBracket) → length text ≤ at → read_from at (reads_on after (o ∷ os)) (drop at text) ≡ fails (Unclosed at)
after-ends text at o os h = ends-at text at _ h

pub begins-fault : (text : List ℕ) (at : ℕ) (os : List OpenBracket) (b : ℕ) (f : TextFault) → begin at os b ≡ fails f → read_from (at + 1) (begin at os b) (drop (at + 1) text) ≡ fails f
begins-fault text at os b f e = ap (λ (s : Reading). read_from (at + 1) s (drop (at + 1) text)) e ∙ read-fails (at + 1) f (drop (at + 1) text)
