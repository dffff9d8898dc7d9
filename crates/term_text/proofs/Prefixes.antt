-- Each state of the automaton can be completed to a term.
use Rattle.std.proofs.Common.{◌≡◌, refl, ap, ◌∙◌, ◌+◌, ◌-◌, ◌<◌, ◌≤◌, ◌++◌, ◌==◌, ◌||◌, ℕ, List, [], ◌∷◌, length, arith, rules, Bool, true, false, if◌then◌else◌}
use Rattle.ets_term.specs.declared.term.Term.{Term}
use Rattle.ets_term.specs.declared.term.Term.TheVariants.{Int, Atom, Pid, Tid, Binary}
use Rattle.term_text.specs.declared.fault.TextFault.{TextFault}
use Rattle.term_text.specs.declared.quote_form.QuoteForm.{QuoteForm}
use Rattle.term_text.specs.declared.quote_form.QuoteForm.TheVariants as form
use Rattle.term_text.specs.Text.{is_blank, is_digit, is_lowercase, is_name, closes}
use Rattle.term_text.specs.inside.Reader.{OpenBracket, Number, integer, pid, identifier, byte, Expect, whole, digits, Mode, wants, digit, number, name, in_quotes, after_backslash, signs, angle, opened_binary, wants_byte, after_byte, after_string, after, Reading, reads_on, found, fails, with_sign, with_term, bracket, put, expect, next_sign, begin, next_after, next_unless_found, next_in_bracket, next_after_byte, next_after_number, next_digit, quote, after_quote, admits, next, take_byte, read_from, reading}
use Rattle.term_text.specs.Prefixes.{state, so_far, HasNoFault, CanReachTerm}
use Rattle.term_text.proofs.Offsets.{if-true, if-false, read-fails}
use Rattle.term_text.proofs.FirstBytes.{begin-digit}

-- the number of open brackets that a mode needs
abbrev InMode : Mode → List OpenBracket → Type 0
InMode (wants true) os = (0 < length os) × (length os ≤ 128)
InMode (signs [] goal) os = ⊥
InMode after os = (0 < length os) × (length os ≤ 127)
InMode mode os = length os ≤ 127

abbrev pub InLevels : Reading → Type 0
InLevels (reads_on mode os) = InMode mode os
InLevels (found t n) = Unit {0}
InLevels (fails f) = Unit {0}

levels-if : (b : Bool) (x y : Reading) → (b ≡ true → InLevels x) → (b ≡ false → InLevels y) → InLevels (if b then x else y)
levels-if true x y p q = p refl
levels-if false x y p q = q refl

put-in : (os : List OpenBracket) (t : Term) (n : ℕ) → length os ≤ 127 → InLevels (put os t n)
put-in [] t n h = tt
put-in (o ∷ os) t n h = (omega arith, h)

expect-in : (n : ℕ) (cs : List ℕ) (goal : Expect) (os : List OpenBracket) → length os ≤ 127 → InLevels (expect n cs goal os)
expect-in n [] (whole t) os h = put-in os t n h
expect-in n [] (digits kind) os h = h
expect-in n (c ∷ cs) goal os h = h

sign-in : (at : ℕ) (cs : List ℕ) (goal : Expect) (os : List OpenBracket) (b : ℕ) → length os ≤ 127 → InLevels (next_sign at cs goal os b)
sign-in at [] goal os b h = tt
sign-in at (c ∷ cs) goal os b h = search (arith, rules, levels-if, expect-in) depth 8

begin-in : (at : ℕ) (os : List OpenBracket) (b : ℕ) → InLevels (begin at os b)
unfolding begin
begin-in at os b = search (arith, rules, levels-if) depth 16

after-in : (at : ℕ) (os : List OpenBracket) (b : ℕ) → 0 < length os → length os ≤ 127 → InLevels (next_after at os b)
after-in at [] b h k = tt
after-in at (o ∷ os) b h k = search (arith, rules, levels-if, put-in) depth 8

unless-found-in : (at : ℕ) (os : List OpenBracket) (t : Term) (b : ℕ) → length os ≤ 127 → InLevels (next_unless_found at (put os t at) b)
unless-found-in at [] t b h = tt
unless-found-in at (o ∷ os) t b h = after-in at (with_term o t ∷ os) b (omega arith) h

opened-in : (at : ℕ) (os : List OpenBracket) (b : ℕ) → length os ≤ 128 → InLevels (next_in_bracket at os b)
opened-in at [] b h = begin-in at [] b
opened-in at (o ∷ os) b h = search (arith, rules, levels-if, put-in, begin-in) depth 8

byte-in : (at : ℕ) (bs : List ℕ) (os : List OpenBracket) (b : ℕ) → length os ≤ 127 → InLevels (next_after_byte at bs os b)
byte-in at bs os b h = search (arith, rules, levels-if, sign-in) depth 8

number-in : (at : ℕ) (kind : Number) (n : ℕ) (os : List OpenBracket) (b : ℕ) → length os ≤ 127 → InLevels (next_after_number at kind n os b)
number-in at (integer below) n os b h = unless-found-in at os (Int (with_sign below n)) b h
number-in at pid n os b h = sign-in at (46 ∷ 48 ∷ 62 ∷ []) (whole (Pid n)) os b h
number-in at identifier n os b h = sign-in at (62 ∷ []) (whole (Tid n)) os b h
number-in at (byte bs) n os b h = byte-in at (bs ++ n ∷ []) os b h

after_quote-in : (n : ℕ) (q : QuoteForm) (cs : List ℕ) (os : List OpenBracket) → length os ≤ 127 → InLevels (after_quote n q cs os)
after_quote-in n (form.Atom start) cs os h = put-in os (Atom cs) n h
after_quote-in n form.String cs os h = put-in os _ n h
after_quote-in n form.Binary cs os h = h

admits-in : (at : ℕ) (q : QuoteForm) (n : ℕ) (os : List OpenBracket) (s : Reading) → InLevels s → InLevels (admits at q n os s)
admits-in at (form.Atom start) n os s h = search (arith, rules, levels-if) depth 8
admits-in at form.String n os s h = search (arith, rules, levels-if) depth 8
admits-in at form.Binary n os s h = h

digit_in : (at : ℕ) (kind : Number) (start : ℕ) (os : List OpenBracket) (b : ℕ) → length os ≤ 127 → InLevels (next_digit at kind start os b)
digit_in at kind start os b h = search (arith, rules, levels-if) depth 8

next-in : (at : ℕ) (mode : Mode) (os : List OpenBracket) (b : ℕ) → InMode mode os → InLevels (next at mode os b)
next-in at (wants true) os b h = search (arith, rules, levels-if, opened-in, h.0, h.1) depth 9
next-in at (wants false) os b h = search (arith, rules, levels-if, begin-in) depth 9
next-in at (digit kind start) os b h = digit_in at kind start os b h
next-in at (number kind start n) os b h = search (arith, rules, levels-if, number-in) depth 9
next-in at (name start cs) os b h = search (arith, rules, levels-if, unless-found-in) depth 9
next-in at (in_quotes q cs) os b h = search (arith, rules, levels-if, after_quote-in, admits-in) depth 9
next-in at (after_backslash q cs) os b h = search (arith, rules, levels-if) depth 9
next-in at (signs [] goal) os b h = absurd h
next-in at (signs (c ∷ cs) goal) os b h = sign-in at (c ∷ cs) goal os b h
next-in at angle os b h = search (arith, rules, levels-if) depth 9
next-in at opened_binary os b h = search (arith, rules, levels-if, sign-in) depth 9
next-in at (wants_byte bs) os b h = search (arith, rules, levels-if, digit_in) depth 9
next-in at (after_byte bs) os b h = byte-in at bs os b h
next-in at (after_string bs) os b h = search (arith, rules, levels-if, sign-in) depth 9
next-in at after os b h = after-in at os b h.0 h.1

step-in : (at : ℕ) (s : Reading) (b : ℕ) → InLevels s → InLevels (take_byte at s b)
step-in at (reads_on mode os) b h = next-in at mode os b h
step-in at (found t n) b h = tt
step-in at (fails f) b h = tt

pub state-in : (at : ℕ) (s : Reading) (bs : List ℕ) → InLevels s → InLevels (state at s bs)
state-in at s [] h = h
state-in at s (b ∷ bs) h = state-in (at + 1) (take_byte at s b) bs (step-in at s b h)

-- some bytes complete it to a term
abbrev pub CanEnd : ℕ → Reading → Type 0
CanEnd at s = (more : List ℕ) × (t : Term) × (n : ℕ) × (read_from at s more ≡ found t n)

ends-by : (at : ℕ) (s z : Reading) (b : ℕ) → take_byte at s b ≡ z → CanEnd (at + 1) z → CanEnd at s
ends-by at s z b e r = (b ∷ r.0, r.1, r.2, ap (λ (x : Reading). read_from (at + 1) x r.0) e ∙ r.3)

closer : Bool → ℕ
closer true = 93
closer false = 125

closes-closer : (square : Bool) → closes square (closer square) ≡ true
unfolding closes closer
closes-closer true = refl
closes-closer false = refl

not-digit : (square : Bool) → is_digit (closer square) ≡ false
unfolding is_digit closer
not-digit true = refl
not-digit false = refl

not-name : (square : Bool) → is_name (closer square) ≡ false
unfolding is_name is_lowercase is_digit closer
not-name true = refl
not-name false = refl

not-blank : (square : Bool) → is_blank (closer square) ≡ false
unfolding is_blank closer
not-blank true = refl
not-blank false = refl

-- after a term the closing signs of all open brackets lead to the end
finish : (os : List OpenBracket) (t : Term) (at n : ℕ) → CanEnd at (put os t n)
finish [] t at n = ([], t, n, refl)
finish (o ∷ os) t at n = ends-by at (reads_on after (with_term o t ∷ os)) (put os (bracket (with_term o t)) (at + 1)) (closer o.square) (if-true _ _ _ (closes-closer o.square)) (finish os (bracket (with_term o t)) (at + 1) (at + 1))

same : (n : ℕ) → (n == n) ≡ true
same n = search (arith, rules)

signs-end : (at : ℕ) (cs : List ℕ) (t : Term) (os : List OpenBracket) → CanEnd at (expect at cs (whole t) os)
signs-end at [] t os = finish os t at at
signs-end at (c ∷ cs) t os = ends-by at (reads_on (signs (c ∷ cs) (whole t)) os) (expect (at + 1) cs (whole t) os) c (if-true _ _ _ (same c)) (signs-end (at + 1) cs t os)

dot-digit : is_digit 46 ≡ false
unfolding is_digit
dot-digit = refl

angle-digit : is_digit 62 ≡ false
unfolding is_digit
angle-digit = refl

angle-blank : is_blank 62 ≡ false
unfolding is_blank
angle-blank = refl

zero-digit : is_digit 48 ≡ true
unfolding is_digit
zero-digit = refl

zero-blank : is_blank 48 ≡ false
unfolding is_blank
zero-blank = refl

byte-ends : (at : ℕ) (bs : List ℕ) (os : List OpenBracket) → CanEnd at (reads_on (after_byte bs) os)
byte-ends at bs os = ends-by at (reads_on (after_byte bs) os) (expect (at + 1) (62 ∷ []) (whole (Binary bs)) os) 62 (if-false _ _ _ angle-blank) (signs-end (at + 1) (62 ∷ []) (Binary bs) os)

number-ends : (at start : ℕ) (kind : Number) (n : ℕ) (os : List OpenBracket) → CanEnd at (reads_on (number kind start n) os)
number-ends at start (integer below) n [] = ([], Int (with_sign below n), at, refl)
number-ends at start (integer below) n (o ∷ os) =
    let t : Term = Int (with_sign below n) in
    ends-by at (reads_on (number (integer below) start n) (o ∷ os)) (put os (bracket (with_term o t)) (at + 1)) (closer o.square) (if-false _ _ _ (not-digit o.square) ∙ if-true _ _ _ (closes-closer o.square)) (finish os (bracket (with_term o t)) (at + 1) (at + 1))
number-ends at start pid n os = ends-by at (reads_on (number pid start n) os) (expect (at + 1) (48 ∷ 62 ∷ []) (whole (Pid n)) os) 46 (if-false _ _ _ dot-digit) (signs-end (at + 1) (48 ∷ 62 ∷ []) (Pid n) os)
number-ends at start identifier n os = ends-by at (reads_on (number identifier start n) os) (expect (at + 1) [] (whole (Tid n)) os) 62 (if-false _ _ _ angle-digit) (signs-end (at + 1) [] (Tid n) os)
number-ends at start (byte bs) n os = ends-by at (reads_on (number (byte bs) start n) os) (expect (at + 1) (62 ∷ []) (whole (Binary (bs ++ n ∷ []))) os) 62 (if-false _ _ _ angle-digit ∙ if-false _ _ _ angle-blank) (signs-end (at + 1) (62 ∷ []) (Binary (bs ++ n ∷ [])) os)

digit-ends : (at start : ℕ) (kind : Number) (os : List OpenBracket) → CanEnd at (reads_on (digit kind start) os)
digit-ends at start kind os = ends-by at (reads_on (digit kind start) os) (reads_on (number kind start 0) os) 48 (if-true _ _ _ zero-digit) (number-ends (at + 1) start kind 0 os)

goal-ends : (at : ℕ) (cs : List ℕ) (goal : Expect) (os : List OpenBracket) → CanEnd at (expect at cs goal os)
goal-ends at [] (whole t) os = finish os t at at
goal-ends at [] (digits kind) os = digit-ends at at kind os
goal-ends at (c ∷ cs) goal os = ends-by at (reads_on (signs (c ∷ cs) goal) os) (expect (at + 1) cs goal os) c (if-true _ _ _ (same c)) (goal-ends (at + 1) cs goal os)

name-ends : (at start : ℕ) (cs : List ℕ) (os : List OpenBracket) → CanEnd at (reads_on (name start cs) os)
name-ends at start cs [] = ([], Atom cs, at, refl)
name-ends at start cs (o ∷ os) =
    ends-by at (reads_on (name start cs) (o ∷ os)) (put os (bracket (with_term o (Atom cs))) (at + 1)) (closer o.square) (if-false _ _ _ (not-name o.square) ∙ if-true _ _ _ (closes-closer o.square)) (finish os (bracket (with_term o (Atom cs))) (at + 1) (at + 1))

string_ends : (at : ℕ) (bs : List ℕ) (os : List OpenBracket) → CanEnd at (reads_on (after_string bs) os)
string_ends at bs os = ends-by at (reads_on (after_string bs) os) (expect (at + 1) (62 ∷ []) (whole (Binary bs)) os) 62 (if-false _ _ _ angle-blank) (signs-end (at + 1) (62 ∷ []) (Binary bs) os)

after_quote-ends : (at n : ℕ) (q : QuoteForm) (cs : List ℕ) (os : List OpenBracket) → CanEnd at (after_quote n q cs os)
after_quote-ends at n (form.Atom start) cs os = finish os (Atom cs) at n
after_quote-ends at n form.String cs os = finish os _ at n
after_quote-ends at n form.Binary cs os = string_ends at cs os

quoted-ends : (at : ℕ) (q : QuoteForm) (cs : List ℕ) (os : List OpenBracket) → CanEnd at (reads_on (in_quotes q cs) os)
quoted-ends at q cs os = ends-by at (reads_on (in_quotes q cs) os) (after_quote (at + 1) q cs os) (quote q) (if-true _ _ _ (same (quote q))) (after_quote-ends (at + 1) (at + 1) q cs os)

or-true : (a : Bool) → (a || true) ≡ true
or-true true = refl
or-true false = refl

begin-zero : (at : ℕ) (os : List OpenBracket) → length os ≤ 127 → next at (wants false) os 48 ≡ reads_on (number (integer false) at (48 - 48)) os
begin-zero at os h = if-false _ _ _ zero-blank ∙ begin-digit at os 48 (omega arith) zero-digit

mode-ends : (at : ℕ) (mode : Mode) (os : List OpenBracket) → InMode mode os → CanEnd at (reads_on mode os)
mode-ends at (wants true) [] h = absurd (omega (arith, h.0))
mode-ends at (wants true) (o ∷ os) h = ends-by at (reads_on (wants true) (o ∷ os)) (put os (bracket o) (at + 1)) (closer o.square) (if-false _ _ _ (not-blank o.square) ∙ if-true _ _ _ (closes-closer o.square)) (finish os (bracket o) (at + 1) (at + 1))
mode-ends at (wants false) os h = ends-by at (reads_on (wants false) os) (reads_on (number (integer false) at (48 - 48)) os) 48 (begin-zero at os h) (number-ends (at + 1) at (integer false) (48 - 48) os)
mode-ends at (digit kind start) os h = digit-ends at start kind os
mode-ends at (number kind start n) os h = number-ends at start kind n os
mode-ends at (name start cs) os h = name-ends at start cs os
mode-ends at (in_quotes q cs) os h = quoted-ends at q cs os
mode-ends at (after_backslash q cs) os h = ends-by at (reads_on (after_backslash q cs) os) (reads_on (in_quotes q (cs ++ 92 ∷ [])) os) 92 (if-true _ _ _ (or-true (92 == quote q))) (quoted-ends (at + 1) q (cs ++ 92 ∷ []) os)
mode-ends at (signs [] goal) os h = absurd h
mode-ends at (signs (c ∷ cs) goal) os h = goal-ends at (c ∷ cs) goal os
mode-ends at angle os h = ends-by at (reads_on angle os) (reads_on opened_binary os) 60 refl (ends-by (at + 1) (reads_on opened_binary os) (expect (at + 1 + 1) (62 ∷ []) (whole (Binary [])) os) 62 (if-false _ _ _ angle-blank ∙ if-false _ _ _ angle-digit) (signs-end (at + 1 + 1) (62 ∷ []) (Binary []) os))
mode-ends at opened_binary os h = ends-by at (reads_on opened_binary os) (expect (at + 1) (62 ∷ []) (whole (Binary [])) os) 62 (if-false _ _ _ angle-blank ∙ if-false _ _ _ angle-digit) (signs-end (at + 1) (62 ∷ []) (Binary []) os)
mode-ends at (wants_byte bs) os h = ends-by at (reads_on (wants_byte bs) os) (reads_on (number (byte bs) at (48 - 48)) os) 48 (if-false _ _ _ zero-blank ∙ if-true _ _ _ zero-digit) (number-ends (at + 1) at (byte bs) (48 - 48) os)
mode-ends at (after_byte bs) os h = byte-ends at bs os
mode-ends at (after_string bs) os h = string_ends at bs os
mode-ends at after [] h = absurd (omega (arith, h.0))
mode-ends at after (o ∷ os) h = ends-by at (reads_on after (o ∷ os)) (put os (bracket o) (at + 1)) (closer o.square) (if-true _ _ _ (closes-closer o.square)) (finish os (bracket o) (at + 1) (at + 1))

pub can-end : (at : ℕ) (s : Reading) → InLevels s → HasNoFault s → CanEnd at s
can-end at (reads_on mode os) h k = mode-ends at mode os h
can-end at (found t n) h k = ([], t, n, refl)
can-end at (fails f) h k = absurd k

-- a run over a text is a run from the state after its first bytes
pub read-append : (at : ℕ) (s : Reading) (bs more : List ℕ) → read_from at s (bs ++ more) ≡ read_from (at + length bs) (state at s bs) more
read-append at s [] more = ap (λ (k : ℕ). read_from k s more) (omega arith)
read-append at s (b ∷ bs) more = read-append (at + 1) (take_byte at s b) bs more ∙ ap (λ (k : ℕ). read_from k (state (at + 1) (take_byte at s b) bs) more) (omega arith)

-- up to a fault the text can be completed to a term
pub goes-on : (bs : List ℕ) → HasNoFault (so_far bs) → CanReachTerm bs
goes-on bs h = let r = can-end (0 + length bs) (so_far bs) (state-in 0 (reads_on (wants false) []) bs (omega arith)) h in (r.0, r.1, r.2, read-append 0 (reads_on (wants false) []) bs r.0 ∙ r.3)

-- from the fault on it cannot
pub stuck : (bs : List ℕ) (f : TextFault) (more : List ℕ) → so_far bs ≡ fails f → reading (bs ++ more) ≡ fails f
stuck bs f more e = read-append 0 (reads_on (wants false) []) bs more ∙ ap (λ (s : Reading). read_from (0 + length bs) s more) e ∙ read-fails (0 + length bs) f more
