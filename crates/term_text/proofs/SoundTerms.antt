-- A complete term, the byte that ends it, and signs that must follow.
use Rattle.std.proofs.lemmas.Bool.{false≢true}
use Rattle.std.proofs.Common.{ℕ, ◌≡◌, refl, ap, sym, subst, ◌∙◌, ◌+◌, ◌++◌, ◌==◌, ◌||◌, suc, List, [], ◌∷◌, length, arith, Bool, true, false, append_assoc, length-append}
use Rattle.std.proofs.lemmas.List.{append-nil}
use Rattle.ets_term.specs.declared.term.Term.{Term}
use Rattle.term_text.specs.declared.fault.TextFault.TheVariants.{Unexpected}
use Rattle.term_text.specs.Text.{is_blank, is_digit, is_lowercase, closes}
use Rattle.term_text.specs.inside.Reader.{OpenBracket, Number, integer, pid, identifier, byte, Expect, whole, digits, with_term, bracket, put, expect, next_sign, next_after, next_unless_found}
use Rattle.term_text.specs.Faults.{AwaitsItem, fresh, further, LeadsNumber, number_start}
use Rattle.term_text.specs.Grammar.{AreBlanks, opening_sign, closing_sign, Spells, SpellsTerms, Ends, Front, full_bracket, first_term, more_terms}
use Rattle.term_text.proofs.Meaning.{At, Behind, Closed, Holds, IsFramed, Leads, at_more, blank-more, holds-if, more-len, noticed}
use Rattle.term_text.proofs.Signs.{close-is, is-byte}

-- a byte that begins no integer and no unquoted atom
closed-by : (c : ℕ) (s rest : List ℕ) → (is_digit c || (c == 45)) ≡ false → is_lowercase c ≡ false → Ends (c ∷ s) rest
closed-by c s rest h k = (λ e. absurd (false≢true (sym h ∙ e)), λ e. absurd (false≢true (sym k ∙ e)))

pub front-of : (pre p s : List ℕ) (t : Term) (n : ℕ) (rest : List ℕ) → pre ≡ p ++ s → AreBlanks p → Spells 128 s t → n ≡ length pre → Ends s rest → Front (pre ++ rest) t n
front-of pre p s t n rest e h sp len ends = record {
  blanks = p;
  spelling = s;
  rest = rest;
  whole = ap (λ (w : List ℕ). w ++ rest) e ∙ append_assoc p s rest;
  taken = len ∙ ap length e;
  are_blanks = h;
  spells = sp;
  ends = ends;
}

-- a term is complete
inside-with : (k : ℕ) (ts : List Term) (inner s : List ℕ) (t : Term) → AwaitsItem k ts inner → Spells k s t → SpellsTerms k (inner ++ s) (ts ++ t ∷ [])
inside-with k ts inner s t (fresh blanks h) sp = first_term k blanks s t h sp
inside-with k ts inner s t (further us row before behind r h i) sp =
    let P : List ℕ → Type 0 = λ w. SpellsTerms k w (ts ++ t ∷ []) in
    subst P (sym (append_assoc row (before ++ 44 ∷ behind) s ∙ ap (λ (w : List ℕ). row ++ w) (append_assoc before (44 ∷ behind) s))) (more_terms k row before behind s us t r h i sp)

term-after : (o : OpenBracket) (os : List OpenBracket) (pre s : List ℕ) (t : Term) (a : At (o ∷ os) pre s) → Spells (suc a.k) s t → Behind (with_term o t) os pre
term-after o os pre s t a sp =
    let outer = a.here.0 in
    let inner = a.here.1 in
    let sign = opening_sign o.square in
    record {
      k = suc a.k;
      outer = outer;
      row = inner ++ s;
      blanks = [];
      cut = a.cut ∙ ap (λ (w : List ℕ). w ++ s) a.here.2 ∙ append_assoc outer (sign ∷ inner) s ∙ ap (λ (w : List ℕ). outer ++ (sign ∷ w)) (sym (append-nil (inner ++ s)));
      here = a.here.3;
      spells = inside-with (suc a.k) o.terms inner s t a.here.4 sp;
      are_blanks = refl;
    }

-- a complete term that cannot continue
pub put-holds : (os : List OpenBracket) (pre s : List ℕ) (t : Term) (n : ℕ) (a : At os pre s) → Spells (suc a.k) s t → n ≡ length pre → ((rest : List ℕ) → Ends s rest) → Holds pre (put os t n)
put-holds [] pre s t n a sp len ends = record { meaning = λ rest. front-of pre a.p s t n rest a.cut a.here.0 (let P : ℕ → Type 0 = λ k. Spells k s t in subst P a.here.1 sp) len (ends rest) }
put-holds (o ∷ os) pre s t n a sp len ends = record { meaning = term-after o os pre s t a sp }

pub open-closed : (square : Bool) (s rest : List ℕ) → Ends (opening_sign square ∷ s) rest
unfolding is_digit is_lowercase
open-closed true s rest = closed-by 91 s rest refl refl
open-closed false s rest = closed-by 123 s rest refl refl

pub quote-closed : (s rest : List ℕ) → Ends (39 ∷ s) rest
unfolding is_digit is_lowercase
quote-closed s rest = closed-by 39 s rest refl refl

pub string-closed : (s rest : List ℕ) → Ends (34 ∷ s) rest
unfolding is_digit is_lowercase
string-closed s rest = closed-by 34 s rest refl refl

angle-closed : (s rest : List ℕ) → Ends (60 ∷ s) rest
unfolding is_digit is_lowercase
angle-closed s rest = closed-by 60 s rest refl refl

hash-closed : (s rest : List ℕ) → Ends (35 ∷ s) rest
unfolding is_digit is_lowercase
hash-closed s rest = closed-by 35 s rest refl refl

-- a byte after a term in a bracket
pub after-holds : (at : ℕ) (o : OpenBracket) (os : List OpenBracket) (pre : List ℕ) (b : ℕ) → at ≡ length pre → Behind o os pre → Holds (pre ++ b ∷ []) (next_after at (o ∷ os) b)
after-holds at o os pre b len h =
    let sign = opening_sign o.square in
    let grown : pre ++ b ∷ [] ≡ h.outer ++ (sign ∷ (h.row ++ (h.blanks ++ b ∷ []))) = ap (λ (w : List ℕ). w ++ b ∷ []) h.cut ∙ append_assoc h.outer (sign ∷ (h.row ++ h.blanks)) (b ∷ []) ∙ ap (λ (w : List ℕ). h.outer ++ (sign ∷ w)) (append_assoc h.row h.blanks (b ∷ [])) in
    holds-if (closes o.square b) _ _
    (λ c.
    let closed : pre ++ b ∷ [] ≡ h.outer ++ (sign ∷ (h.row ++ (h.blanks ++ closing_sign o.square ∷ []))) = grown ∙ ap (λ (x : ℕ). h.outer ++ (sign ∷ (h.row ++ (h.blanks ++ x ∷ [])))) (close-is o.square b c) in
    put-holds os (pre ++ b ∷ []) (sign ∷ (h.row ++ (h.blanks ++ closing_sign o.square ∷ []))) (bracket o) (at + 1) (record { k = h.k; p = h.outer; cut = closed; here = h.here })
    (full_bracket h.k o.square h.row h.blanks o.terms h.spells h.are_blanks) (more-len at pre b len) (open-closed o.square (h.row ++ (h.blanks ++ closing_sign o.square ∷ []))))
    (λ c. holds-if (is_blank b) _ _
    (λ d. record { meaning = record { k = h.k; outer = h.outer; row = h.row; blanks = h.blanks ++ b ∷ []; cut = grown; here = h.here; spells = h.spells; are_blanks = blank-more h.blanks b h.are_blanks d } })
    (λ d. holds-if (b == 44) _ _
    (λ e.
    let comma : pre ++ b ∷ [] ≡ h.outer ++ (sign ∷ (h.row ++ (h.blanks ++ 44 ∷ []))) = grown ∙ ap (λ (x : ℕ). h.outer ++ (sign ∷ (h.row ++ (h.blanks ++ x ∷ [])))) (is-byte b 44 e) in
    record { meaning = (h.k, (h.outer, h.row ++ (h.blanks ++ 44 ∷ []), comma, h.here, further o.terms h.row h.blanks [] h.spells h.are_blanks refl)) })
    (λ e. noticed pre b (Unexpected at) len)))

-- the byte after an integer or a name
pub unless-found-holds : (at : ℕ) (os : List OpenBracket) (pre s : List ℕ) (t : Term) (b : ℕ) (a : At os pre s) → at ≡ length pre → Spells (suc a.k) s t → ((rest : List ℕ) → Ends s (b ∷ rest))
    → Holds (pre ++ b ∷ []) (next_unless_found at (put os t at) b)
unless-found-holds at [] pre s t b a len sp ends = record {
  meaning = λ rest.
      let P : List ℕ → Type 0 = λ w. Front w t at in
      subst P (sym (append_assoc pre (b ∷ []) rest)) (front-of pre a.p s t at (b ∷ rest) a.cut a.here.0 (let Q : ℕ → Type 0 = λ k. Spells k s t in subst Q a.here.1 sp) len (ends rest));
}
unless-found-holds at (o ∷ os) pre s t b a len sp ends = after-holds at (with_term o t) os pre b len (term-after o os pre s t a sp)

closed-ends : (s rest : List ℕ) → Closed s → Ends s rest
closed-ends [] rest c = absurd (omega (arith, c.some))
closed-ends (b ∷ s) rest c = closed-by b s rest c.no-number c.no-name

closed-more : (s t : List ℕ) → Closed s → Closed (s ++ t)
closed-more [] t c = absurd (omega (arith, c.some))
closed-more (b ∷ s) t c = record { some = omega arith; no-number = c.no-number; no-name = c.no-name }

pub angle-text : (s : List ℕ) → Closed (60 ∷ s)
unfolding is_digit is_lowercase
angle-text s = record { some = omega arith; no-number = refl; no-name = refl }

pub hash-text : (s : List ℕ) → Closed (35 ∷ s)
unfolding is_digit is_lowercase
hash-text s = record { some = omega arith; no-number = refl; no-name = refl }

-- the offset after the bytes of a form
pub after-form : (os : List OpenBracket) (pre s : List ℕ) (at : ℕ) (a : At os pre s) → at ≡ length pre → at ≡ length a.p + length s
after-form os pre s at a len = omega (arith, len, ap length a.cut, length-append a.p s)

framed-start : (kind : Number) (m n at : ℕ) → IsFramed kind → at ≡ n → at ≡ number_start kind m n
framed-start (integer below) m n at h e = absurd h
framed-start pid m n at h e = e
framed-start identifier m n at h e = e
framed-start (byte bs) m n at h e = e

-- signs that must follow
expect-holds : (at : ℕ) (cs : List ℕ) (goal : Expect) (os : List OpenBracket) (pre s : List ℕ) → at ≡ length pre → At os pre s → Leads (s ++ cs) goal → Closed s → Holds pre (expect at cs goal os)
expect-holds at [] (whole t) os pre s len a l c = put-holds os pre s t at a (let P : List ℕ → Type 0 = λ w. Spells (suc a.k) w t in subst P (append-nil s) (l a.k)) len (λ rest. closed-ends s rest c)
expect-holds at [] (digits kind) os pre s len a l c = record { meaning = (s, (let P : List ℕ → Type 0 = λ w. LeadsNumber kind w in subst P (append-nil s) l.0), a, framed-start kind (length a.p) (length a.p + length s) at l.1 (after-form os pre s at a len)) }
expect-holds at (b ∷ cs) goal os pre s len a l c = record { meaning = (s, a, l, c) }

pub sign-holds : (at : ℕ) (cs : List ℕ) (goal : Expect) (os : List OpenBracket) (pre s : List ℕ) (b : ℕ) → at ≡ length pre → At os pre s → Leads (s ++ cs) goal → Closed s
    → Holds (pre ++ b ∷ []) (next_sign at cs goal os b)
sign-holds at [] goal os pre s b len a l closed = noticed pre b (Unexpected at) len
sign-holds at (c ∷ cs) goal os pre s b len a l closed = holds-if (b == c) _ _
    (λ e. let same : b ≡ c = is-byte b c e in
    let P : List ℕ → Type 0 = λ w. Leads w goal in
    expect-holds (at + 1) cs goal os (pre ++ b ∷ []) (s ++ b ∷ []) (more-len at pre b len) (at_more os pre s (s ++ b ∷ []) b a refl)
    (subst P (ap (λ (x : ℕ). s ++ x ∷ cs) (sym same) ∙ sym (append_assoc s (b ∷ []) cs)) l) (closed-more s (b ∷ []) closed))
    (λ e. noticed pre b (Unexpected at) len)
