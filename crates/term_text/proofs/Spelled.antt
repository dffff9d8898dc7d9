-- The automaton reads each spelling as its term, in any open brackets.
use Rattle.std.proofs.Common.{ℕ, ◌≡◌, refl, ap, ◌∙◌, ◌+◌, ◌<◌, ◌≤◌, ◌++◌, List, [], ◌∷◌, length, map, arith, Bool, true, false, append_assoc, length-append}
use Rattle.ets_term.specs.declared.term.Term.{Term}
use Rattle.ets_term.specs.declared.term.Term.TheVariants.{Atom, Pid, Tid, List as ListOf}
use Rattle.term_text.specs.declared.quote_form.QuoteForm.TheVariants as form
use Rattle.term_text.specs.Text.{is_digit, is_name, begins}
use Rattle.term_text.specs.inside.Reader.{OpenBracket, integer, pid, identifier, digits, wants, digit, in_quotes, signs, angle, opened_binary, after, reads_on, found, code, bracket, open_bracket, put, read_from, reading}
use Rattle.term_text.specs.Grammar.{AreBlanks, opening_sign, closing_sign, Spells, SpellsTerms, Ends, Front, positive, negative, plain_atom, quoted_atom, pid_form, identifier_form, no_bytes, bytes, byte_string, empty_string, string, empty_bracket, full_bracket, first_term, more_terms}
use Rattle.term_text.proofs.FirstBytes.{begin-brace, begin-square, begin-minus, begin-quoted, begin-string, begin-angle, begin-identifier}
use Rattle.term_text.proofs.Blanks.{wants-ignores, after-ignores}
use Rattle.term_text.proofs.Offsets.{if-true, if-false, read-found}
use Rattle.term_text.proofs.Signs.{angle-begins, angle-no-digit, blank-no-name, brace-begins, close-no-blank, close-no-name, closes-so, comma-no-blank, comma-no-close, comma-no-name, dot-no-digit, hash-begins, minus-begins, quote-begins, square-begins, string-begins}
use Rattle.term_text.proofs.SpelledBinaries.{byte-string-text, full-bytes-text, no-bytes-text}
use Rattle.term_text.proofs.SpelledForms.{digits-are-number, digits-wanted, framed-text, name-text, no-name-ends, or-right, wants-first}
use Rattle.term_text.proofs.SpelledParts.{blanks-stay, blanks-then, byte-taken, number-text, signs-text}
use Rattle.term_text.proofs.SpelledQuotes.{quoted-text}

pub opens-wanted : (at : ℕ) (opened square : Bool) (os : List OpenBracket) (rest : List ℕ) → length os < 128 → read_from at (reads_on (wants opened) os) (opening_sign square ∷ rest) ≡ read_from (at + 1) (reads_on (wants true) (open_bracket square ∷ os)) rest
opens-wanted at opened true os rest room = wants-first at opened os 91 (reads_on (wants true) (open_bracket true ∷ os)) rest square-begins (begin-square at os room)
opens-wanted at opened false os rest room = wants-first at opened os 123 (reads_on (wants true) (open_bracket false ∷ os)) rest brace-begins (begin-brace at os room)

abbrev pub holding : Bool → List Term → OpenBracket
holding square ts = record { square = square; terms = ts }

empty-text : (at : ℕ) (square : Bool) (os : List OpenBracket) (blanks rest : List ℕ) (fin : ℕ) → AreBlanks blanks → fin ≡ at + length (blanks ++ closing_sign square ∷ [])
    → read_from at (reads_on (wants true) (open_bracket square ∷ os)) ((blanks ++ closing_sign square ∷ []) ++ rest) ≡ read_from fin (put os (bracket (holding square [])) fin) rest
empty-text at square os blanks rest fin h e =
    ap (λ (w : List ℕ). read_from at (reads_on (wants true) (open_bracket square ∷ os)) w) (append_assoc blanks (closing_sign square ∷ []) rest)
    ∙ blanks-stay at (reads_on (wants true) (open_bracket square ∷ os)) blanks (closing_sign square ∷ rest) (wants-ignores true (open_bracket square ∷ os)) h
    ∙ byte-taken (at + length blanks) (reads_on (wants true) (open_bracket square ∷ os)) (put os (bracket (holding square [])) (at + length blanks + 1)) (closing_sign square) rest (if-false _ _ _ (close-no-blank square) ∙ if-true _ _ _ (closes-so square))
    ∙ ap (λ (m : ℕ). read_from m (put os (bracket (holding square [])) m) rest) (omega (arith, e, length-append blanks (closing_sign square ∷ [])))

close-text : (at : ℕ) (square : Bool) (ts : List Term) (os : List OpenBracket) (behind rest : List ℕ) (fin : ℕ) → AreBlanks behind → fin ≡ at + length (behind ++ closing_sign square ∷ [])
    → read_from at (reads_on after (holding square ts ∷ os)) (behind ++ closing_sign square ∷ rest) ≡ read_from fin (put os (bracket (holding square ts)) fin) rest
close-text at square ts os behind rest fin h e =
    blanks-stay at (reads_on after (holding square ts ∷ os)) behind (closing_sign square ∷ rest) (after-ignores (holding square ts) os) h
    ∙ byte-taken (at + length behind) (reads_on after (holding square ts ∷ os)) (put os (bracket (holding square ts)) (at + length behind + 1)) (closing_sign square) rest (if-true _ _ _ (closes-so square))
    ∙ ap (λ (m : ℕ). read_from m (put os (bracket (holding square ts)) m) rest) (omega (arith, e, length-append behind (closing_sign square ∷ [])))

mutual
  term_text : (k : ℕ) (s : List ℕ) (t : Term) → Spells k s t → (at : ℕ) (opened : Bool) (os : List OpenBracket) (rest : List ℕ) (fin : ℕ) → length os + k ≤ 128 → Ends s rest → fin ≡ at + length s
      → read_from at (reads_on (wants opened) os) (s ++ rest) ≡ read_from fin (put os t fin) rest
  term_text k s t (positive j ds n num) at opened os rest fin room ends e =
      digits-wanted at opened os ds rest (omega (arith, room)) num.some ∙ number-text at at (integer false) os ds rest n fin num (ends.0 (digits-are-number ds num.some)) e
  term_text k s t (negative j ds n num) at opened os rest fin room ends e =
      wants-first at opened os 45 (reads_on (digit (integer true) at) os) (ds ++ rest) minus-begins (begin-minus at os (omega (arith, room)))
      ∙ number-text (at + 1) at (integer true) os ds rest n fin num (ends.0 (or-right (is_digit 45))) (omega (arith, e))
  term_text k s t (plain_atom j cs small names few) at opened os rest fin room ends e = name-text at opened os cs rest fin (omega (arith, room)) small names few (ends.1 small) e
  term_text k s t (quoted_atom j body cs sp few) at opened os rest fin room ends e =
      wants-first at opened os 39 (reads_on (in_quotes (form.Atom at) []) os) ((body ++ 39 ∷ []) ++ rest) quote-begins (begin-quoted at os (omega (arith, room)))
      ∙ ap (λ (w : List ℕ). read_from (at + 1) (reads_on (in_quotes (form.Atom at) []) os) w) (append_assoc body (39 ∷ []) rest)
      ∙ quoted-text (at + 1) (form.Atom at) os body cs (39 ∷ rest) (at + 1 + length body) sp few refl
      ∙ byte-taken (at + 1 + length body) (reads_on (in_quotes (form.Atom at) cs) os) (put os (Atom cs) (at + 1 + length body + 1)) 39 rest refl
      ∙ ap (λ (m : ℕ). read_from m (put os (Atom cs) m) rest) (omega (arith, e, length-append body (39 ∷ [])))
  term_text k s t (pid_form j ds n num) at opened os rest fin room ends e =
      let tail : List ℕ = ds ++ 46 ∷ 48 ∷ 62 ∷ [] in
      wants-first at opened os 60 (reads_on angle os) (48 ∷ 46 ∷ (tail ++ rest)) angle-begins (begin-angle at os (omega (arith, room)))
      ∙ byte-taken (at + 1) (reads_on angle os) (reads_on (signs (46 ∷ []) (digits pid)) os) 48 (46 ∷ (tail ++ rest)) refl
      ∙ byte-taken (at + 1 + 1) (reads_on (signs (46 ∷ []) (digits pid)) os) (reads_on (digit pid (at + 1 + 1 + 1)) os) 46 (tail ++ rest) refl
      ∙ framed-text (at + 1 + 1 + 1) pid (Pid n) (46 ∷ 48 ∷ 62 ∷ []) ds rest n os fin num dot-no-digit (λ m. refl) (omega (arith, e))
  term_text k s t (identifier_form j ds n num) at opened os rest fin room ends e =
      let tail : List ℕ = ds ++ 62 ∷ [] in
      wants-first at opened os 35 (reads_on (signs (84 ∷ 105 ∷ 100 ∷ 60 ∷ []) (digits identifier)) os) (84 ∷ 105 ∷ 100 ∷ 60 ∷ (tail ++ rest)) hash-begins (begin-identifier at os (omega (arith, room)))
      ∙ signs-text (at + 1) (84 ∷ 105 ∷ 100 ∷ 60 ∷ []) (digits identifier) os (tail ++ rest) (at + 1 + 4) refl
      ∙ framed-text (at + 1 + 4) identifier (Tid n) (62 ∷ []) ds rest n os fin num angle-no-digit (λ m. refl) (omega (arith, e))
  term_text k s t (no_bytes j blanks h) at opened os rest fin room ends e =
      wants-first at opened os 60 (reads_on angle os) (60 ∷ ((blanks ++ 62 ∷ 62 ∷ []) ++ rest)) angle-begins (begin-angle at os (omega (arith, room)))
      ∙ byte-taken (at + 1) (reads_on angle os) (reads_on opened_binary os) 60 ((blanks ++ 62 ∷ 62 ∷ []) ++ rest) refl
      ∙ no-bytes-text (at + 1 + 1) os blanks rest fin h (omega (arith, e))
  term_text k s t (bytes j row behind bs sp h) at opened os rest fin room ends e =
      let text : List ℕ = row ++ (behind ++ 62 ∷ 62 ∷ []) in
      wants-first at opened os 60 (reads_on angle os) (60 ∷ (text ++ rest)) angle-begins (begin-angle at os (omega (arith, room)))
      ∙ byte-taken (at + 1) (reads_on angle os) (reads_on opened_binary os) 60 (text ++ rest) refl
      ∙ full-bytes-text (at + 1 + 1) os row behind bs rest fin sp h (omega (arith, e))
  term_text k s t (byte_string j before body behind bs h sp i) at opened os rest fin room ends e =
      let text : List ℕ = before ++ 34 ∷ (body ++ 34 ∷ (behind ++ 62 ∷ 62 ∷ [])) in
      wants-first at opened os 60 (reads_on angle os) (60 ∷ (text ++ rest)) angle-begins (begin-angle at os (omega (arith, room)))
      ∙ byte-taken (at + 1) (reads_on angle os) (reads_on opened_binary os) 60 (text ++ rest) refl
      ∙ byte-string-text (at + 1 + 1) os before body behind bs rest fin h sp i (omega (arith, e))
  term_text k s t (empty_string j) at opened os rest fin room ends e =
      wants-first at opened os 34 (reads_on (in_quotes form.String []) os) (34 ∷ rest) string-begins (begin-string at os (omega (arith, room)))
      ∙ byte-taken (at + 1) (reads_on (in_quotes form.String []) os) (put os (ListOf []) (at + 1 + 1)) 34 rest refl
      ∙ ap (λ (m : ℕ). read_from m (put os (ListOf []) m) rest) (omega (arith, e))
  term_text k s t (string j body cs sp some) at opened os rest fin room ends e =
      wants-first at opened os 34 (reads_on (in_quotes form.String []) os) ((body ++ 34 ∷ []) ++ rest) string-begins (begin-string at os (omega (arith, room)))
      ∙ ap (λ (w : List ℕ). read_from (at + 1) (reads_on (in_quotes form.String []) os) w) (append_assoc body (34 ∷ []) rest)
      ∙ quoted-text (at + 1) form.String os body cs (34 ∷ rest) (at + 1 + length body) sp (λ z. omega (arith, room)) refl
      ∙ byte-taken (at + 1 + length body) (reads_on (in_quotes form.String cs) os) (put os (ListOf (map code cs)) (at + 1 + length body + 1)) 34 rest refl
      ∙ ap (λ (m : ℕ). read_from m (put os (ListOf (map code cs)) m) rest) (omega (arith, e, length-append body (34 ∷ [])))
  term_text k s t (empty_bracket j square blanks h) at opened os rest fin room ends e =
      opens-wanted at opened square os ((blanks ++ closing_sign square ∷ []) ++ rest) (omega (arith, room)) ∙ empty-text (at + 1) square os blanks rest fin h (omega (arith, e))
  term_text k s t (full_bracket j square row behind ts sp h) at opened os rest fin room ends e =
      let text : List ℕ = row ++ (behind ++ closing_sign square ∷ []) in
      opens-wanted at opened square os (text ++ rest) (omega (arith, room))
      ∙ ap (λ (w : List ℕ). read_from (at + 1) (reads_on (wants true) (open_bracket square ∷ os)) w) (append_assoc row (behind ++ closing_sign square ∷ []) rest ∙ ap (λ (w : List ℕ). row ++ w) (append_assoc behind (closing_sign square ∷ []) rest))
      ∙ comma_separated j row ts sp (at + 1) square os (behind ++ closing_sign square ∷ rest) (at + 1 + length row) (omega (arith, room)) (blanks-then is_name behind (closing_sign square) rest h blank-no-name (close-no-name square)) refl
      ∙ close-text (at + 1 + length row) square ts os behind rest fin h (omega (arith, e, length-append row (behind ++ closing_sign square ∷ [])))

  pub comma_separated : (k : ℕ) (row : List ℕ) (ts : List Term) → SpellsTerms k row ts → (at : ℕ) (square : Bool) (os : List OpenBracket) (rest : List ℕ) (fin : ℕ) → length os + 1 + k ≤ 128 → begins is_name rest ≡ false → fin ≡ at + length row
      → read_from at (reads_on (wants true) (open_bracket square ∷ os)) (row ++ rest) ≡ read_from fin (reads_on after (holding square ts ∷ os)) rest
  comma_separated k row ts (first_term j before s t h sp) at square os rest fin room stop e =
      ap (λ (w : List ℕ). read_from at (reads_on (wants true) (open_bracket square ∷ os)) w) (append_assoc before s rest)
      ∙ blanks-stay at (reads_on (wants true) (open_bracket square ∷ os)) before (s ++ rest) (wants-ignores true (open_bracket square ∷ os)) h
      ∙ term_text j s t sp (at + length before) true (open_bracket square ∷ os) rest fin (omega (arith, room)) (no-name-ends s rest stop) (omega (arith, e, length-append before s))
  comma_separated k row ts (more_terms j r before behind s us t sr h i sp) at square os rest fin room stop e =
      let tail : List ℕ = behind ++ (s ++ rest) in
      let p1 : ℕ = at + length r in
      let p2 : ℕ = p1 + length before in
      let p3 : ℕ = p2 + 1 + length behind in
      ap (λ (w : List ℕ). read_from at (reads_on (wants true) (open_bracket square ∷ os)) w)
      (append_assoc r (before ++ 44 ∷ (behind ++ s)) rest ∙ ap (λ (w : List ℕ). r ++ w) (append_assoc before (44 ∷ (behind ++ s)) rest ∙ ap (λ (w : List ℕ). before ++ 44 ∷ w) (append_assoc behind s rest)))
      ∙ comma_separated j r us sr at square os (before ++ 44 ∷ tail) p1 room (blanks-then is_name before 44 tail h blank-no-name comma-no-name) refl
      ∙ blanks-stay p1 (reads_on after (holding square us ∷ os)) before (44 ∷ tail) (after-ignores (holding square us) os) h
      ∙ byte-taken p2 (reads_on after (holding square us ∷ os)) (reads_on (wants false) (holding square us ∷ os)) 44 tail (if-false _ _ _ (comma-no-close square) ∙ if-false _ _ _ comma-no-blank)
      ∙ blanks-stay (p2 + 1) (reads_on (wants false) (holding square us ∷ os)) behind (s ++ rest) (wants-ignores false (holding square us ∷ os)) i
      ∙ term_text j s t sp p3 false (holding square us ∷ os) rest fin (omega (arith, room)) (no-name-ends s rest stop)
      (omega (arith, e, length-append r (before ++ 44 ∷ (behind ++ s)), length-append before (44 ∷ (behind ++ s)), length-append behind s))

-- the term at the front of a text is the result of the text
pub front-read : (text : List ℕ) (t : Term) (n : ℕ) → Front text t n → reading text ≡ found t n
front-read text t n f =
    let fin : n ≡ length f.blanks + length f.spelling = f.taken ∙ length-append f.blanks f.spelling in
    ap reading f.whole
    ∙ blanks-stay 0 (reads_on (wants false) []) f.blanks (f.spelling ++ f.rest) (wants-ignores false []) f.are_blanks
    ∙ term_text 128 f.spelling t f.spells (0 + length f.blanks) false [] f.rest n (omega arith) f.ends (omega (arith, fin))
    ∙ read-found n t n f.rest
