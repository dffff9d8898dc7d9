-- The automaton reports each row of the table of faults.
use Rattle.std.proofs.Common.{◌≡◌, refl, ap, sym, ◌∙◌, ◌+◌, ◌-◌, ◌*◌, ◌<◌, ◌≤◌, ◌++◌, ◌==◌, ℕ, suc, List, [], ◌∷◌, length, arith, rules, Bool, true, false, append_assoc, length-append}
use Rattle.std.proofs.lemmas.Bool.{false≢true, and_parts}
use Rattle.std.specs.List.{list_all, prefix_len}
use Rattle.ets_term.specs.Character.{is_character}
use Rattle.ets_term.specs.declared.term.Term.{Term}
use Rattle.term_text.specs.declared.fault.TextFault.{TextFault}
use Rattle.term_text.specs.declared.fault.TextFault.TheVariants.{OutOfRange, TooDeep, AtomTooLong}
use Rattle.term_text.specs.declared.quote_form.QuoteForm.{QuoteForm}
use Rattle.term_text.specs.declared.quote_form.QuoteForm.TheVariants as form
use Rattle.term_text.specs.Text.{is_blank, is_digit, is_lowercase, is_name, begins, value_of_digits}
use Rattle.term_text.specs.inside.Reader.{OpenBracket, Number, integer, pid, identifier, byte, digits, wants, digit, name, in_quotes, signs, angle, opened_binary, wants_byte, after_byte, after, Reading, reads_on, fails, open_bracket, quote, admits, take_byte, read_from, reading}
use Rattle.term_text.specs.Faults.{AwaitsItem, fresh, further, AwaitsTerm, AwaitsByte, opened, comma, LeadsNumber, number_start, PastRange, PastAtom, plain_form, quoted_form, PastDepth, a_term, a_character}
use Rattle.term_text.specs.Grammar.{opening_sign}
use Rattle.term_text.proofs.FirstBytes.{begin-out-of-levels, begin-minus, begin-quoted, begin-string, begin-angle, begin-identifier, begin-name}
use Rattle.term_text.proofs.Binaries.{opened-digit-here, wants-digit-here}
use Rattle.term_text.proofs.Blanks.{wants-ignores, opened_binary_ignores, wants_byte_ignores, after_byte_ignores, after-ignores}
use Rattle.term_text.proofs.Names.{read-long-name}
use Rattle.term_text.proofs.Offsets.{if-true, if-false, read-fails, by-test, nat-le-true, prefix-more, number-past}
use Rattle.term_text.proofs.Meaning.{here-len, begins-more}
use Rattle.term_text.proofs.Signs.{blank-no-name, blank-no-digit, comma-no-name, comma-no-blank, comma-no-close, comma-no-digit, small-begins, string-begins, quote-begins, minus-begins, angle-begins, hash-begins, digit-no-blank, digit-no-quote}
use Rattle.term_text.proofs.SoundNumbers.{nine-fits}
use Rattle.term_text.proofs.Spelled.{opens-wanted, comma_separated, holding}
use Rattle.term_text.proofs.SpelledBinaries.{bytes-text}
use Rattle.term_text.proofs.SpelledForms.{digits-wanted, wants-first}
use Rattle.term_text.proofs.SpelledParts.{byte-taken, blanks-stay, blanks-then, signs-text, begins-other}
use Rattle.term_text.proofs.SpelledQuotes.{quoted-text}

abbrev start_state : Reading
start_state = reads_on (wants false) []

-- where a term must begin the automaton expects one
pub record Arrives (os : List OpenBracket) (lead rest : List ℕ) : Type 0 where
  pub opened : Bool
  pub runs : read_from 0 start_state (lead ++ rest) ≡ read_from (length lead) (reads_on (wants opened) os) rest

abbrev ArrivesInside : Bool → List Term → List OpenBracket → List ℕ → List ℕ → ℕ → Type 0
ArrivesInside square ts os inner rest p = (opened : Bool) × (read_from p (reads_on (wants true) (open_bracket square ∷ os)) (inner ++ rest) ≡ read_from (p + length inner) (reads_on (wants opened) (holding square ts ∷ os)) rest)

inside-run : (k : ℕ) (square : Bool) (ts : List Term) (os : List OpenBracket) (inner rest : List ℕ) (p : ℕ) → AwaitsItem k ts inner → length os + 1 + k ≤ 128 → ArrivesInside square ts os inner rest p
inside-run k square ts os inner rest p (fresh blanks h) room = (true, blanks-stay p (reads_on (wants true) (open_bracket square ∷ os)) blanks rest (wants-ignores true (open_bracket square ∷ os)) h)
inside-run k square ts os inner rest p (further us row before behind r h i) room =
    let tail : List ℕ = behind ++ rest in
    let p1 : ℕ = p + length row in
    let p2 : ℕ = p1 + length before in (
      false,
      ap (λ (w : List ℕ). read_from p (reads_on (wants true) (open_bracket square ∷ os)) w) (append_assoc row (before ++ 44 ∷ behind) rest ∙ ap (λ (w : List ℕ). row ++ w) (append_assoc before (44 ∷ behind) rest))
          ∙ comma_separated k row ts r p square os (before ++ 44 ∷ tail) p1 room (blanks-then is_name before 44 tail h blank-no-name comma-no-name) refl
          ∙ blanks-stay p1 (reads_on after (holding square ts ∷ os)) before (44 ∷ tail) (after-ignores (holding square ts) os) h
          ∙ byte-taken p2 (reads_on after (holding square ts ∷ os)) (reads_on (wants false) (holding square ts ∷ os)) 44 tail (if-false _ _ _ (comma-no-close square) ∙ if-false _ _ _ comma-no-blank)
          ∙ blanks-stay (p2 + 1) (reads_on (wants false) (holding square ts ∷ os)) behind rest (wants-ignores false (holding square ts ∷ os)) i
          ∙ ap (λ (m : ℕ). read_from m (reads_on (wants false) (holding square ts ∷ os)) rest) (omega (arith, length-append row (before ++ 44 ∷ behind), length-append before (44 ∷ behind))),
    )

here-run : (k : ℕ) (os : List OpenBracket) (lead rest : List ℕ) → AwaitsTerm k os lead → Arrives os lead rest
here-run k [] lead rest h = record { opened = false; runs = blanks-stay 0 start_state lead rest (wants-ignores false []) h.0 ∙ ap (λ (m : ℕ). read_from m start_state rest) (omega arith) }
here-run k (o ∷ os) lead rest (outer, inner, e, h, i) =
    let sign : ℕ = opening_sign o.square in
    let arrived = here-run (suc k) os outer (sign ∷ (inner ++ rest)) h in
    let levels = here-len (suc k) os outer h in
    let inside = inside-run k o.square o.terms os inner rest (length outer + 1) i (omega (arith, levels)) in
    record {
      opened = inside.0;
      runs = ap (λ (w : List ℕ). read_from 0 start_state (w ++ rest)) e
          ∙ ap (λ (w : List ℕ). read_from 0 start_state w) (append_assoc outer (sign ∷ inner) rest)
          ∙ arrived.runs
          ∙ opens-wanted (length outer) arrived.opened o.square os (inner ++ rest) (omega (arith, levels))
          ∙ inside.1
          ∙ ap (λ (m : ℕ). read_from m (reads_on (wants inside.0) (o ∷ os)) rest) (omega (arith, ap length e, length-append outer (sign ∷ inner)));
    }

-- a byte without a next state
byte-fails : (at : ℕ) (s : Reading) (b : ℕ) (rest : List ℕ) (f : TextFault) → take_byte at s b ≡ fails f → read_from at s (b ∷ rest) ≡ fails f
byte-fails at s b rest f e = byte-taken at s (fails f) b rest e ∙ read-fails (at + 1) f rest

-- a character in quotes that is refused
character-fails : (at : ℕ) (q : QuoteForm) (cs : List ℕ) (os : List OpenBracket) (b : ℕ) (f : TextFault) → (b == quote q) ≡ false → is_character b ≡ true → ((s : Reading) → admits at q (length cs) os s ≡ fails f) → take_byte at (reads_on (in_quotes q cs) os) b ≡ fails f
character-fails at q cs os b f other char no_room = by-test (b == 92)
    (λ e. if-false _ _ _ other ∙ if-true _ _ _ e ∙ no_room _)
    (λ e. if-false _ _ _ other ∙ if-false _ _ _ e ∙ if-true _ _ _ char ∙ no_room _)

same-test : (n : ℕ) → n ≡ 255 → (n == 255) ≡ true
same-test n e = search (arith, rules)

pub depth-reported : (pre : List ℕ) (b : ℕ) (rest : List ℕ) → PastDepth pre b → reading (pre ++ b ∷ rest) ≡ fails (TooDeep (length pre))
depth-reported pre b rest (a_term os h starts) =
    let arrived = here-run 0 os pre (b ∷ rest) h in
    let levels = here-len 0 os pre h in
    arrived.runs ∙ wants-first (length pre) arrived.opened os b (fails (TooDeep (length pre))) rest starts (begin-out-of-levels (length pre) os b starts (omega (arith, levels))) ∙ read-fails (length pre + 1) (TooDeep (length pre)) rest
depth-reported pre b rest (a_character os lead e h char other) =
    let arrived = here-run 1 os lead (34 ∷ b ∷ rest) h in
    let levels = here-len 1 os lead h in
    let at : ℕ = length lead + 1 in
    ap (λ (w : List ℕ). reading (w ++ b ∷ rest)) e
    ∙ ap reading (append_assoc lead (34 ∷ []) (b ∷ rest))
    ∙ arrived.runs
    ∙ wants-first (length lead) arrived.opened os 34 (reads_on (in_quotes form.String []) os) (b ∷ rest) string-begins (begin-string (length lead) os (omega (arith, levels)))
    ∙ byte-fails at (reads_on (in_quotes form.String []) os) b rest (TooDeep at) (character-fails at form.String [] os b (TooDeep at) other char (λ s. if-true _ _ _ (nat-le-true 127 (length os) (omega (arith, levels)))))
    ∙ ap (λ (m : ℕ). fails (TooDeep m)) (omega (arith, ap length e, length-append lead (34 ∷ [])))

count-more : (p : ℕ → Bool) (s t : List ℕ) → list_all p s ≡ true → prefix_len p (s ++ t) ≡ length s + prefix_len p t
count-more p [] t h = omega arith
count-more p (c ∷ s) t h = let q = and_parts (p c) (list_all p s) h in prefix-more p c (s ++ t) q.0 ∙ (let r = count-more p s t q.1 in omega (arith, r))

pub atom-reported : (pre : List ℕ) (b start : ℕ) (rest : List ℕ) → PastAtom pre b start → reading (pre ++ b ∷ rest) ≡ fails (AtomTooLong start)
atom-reported pre b start rest (plain_form os k lead s e h st small names long named) = plain-reported s e small names long
  where
    plain-reported : (s : List ℕ) → pre ≡ lead ++ s → begins is_lowercase s ≡ true → list_all is_name s ≡ true → length s ≡ 255 → reading (pre ++ b ∷ rest) ≡ fails (AtomTooLong start)
    plain-reported [] e small names long = absurd (false≢true small)
    plain-reported (c ∷ t) e small names long =
        let arrived = here-run (suc k) os lead (c ∷ (t ++ b ∷ rest)) h in
        let levels = here-len (suc k) os lead h in
        let at : ℕ = length lead in
        let counted = count-more is_name t (b ∷ rest) (and_parts (is_name c) (list_all is_name t) names).1 in
        let one_more = prefix-more is_name b rest named in
        ap (λ (w : List ℕ). reading (w ++ b ∷ rest)) e
        ∙ ap reading (append_assoc lead (c ∷ t) (b ∷ rest))
        ∙ arrived.runs
        ∙ wants-first at arrived.opened os c (reads_on (name at (c ∷ [])) os) (t ++ b ∷ rest) (small-begins c small) (begin-name at os c (omega (arith, levels)) small)
        ∙ read-long-name (at + 1) at (c ∷ []) os (t ++ b ∷ rest) (omega arith) (omega (arith, counted, one_more, long))
        ∙ ap (λ (m : ℕ). fails (AtomTooLong m)) (sym st)
atom-reported pre b start rest (quoted_form os k lead s cs e h st sp long char other) =
    let arrived = here-run (suc k) os lead (39 ∷ (s ++ b ∷ rest)) h in
    let levels = here-len (suc k) os lead h in
    let at : ℕ = length lead in
    let p : ℕ = at + 1 + length s in
    ap (λ (w : List ℕ). reading (w ++ b ∷ rest)) e
    ∙ ap reading (append_assoc lead (39 ∷ s) (b ∷ rest))
    ∙ arrived.runs
    ∙ wants-first at arrived.opened os 39 (reads_on (in_quotes (form.Atom at) []) os) (s ++ b ∷ rest) quote-begins (begin-quoted at os (omega (arith, levels)))
    ∙ quoted-text (at + 1) (form.Atom at) os s cs (b ∷ rest) p sp (omega (arith, long)) refl
    ∙ byte-fails p (reads_on (in_quotes (form.Atom at) cs) os) b rest (AtomTooLong at) (character-fails p (form.Atom at) cs os b (AtomTooLong at) other char (λ s. if-true _ _ _ (same-test (length cs) long)))
    ∙ ap (λ (m : ℕ). fails (AtomTooLong m)) (sym st)

-- one digit after another
value_of_digits-least : (n : ℕ) (bs : List ℕ) → n ≤ value_of_digits n bs
value_of_digits-least n [] = omega arith
value_of_digits-least n (b ∷ bs) = by-test (is_digit b)
    (λ d. let v : value_of_digits n (b ∷ bs) ≡ value_of_digits (n * 10 + (b - 48)) bs = if-true _ _ _ d in let r = value_of_digits-least (n * 10 + (b - 48)) bs in omega (arith, v, r))
    (λ d. let v : value_of_digits n (b ∷ bs) ≡ n = if-false _ _ _ d in omega (arith, v))

value_of_digits-on : (n : ℕ) (s t : List ℕ) → list_all is_digit s ≡ true → value_of_digits n (s ++ t) ≡ value_of_digits (value_of_digits n s) t
value_of_digits-on n [] t h = refl
value_of_digits-on n (c ∷ s) t h =
    let q = and_parts (is_digit c) (list_all is_digit s) h in
    if-true _ _ _ q.0 ∙ value_of_digits-on (n * 10 + (c - 48)) s t q.1 ∙ ap (λ (m : ℕ). value_of_digits m t) (sym (if-true _ _ _ q.0))

-- what precedes the digits of a number leads to the state before them
number-reached : (kind : Number) (at : ℕ) (op : Bool) (os : List OpenBracket) (before ds rest : List ℕ) → LeadsNumber kind before → length os < 128 → begins is_digit ds ≡ true
    → read_from at (reads_on (wants op) os) (before ++ (ds ++ rest)) ≡ read_from (at + length before) (reads_on (digit kind (number_start kind at (at + length before))) os) (ds ++ rest)
number-reached (integer false) at op os before ds rest e room d =
    ap (λ (w : List ℕ). read_from at (reads_on (wants op) os) (w ++ (ds ++ rest))) e
    ∙ digits-wanted at op os ds rest room d
    ∙ ap (λ (m : ℕ). read_from m (reads_on (digit (integer false) at) os) (ds ++ rest)) (omega (arith, ap length e))
number-reached (integer true) at op os before ds rest e room d =
    ap (λ (w : List ℕ). read_from at (reads_on (wants op) os) (w ++ (ds ++ rest))) e
    ∙ wants-first at op os 45 (reads_on (digit (integer true) at) os) (ds ++ rest) minus-begins (begin-minus at os room)
    ∙ ap (λ (m : ℕ). read_from m (reads_on (digit (integer true) at) os) (ds ++ rest)) (omega (arith, ap length e))
number-reached pid at op os before ds rest e room d =
    ap (λ (w : List ℕ). read_from at (reads_on (wants op) os) (w ++ (ds ++ rest))) e
    ∙ wants-first at op os 60 (reads_on angle os) (48 ∷ 46 ∷ (ds ++ rest)) angle-begins (begin-angle at os room)
    ∙ byte-taken (at + 1) (reads_on angle os) (reads_on (signs (46 ∷ []) (digits pid)) os) 48 (46 ∷ (ds ++ rest)) refl
    ∙ byte-taken (at + 1 + 1) (reads_on (signs (46 ∷ []) (digits pid)) os) (reads_on (digit pid (at + 1 + 1 + 1)) os) 46 (ds ++ rest) refl
    ∙ ap (λ (m : ℕ). read_from m (reads_on (digit pid m) os) (ds ++ rest)) (omega (arith, ap length e))
number-reached identifier at op os before ds rest e room d =
    ap (λ (w : List ℕ). read_from at (reads_on (wants op) os) (w ++ (ds ++ rest))) e
    ∙ wants-first at op os 35 (reads_on (signs (84 ∷ 105 ∷ 100 ∷ 60 ∷ []) (digits identifier)) os) (84 ∷ 105 ∷ 100 ∷ 60 ∷ (ds ++ rest)) hash-begins (begin-identifier at os room)
    ∙ signs-text (at + 1) (84 ∷ 105 ∷ 100 ∷ 60 ∷ []) (digits identifier) os (ds ++ rest) (at + 1 + 4) refl
    ∙ ap (λ (m : ℕ). read_from m (reads_on (digit identifier m) os) (ds ++ rest)) (omega (arith, ap length e))
number-reached (byte bs) at op os before ds rest (inner, e, in_bytes) room d =
    ap (λ (w : List ℕ). read_from at (reads_on (wants op) os) (w ++ (ds ++ rest))) e
    ∙ wants-first at op os 60 (reads_on angle os) (60 ∷ (inner ++ (ds ++ rest))) angle-begins (begin-angle at os room)
    ∙ byte-taken (at + 1) (reads_on angle os) (reads_on opened_binary os) 60 (inner ++ (ds ++ rest)) refl
    ∙ bytes-reached (at + 1 + 1) bs inner in_bytes
    ∙ ap (λ (m : ℕ). read_from m (reads_on (digit (byte bs) m) os) (ds ++ rest)) (omega (arith, ap length e))
  where
    bytes-reached : (p : ℕ) (bs inner : List ℕ) → AwaitsByte bs inner → read_from p (reads_on opened_binary os) (inner ++ (ds ++ rest)) ≡ read_from (p + length inner) (reads_on (digit (byte bs) (p + length inner)) os) (ds ++ rest)
    bytes-reached p bs inner (opened blanks h) =
        blanks-stay p (reads_on opened_binary os) blanks (ds ++ rest) (opened_binary_ignores os) h
        ∙ opened-digit-here (p + length blanks) os (ds ++ rest) (begins-other is_digit is_blank ds rest d digit-no-blank) (begins-other is_digit (λ b. b == 34) ds rest d digit-no-quote) (begins-more is_digit ds rest d)
    bytes-reached p bs inner (comma us row prior behind sp h i) =
        let tail : List ℕ = behind ++ (ds ++ rest) in
        let p1 : ℕ = p + length row in
        let p2 : ℕ = p1 + length prior in
        ap (λ (w : List ℕ). read_from p (reads_on opened_binary os) w) (append_assoc row (prior ++ 44 ∷ behind) (ds ++ rest) ∙ ap (λ (w : List ℕ). row ++ w) (append_assoc prior (44 ∷ behind) (ds ++ rest)))
        ∙ bytes-text p os row bs (prior ++ 44 ∷ tail) p1 sp (blanks-then is_digit prior 44 tail h blank-no-digit comma-no-digit) refl
        ∙ blanks-stay p1 (reads_on (after_byte bs) os) prior (44 ∷ tail) (after_byte_ignores bs os) h
        ∙ byte-taken p2 (reads_on (after_byte bs) os) (reads_on (wants_byte bs) os) 44 tail (if-false _ _ _ comma-no-blank)
        ∙ blanks-stay (p2 + 1) (reads_on (wants_byte bs) os) behind (ds ++ rest) (wants_byte_ignores bs os) i
        ∙ wants-digit-here (p2 + 1 + length behind) bs os (ds ++ rest) (begins-other is_digit is_blank ds rest d digit-no-blank)
        ∙ ap (λ (m : ℕ). read_from m (reads_on (digit (byte bs) m) os) (ds ++ rest)) (omega (arith, length-append row (prior ++ 44 ∷ behind), length-append prior (44 ∷ behind)))

pub range-reported : (pre : List ℕ) (b start : ℕ) (rest : List ℕ) → PastRange pre b start → reading (pre ++ b ∷ rest) ≡ fails (OutOfRange start)
range-reported pre b start rest h =
    let tail : List ℕ = b ∷ rest in
    let at : ℕ = length h.lead in
    let arrived = here-run (suc h.k) h.os h.lead (h.before ++ (h.digits ++ tail)) h.here in
    let levels = here-len (suc h.k) h.os h.lead h.here in
    let p : ℕ = at + length h.before in
    let on : value_of_digits 0 (h.digits ++ tail) ≡ value_of_digits (value_of_digits 0 h.digits) tail = value_of_digits-on 0 h.digits tail h.spells.each in
    let value : value_of_digits (value_of_digits 0 h.digits) tail ≡ value_of_digits h.value tail = ap (λ (m : ℕ). value_of_digits m tail) h.spells.value in
    let stepped_on : value_of_digits h.value tail ≡ value_of_digits (h.value * 10 + (b - 48)) rest = if-true _ _ _ h.digit in
    let least = value_of_digits-least (h.value * 10 + (b - 48)) rest in
    ap (λ (w : List ℕ). reading (w ++ tail)) h.cut
    ∙ ap reading (append_assoc h.lead (h.before ++ h.digits) tail ∙ ap (λ (w : List ℕ). h.lead ++ w) (append_assoc h.before h.digits tail))
    ∙ arrived.runs
    ∙ number-reached h.kind at arrived.opened h.os h.before h.digits tail h.is_before (omega (arith, levels)) h.spells.some
    ∙ number-past p (number_start h.kind at p) h.kind h.os (h.digits ++ tail) (begins-more is_digit h.digits tail h.spells.some) (nine-fits h.kind 9 (omega arith)) (omega (arith, on, value, stepped_on, least, h.past))
    ∙ ap (λ (m : ℕ). fails (OutOfRange m)) (sym h.begins)
