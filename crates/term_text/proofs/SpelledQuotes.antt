-- The automaton reads each spelling in quotes.
use Rattle.std.proofs.Common.{ℕ, ◌≡◌, refl, ap, ◌∙◌, ◌+◌, ◌≤◌, ◌++◌, ◌==◌, List, [], ◌∷◌, length, arith, rules, false, append_assoc, length-append}
use Rattle.std.proofs.lemmas.Bool.{lt-leb}
use Rattle.term_text.specs.declared.quote_form.QuoteForm.{QuoteForm}
use Rattle.term_text.specs.declared.quote_form.QuoteForm.TheVariants as form
use Rattle.term_text.specs.inside.Reader.{OpenBracket, in_quotes, after_backslash, Reading, reads_on, quote, admits, read_from}
use Rattle.term_text.specs.Grammar.{SpellsQuoted, none, plain, escaped as escaped_form}
use Rattle.term_text.proofs.Offsets.{if-true, if-false}
use Rattle.term_text.proofs.Meaning.{Admitted}
use Rattle.term_text.proofs.SpelledParts.{byte-taken}

-- quotes
admits-text : (at : ℕ) (q : QuoteForm) (n : ℕ) (os : List OpenBracket) (z : Reading) → Admitted q (n + 1) os → admits at q n os z ≡ z
admits-text at (form.Atom start) n os z h = if-false _ _ _ (less n h)
  where
    less : (n : ℕ) → n + 1 ≤ 255 → (n == 255) ≡ false
    less n h = search (arith, rules)
admits-text at form.String n os z h = if-false _ _ _ (lt-leb 127 (length os) (let r = h (omega arith) in omega (arith, r)))
admits-text at form.Binary n os z h = refl

admitted-less : (q : QuoteForm) (m n : ℕ) (os : List OpenBracket) → m ≤ n → Admitted q n os → Admitted q m os
admitted-less (form.Atom start) m n os h k = omega (arith, h, k)
admitted-less form.String m n os h k = λ z. k (omega (arith, h, z))
admitted-less form.Binary m n os h k = tt

escape-no-quote : (q : QuoteForm) → (92 == quote q) ≡ false
escape-no-quote (form.Atom start) = refl
escape-no-quote form.String = refl
escape-no-quote form.Binary = refl

pub quoted-text : (at : ℕ) (q : QuoteForm) (os : List OpenBracket) (s cs rest : List ℕ) (fin : ℕ) → SpellsQuoted (quote q) s cs → Admitted q (length cs) os → fin ≡ at + length s
    → read_from at (reads_on (in_quotes q []) os) (s ++ rest) ≡ read_from fin (reads_on (in_quotes q cs) os) rest
quoted-text at q os s cs rest fin none ok e = ap (λ (m : ℕ). read_from m (reads_on (in_quotes q []) os) rest) (omega (arith, e))
quoted-text at q os s cs rest fin (plain t ds c sp ch no_quote no-escape) ok e =
    ap (λ (w : List ℕ). read_from at (reads_on (in_quotes q []) os) w) (append_assoc t (c ∷ []) rest)
    ∙ quoted-text at q os t ds (c ∷ rest) (at + length t) sp (admitted-less q (length ds) (length (ds ++ c ∷ [])) os (omega (arith, length-append ds (c ∷ []))) ok) refl
    ∙ byte-taken (at + length t) (reads_on (in_quotes q ds) os) (reads_on (in_quotes q (ds ++ c ∷ [])) os) c rest
    (if-false _ _ _ no_quote ∙ if-false _ _ _ no-escape ∙ if-true _ _ _ ch ∙ admits-text (at + length t) q (length ds) os _ (admitted-less q (length ds + 1) (length (ds ++ c ∷ [])) os (omega (arith, length-append ds (c ∷ []))) ok))
    ∙ ap (λ (m : ℕ). read_from m (reads_on (in_quotes q (ds ++ c ∷ [])) os) rest) (omega (arith, e, length-append t (c ∷ [])))
quoted-text at q os s cs rest fin (escaped_form t ds c sp h) ok e =
    ap (λ (w : List ℕ). read_from at (reads_on (in_quotes q []) os) w) (append_assoc t (92 ∷ c ∷ []) rest)
    ∙ quoted-text at q os t ds (92 ∷ c ∷ rest) (at + length t) sp (admitted-less q (length ds) (length (ds ++ c ∷ [])) os (omega (arith, length-append ds (c ∷ []))) ok) refl
    ∙ byte-taken (at + length t) (reads_on (in_quotes q ds) os) (reads_on (after_backslash q ds) os) 92 (c ∷ rest)
    (if-false _ _ _ (escape-no-quote q) ∙ admits-text (at + length t) q (length ds) os _ (admitted-less q (length ds + 1) (length (ds ++ c ∷ [])) os (omega (arith, length-append ds (c ∷ []))) ok))
    ∙ byte-taken (at + length t + 1) (reads_on (after_backslash q ds) os) (reads_on (in_quotes q (ds ++ c ∷ [])) os) c rest (if-true _ _ _ h)
    ∙ ap (λ (m : ℕ). read_from m (reads_on (in_quotes q (ds ++ c ∷ [])) os) rest) (omega (arith, e, length-append t (92 ∷ c ∷ [])))
