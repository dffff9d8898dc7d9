-- Characters between quotes: what each state says of the text is true.
use Rattle.std.proofs.Common.{ℕ, ◌≡◌, refl, ap, sym, subst, ◌∙◌, ◌+◌, ◌<◌, ◌≤◌, ◌++◌, ◌==◌, ◌||◌, suc, zero, List, [], ◌∷◌, length, map, arith, rules, true, false, nat_le, append_assoc, length-append}
use Rattle.std.proofs.lemmas.Bool.{leb-true}
use Rattle.ets_term.specs.Character.{is_character}
use Rattle.ets_term.specs.declared.term.Term.TheVariants.{Atom, List as ListOf}
use Rattle.term_text.specs.declared.fault.TextFault.TheVariants.{Unexpected, TooDeep, AtomTooLong}
use Rattle.term_text.specs.declared.quote_form.QuoteForm.{QuoteForm}
use Rattle.term_text.specs.declared.quote_form.QuoteForm.TheVariants as form
use Rattle.term_text.specs.inside.Reader.{OpenBracket, in_quotes, after_backslash, Reading, reads_on, code, quote, after_quote, admits, next_in_quotes, next}
use Rattle.term_text.specs.Faults.{AwaitsTerm, PastAtom, quoted_form, PastDepth, a_character}
use Rattle.term_text.specs.Grammar.{SpellsQuoted, Spells, none, plain, escaped as escaped_form, quoted_atom, empty_string, string}
use Rattle.term_text.proofs.Meaning.{Admitted, At, Holds, Lead, QuoteStarts, at_more, here-len, holds-if, more-len, noticed}
use Rattle.term_text.proofs.Signs.{is-byte, sign-is-character}
use Rattle.term_text.proofs.SoundTerms.{put-holds, quote-closed, string-closed}

-- quotes
nothing-quoted : (q : ℕ) (body cs : List ℕ) → SpellsQuoted q body cs → length cs ≡ 0 → body ≡ []
nothing-quoted q body cs none e = refl
nothing-quoted q body cs (plain s ds c sp h i j) e = absurd (omega (arith, e, length-append ds (c ∷ [])))
nothing-quoted q body cs (escaped_form s ds c sp h) e = absurd (omega (arith, e, length-append ds (c ∷ [])))

string-spelled : (k m : ℕ) (body cs : List ℕ) → SpellsQuoted 34 body cs → m + suc k ≡ 128 → (0 < length cs → m ≤ 126) → Spells (suc k) (34 ∷ (body ++ 34 ∷ [])) (ListOf (map code cs))
string-spelled k m body [] sp e ok = let P : List ℕ → Type 0 = λ w. Spells (suc k) (34 ∷ (w ++ 34 ∷ [])) (ListOf []) in subst P (sym (nothing-quoted 34 body [] sp refl)) (empty_string k)
string-spelled zero m body (c ∷ cs) sp e ok = let few = ok (omega arith) in absurd (omega (arith, few, e))
string-spelled (suc j) m body (c ∷ cs) sp e ok = string j body (c ∷ cs) sp (omega arith)

pub after_quote-holds : (n : ℕ) (q : QuoteForm) (cs : List ℕ) (os : List OpenBracket) (pre s body : List ℕ) → n ≡ length pre → Lead q s → At os pre (s ++ (quote q ∷ (body ++ quote q ∷ []))) → SpellsQuoted (quote q) body cs → Admitted q (length cs) os
    → Holds pre (after_quote n q cs os)
after_quote-holds n (form.Atom start) cs os pre s body len lead a sp ok =
    let P : List ℕ → Type 0 = λ w. At os pre (w ++ (39 ∷ (body ++ 39 ∷ []))) in
    let b = subst P lead a in
    put-holds os pre (39 ∷ (body ++ 39 ∷ [])) (Atom cs) n b (quoted_atom b.k body cs sp ok) len (λ rest. quote-closed (body ++ 39 ∷ []) rest)
after_quote-holds n form.String cs os pre s body len lead a sp ok =
    let P : List ℕ → Type 0 = λ w. At os pre (w ++ (34 ∷ (body ++ 34 ∷ []))) in
    let b = subst P lead a in
    put-holds os pre (34 ∷ (body ++ 34 ∷ [])) (ListOf (map code cs)) n b (string-spelled b.k (length os) body cs sp (here-len (suc b.k) os b.p b.here) ok) len (λ rest. string-closed (body ++ 34 ∷ []) rest)
after_quote-holds n form.Binary cs os pre s body len (blanks, e, bl) a sp ok =
    record { meaning = (blanks, body, [], (let P : List ℕ → Type 0 = λ w. At os pre w in subst P (ap (λ (w : List ℕ). w ++ (34 ∷ (body ++ 34 ∷ []))) e) a), bl, sp, refl) }

-- a further character in quotes
escape-more : (q : QuoteForm) (body cs : List ℕ) (b : ℕ) → SpellsQuoted (quote q) body cs → ((b == quote q) || (b == 92)) ≡ true → SpellsQuoted (quote q) ((body ++ 92 ∷ []) ++ b ∷ []) (cs ++ b ∷ [])
escape-more q body cs b sp h = let P : List ℕ → Type 0 = λ w. SpellsQuoted (quote q) w (cs ++ b ∷ []) in subst P (sym (append_assoc body (92 ∷ []) (b ∷ []))) (escaped_form body cs b sp h)

abbrev characters_at : (os : List OpenBracket) (pre s body z : List ℕ) (q : QuoteForm) (b : ℕ) → At os pre (s ++ (quote q ∷ body)) → body ++ b ∷ [] ≡ z → At os (pre ++ b ∷ []) (s ++ (quote q ∷ z))
characters_at os pre s body z q b a e = at_more os pre (s ++ (quote q ∷ body)) (s ++ (quote q ∷ z)) b a (append_assoc s (quote q ∷ body) (b ∷ []) ∙ ap (λ (w : List ℕ). s ++ (quote q ∷ w)) e)

-- the fault of one more character
abbrev RefusedBy : QuoteForm → ℕ → List ℕ → ℕ → ℕ → List OpenBracket → Type 0
RefusedBy (form.Atom start) at pre b n os = n ≡ 255 → PastAtom pre b start
RefusedBy form.String at pre b n os = 127 ≤ length os → (at ≡ length pre) × PastDepth pre b
RefusedBy form.Binary at pre b n os = Unit {0}

refused : (q : QuoteForm) (at : ℕ) (pre : List ℕ) (b : ℕ) (cs : List ℕ) (os : List OpenBracket) (s body : List ℕ) (a : At os pre (s ++ (quote q ∷ body))) → at ≡ length pre → Lead q s → SpellsQuoted (quote q) body cs → Admitted q (length cs) os → QuoteStarts q a.p
    → is_character b ≡ true → (b == quote q) ≡ false → RefusedBy q at pre b (length cs) os
refused (form.Atom start) at pre b cs os s body a len lead sp ok starts char other =
    λ full. quoted_form os a.k a.p body cs (a.cut ∙ ap (λ (w : List ℕ). a.p ++ (w ++ (39 ∷ body))) lead) a.here starts sp full char other
refused form.String at pre b cs os s body a len lead sp ok starts char other = λ out_of_levels.
    let none : length cs ≡ 0 = nothing (length cs) (length os) out_of_levels ok in
    let empty = nothing-quoted 34 body cs sp none in
    let P : ℕ → Type 0 = λ k. AwaitsTerm k os a.p in
    (len, a_character os a.p (a.cut ∙ ap (λ (w : List ℕ). a.p ++ (w ++ (34 ∷ body))) lead ∙ ap (λ (w : List ℕ). a.p ++ 34 ∷ w) empty) (subst P (last-level (suc a.k) (length os) (here-len (suc a.k) os a.p a.here) out_of_levels (omega arith)) a.here) char other)
  where
    nothing : (n m : ℕ) → 127 ≤ m → (0 < n → m ≤ 126) → n ≡ 0
    nothing zero m out_of_levels ok = refl
    nothing (suc n) m out_of_levels ok = let few = ok (omega arith) in absurd (omega (arith, out_of_levels, few))

    last-level : (k m : ℕ) → m + k ≡ 128 → 127 ≤ m → 0 < k → k ≡ 1
    last-level k m e out_of_levels some = omega (arith, e, out_of_levels, some)
refused form.Binary at pre b cs os s body a len lead sp ok starts char other = tt

-- one more character is allowed
admits-holds : (at : ℕ) (q : QuoteForm) (n : ℕ) (os : List OpenBracket) (pre : List ℕ) (b : ℕ) (s : Reading) → Admitted q n os → RefusedBy q at pre b n os → (Admitted q (n + 1) os → Holds (pre ++ b ∷ []) s) → Holds (pre ++ b ∷ []) (admits at q n os s)
admits-holds at (form.Atom start) n os pre b s ok why h = holds-if (n == 255) _ _ (λ e. noticed pre b (AtomTooLong start) (why (is-byte n 255 e))) (λ e. h (less n ok e))
  where
    less : (n : ℕ) → n ≤ 255 → (n == 255) ≡ false → n + 1 ≤ 255
    less n h e = search (arith, rules)
admits-holds at form.String n os pre b s ok why h = holds-if (nat_le 127 (length os)) _ _ (λ e. noticed pre b (TooDeep at) (why (leb-true _ _ e))) (λ e. h (λ _. few (length os) e))
  where
    few : (n : ℕ) → nat_le 127 n ≡ false → n ≤ 126
    few n e = search (arith, rules)
admits-holds at form.Binary n os pre b s ok why h = h tt

length-one : (cs : List ℕ) (b : ℕ) → length cs + 1 ≡ length (cs ++ b ∷ [])
length-one cs b = omega (arith, length-append cs (b ∷ []))

admitted-as : (q : QuoteForm) (m n : ℕ) (os : List OpenBracket) → m ≡ n → Admitted q m os → Admitted q n os
admitted-as q m n os e h = let P : ℕ → Type 0 = λ k. Admitted q k os in subst P e h

pub quoted-holds : (at : ℕ) (q : QuoteForm) (cs : List ℕ) (os : List OpenBracket) (pre s body : List ℕ) (b : ℕ) → at ≡ length pre → Lead q s → (a : At os pre (s ++ (quote q ∷ body))) → SpellsQuoted (quote q) body cs → Admitted q (length cs) os → QuoteStarts q a.p
    → Holds (pre ++ b ∷ []) (next_in_quotes at q cs os b)
quoted-holds at q cs os pre s body b len lead a sp ok starts = holds-if (b == quote q) _ _
    (λ e. after_quote-holds (at + 1) q cs os (pre ++ b ∷ []) s body (more-len at pre b len) lead (characters_at os pre s body (body ++ quote q ∷ []) q b a (ap (λ (x : ℕ). body ++ x ∷ []) (is-byte b (quote q) e))) sp ok)
    (λ e. holds-if (b == 92) _ _
    (λ f. let P : ℕ → Type 0 = λ c. is_character c ≡ true in
    admits-holds at q (length cs) os pre b (reads_on (after_backslash q cs) os) ok (refused q at pre b cs os s body a len lead sp ok starts (subst P (sym (is-byte b 92 f)) sign-is-character) e)
    (λ room. record { meaning = (s, body, lead, characters_at os pre s body (body ++ 92 ∷ []) q b a (ap (λ (x : ℕ). body ++ x ∷ []) (is-byte b 92 f)), sp, room, starts) }))
    (λ f. holds-if (is_character b) _ _
    (λ c. admits-holds at q (length cs) os pre b (reads_on (in_quotes q (cs ++ b ∷ [])) os) ok (refused q at pre b cs os s body a len lead sp ok starts c e) (λ room.
    record { meaning = (s, body ++ b ∷ [], lead, characters_at os pre s body (body ++ b ∷ []) q b a refl, plain body cs b sp c e f, admitted-as q (length cs + 1) (length (cs ++ b ∷ [])) os (length-one cs b) room, starts) }))
    (λ c. noticed pre b (Unexpected at) len)))

pub escaped-holds : (at : ℕ) (q : QuoteForm) (cs : List ℕ) (os : List OpenBracket) (pre s body : List ℕ) (b : ℕ) → at ≡ length pre → Lead q s → (a : At os pre (s ++ (quote q ∷ (body ++ 92 ∷ [])))) → SpellsQuoted (quote q) body cs → Admitted q (length cs + 1) os → QuoteStarts q a.p
    → Holds (pre ++ b ∷ []) (next at (after_backslash q cs) os b)
escaped-holds at q cs os pre s body b len lead a sp ok starts = holds-if ((b == quote q) || (b == 92)) _ _
    (λ e. record { meaning = (s, (body ++ 92 ∷ []) ++ b ∷ [], lead, characters_at os pre s (body ++ 92 ∷ []) ((body ++ 92 ∷ []) ++ b ∷ []) q b a refl, escape-more q body cs b sp e, admitted-as q (length cs + 1) (length (cs ++ b ∷ [])) os (length-one cs b) ok, starts) })
    (λ e. noticed pre b (Unexpected at) len)
