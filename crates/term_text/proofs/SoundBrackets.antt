-- The first byte of a term, and of a bracket.
use Rattle.std.proofs.Common.{ℕ, ◌≡◌, refl, ap, sym, subst, ◌∙◌, ◌+◌, ◌≤◌, ◌++◌, ◌==◌, suc, zero, List, [], ◌∷◌, length, arith, rules, Bool, true, false, nat_le, append_assoc}
use Rattle.std.specs.Cmp.Derive.{both_true}
use Rattle.std.proofs.lemmas.List.{append-nil}
use Rattle.std.proofs.lemmas.Bool.{leb-true}
use Rattle.ets_term.specs.declared.term.Term.{Term}
use Rattle.term_text.specs.declared.fault.TextFault.TheVariants.{Unexpected, TooDeep}
use Rattle.term_text.specs.Text.{is_blank, is_digit, closes, begins_term}
use Rattle.term_text.specs.inside.Reader.{OpenBracket, integer, wants, reads_on, bracket, open_bracket, begin, next_in_bracket}
use Rattle.term_text.specs.Faults.{AwaitsItem, fresh, further, AwaitsTerm, a_term}
use Rattle.term_text.specs.Grammar.{AreBlanks, opening_sign, closing_sign, Spells, SpellsTerms, none, empty_bracket, first_term, more_terms}
use Rattle.term_text.proofs.FirstBytes.{begins-small}
use Rattle.term_text.proofs.Names.{small-is-name}
use Rattle.term_text.proofs.Meaning.{At, Holds, blank-more, here-len, holds-if, more-len, noticed}
use Rattle.term_text.proofs.Signs.{close-is, is-byte}
use Rattle.term_text.proofs.SoundNumbers.{one-digit}
use Rattle.term_text.proofs.SoundTerms.{hash-text, open-closed, put-holds}

-- the first byte of a term
none-left : (k : ℕ) (os : List OpenBracket) (pre : List ℕ) → AwaitsTerm k os pre → length os ≤ 127 → (j : ℕ) × (k ≡ suc j)
none-left zero os pre h few = let e = here-len zero os pre h in absurd (omega (arith, e, few))
none-left (suc j) os pre h few = (j, refl)

abbrev at_here : (j : ℕ) (os : List OpenBracket) (pre : List ℕ) (b : ℕ) → AwaitsTerm (suc j) os pre → At os (pre ++ b ∷ []) (b ∷ [])
at_here j os pre b h = record { k = j; p = pre; cut = refl; here = h }

opens : (j : ℕ) (square : Bool) (os : List OpenBracket) (pre : List ℕ) (b : ℕ) → AwaitsTerm (suc j) os pre → b ≡ opening_sign square → Holds (pre ++ b ∷ []) (reads_on (wants true) (open_bracket square ∷ os))
opens j square os pre b h e = record { meaning = (j, (pre, [], ap (λ (x : ℕ). pre ++ x ∷ []) e, h, fresh [] refl), refl) }

abbrev at_as : (os : List OpenBracket) (pre : List ℕ) (b c : ℕ) → b ≡ c → At os pre (b ∷ []) → At os pre (c ∷ [])
at_as os pre b c e a = record { k = a.k; p = a.p; cut = a.cut ∙ ap (λ (x : ℕ). a.p ++ x ∷ []) e; here = a.here }

at-empty : (j : ℕ) (os : List OpenBracket) (pre : List ℕ) → AwaitsTerm (suc j) os pre → At os pre []
at-empty j os pre h = record { k = j; p = pre; cut = sym (append-nil pre); here = h }

pub begin-holds : (at : ℕ) (os : List OpenBracket) (pre : List ℕ) (b k : ℕ) → at ≡ length pre → AwaitsTerm k os pre → Holds (pre ++ b ∷ []) (begin at os b)
unfolding begin
begin-holds at os pre b k len h = holds-if (begins_term b) _ _
    (λ starts. holds-if (nat_le 128 (length os)) _ _ (λ e. let Z : ℕ → Type 0 = λ j. AwaitsTerm j os pre in noticed pre b (TooDeep at) (len, a_term os (subst Z (no-level k (length os) (here-len k os pre h) (leb-true _ _ e)) h) starts)) (λ room.
    let left = none-left k os pre h (few (length os) room) in
    let P : ℕ → Type 0 = λ x. AwaitsTerm x os pre in
    let here : AwaitsTerm (suc left.0) os pre = subst P left.1 h in
    let a : At os (pre ++ b ∷ []) (b ∷ []) = at_here left.0 os pre b here in
    holds-if (b == 123) _ _ (λ e. opens left.0 false os pre b here (is-byte b 123 e)) (λ b1.
    holds-if (b == 91) _ _ (λ e. opens left.0 true os pre b here (is-byte b 91 e)) (λ b2.
    holds-if (b == 45) _ _ (λ e. record { meaning = (45 ∷ [], refl, at_as os (pre ++ b ∷ []) b 45 (is-byte b 45 e) a, len) }) (λ b3.
    holds-if (b == 39) _ _ (λ e. record { meaning = ([], [], refl, at_as os (pre ++ b ∷ []) b 39 (is-byte b 39 e) a, none, omega arith, len) }) (λ b4.
    holds-if (b == 34) _ _ (λ e. record { meaning = ([], [], refl, at_as os (pre ++ b ∷ []) b 34 (is-byte b 34 e) a, none, (λ z. absurd (omega (arith, z))), tt) }) (λ b5.
    holds-if (b == 60) _ _ (λ e. record { meaning = at_as os (pre ++ b ∷ []) b 60 (is-byte b 60 e) a }) (λ b6.
    holds-if (b == 35) _ _ (λ e. record { meaning = (35 ∷ [], at_as os (pre ++ b ∷ []) b 35 (is-byte b 35 e) a, (refl, tt), hash-text []) }) (λ b7.
    holds-if (is_digit b) _ _ (λ d. record { meaning = ([], b ∷ [], refl, a, one-digit (integer false) b d, len) }) (λ d.
    let small = begins-small b starts b1 b2 b3 b4 b5 b6 b7 d in
    record { meaning = (a, small, both_true (small-is-name b small) refl, omega arith, len) }))))))))))
    (λ e. noticed pre b (Unexpected at) len)
  where
    no-level : (k m : ℕ) → m + k ≡ 128 → 128 ≤ m → k ≡ 0
    no-level k m e out_of_levels = omega (arith, e, out_of_levels)

    few : (n : ℕ) → nat_le 128 n ≡ false → n ≤ 127
    few n e = search (arith, rules)

inside-blank : (k : ℕ) (ts : List Term) (inner : List ℕ) (b : ℕ) → AwaitsItem k ts inner → is_blank b ≡ true → AwaitsItem k ts (inner ++ b ∷ [])
inside-blank k ts inner b (fresh blanks h) d = fresh (blanks ++ b ∷ []) (blank-more blanks b h d)
inside-blank k ts inner b (further us row before behind r h i) d =
    let P : List ℕ → Type 0 = λ w. AwaitsItem k ts w in
    subst P (sym (append_assoc row (before ++ 44 ∷ behind) (b ∷ []) ∙ ap (λ (w : List ℕ). row ++ w) (append_assoc before (44 ∷ behind) (b ∷ [])))) (further us row before (behind ++ b ∷ []) r h (blank-more behind b i d))

pub here-blank : (k : ℕ) (os : List OpenBracket) (pre : List ℕ) (b : ℕ) → AwaitsTerm k os pre → is_blank b ≡ true → AwaitsTerm k os (pre ++ b ∷ [])
here-blank k [] pre b h d = (blank-more pre b h.0 d, h.1)
here-blank k (o ∷ os) pre b (outer, inner, e, h, i) d =
    (outer, inner ++ b ∷ [], ap (λ (w : List ℕ). w ++ b ∷ []) e ∙ append_assoc outer (opening_sign o.square ∷ inner) (b ∷ []), h, inside-blank k o.terms inner b i d)

-- the text after the opening sign of an empty bracket
fresh-blanks : (k : ℕ) (ts : List Term) (inner : List ℕ) → AwaitsItem k ts inner → ts ≡ [] → AreBlanks inner
fresh-blanks k ts inner (fresh blanks h) e = h
fresh-blanks k ts inner (further us row before behind r h i) e = absurd (some-terms k row us r e)
  where
    some-terms : (k : ℕ) (row : List ℕ) (us : List Term) → SpellsTerms k row us → us ≡ [] → ⊥
    some-terms k row us (first_term j before s t h sp) e = cc
    some-terms k row us (more_terms j r before behind s ts t q h i sp) e = absurd (not-nil ts t e)
      where
        not-nil : (ts : List Term) (t : Term) → ts ++ t ∷ [] ≡ [] → ⊥
        not-nil [] t e = cc
        not-nil (u ∷ ts) t e = cc

pub opened-holds : (at : ℕ) (o : OpenBracket) (os : List OpenBracket) (pre : List ℕ) (b k : ℕ) → at ≡ length pre → AwaitsTerm k (o ∷ os) pre → o.terms ≡ [] → Holds (pre ++ b ∷ []) (next_in_bracket at (o ∷ os) b)
opened-holds at o os pre b k len h e = holds-if (closes o.square b) _ _
    (λ c.
    let sign = opening_sign o.square in
    let outer = h.0 in
    let inner = h.1 in
    let text : List ℕ = sign ∷ (inner ++ closing_sign o.square ∷ []) in
    let cut : pre ++ b ∷ [] ≡ outer ++ text = ap (λ (w : List ℕ). w ++ b ∷ []) h.2 ∙ append_assoc outer (sign ∷ inner) (b ∷ []) ∙ ap (λ (x : ℕ). outer ++ (sign ∷ (inner ++ x ∷ []))) (close-is o.square b c) in
    let P : List Term → Type 0 = λ ts. Spells (suc k) text (bracket (record { square = o.square; terms = ts })) in
    put-holds os (pre ++ b ∷ []) text (bracket o) (at + 1) (record { k = k; p = outer; cut = cut; here = h.3 })
    (subst P (sym e) (empty_bracket k o.square inner (fresh-blanks k o.terms inner h.4 e))) (more-len at pre b len) (open-closed o.square (inner ++ closing_sign o.square ∷ [])))
    (λ c. begin-holds at (o ∷ os) pre b k len h)
