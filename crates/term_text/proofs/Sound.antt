-- A term that the automaton finds is spelled at the front of the text.
use Rattle.std.proofs.Common.{ℕ, ◌≡◌, refl, sym, subst, ◌∙◌, ◌+◌, ◌-◌, ◌*◌, ◌<◌, ◌≤◌, ◌++◌, ◌==◌, suc, List, [], ◌∷◌, length, arith, rules, true, false, nat_le, append_assoc, length-append}
use Rattle.std.proofs.lemmas.List.{append-nil}
use Rattle.std.proofs.lemmas.Bool.{false≢true, leb-true}
use Rattle.ets_term.specs.declared.term.Term.{Term}
use Rattle.ets_term.specs.declared.term.Term.TheVariants.{Int, Atom}
use Rattle.term_text.specs.declared.fault.TextFault.{TextFault}
use Rattle.term_text.specs.declared.fault.TextFault.TheVariants.{OutOfRange, AtomTooLong}
use Rattle.term_text.specs.Text.{is_blank, is_digit, is_lowercase, is_name, begins}
use Rattle.term_text.specs.inside.Reader.{OpenBracket, integer, byte, Mode, wants, digit, number, name, in_quotes, after_backslash, signs, angle, opened_binary, wants_byte, after_byte, after_string, after, Reading, reads_on, found, fails, with_sign, max_magnitude, next, end, read_from, reading}
use Rattle.term_text.specs.Faults.{plain_form}
use Rattle.term_text.specs.Grammar.{Spells, Ends, Front, plain_atom}
use Rattle.term_text.proofs.Offsets.{read-fails}
use Rattle.term_text.proofs.Meaning.{At, Holds, Means, MeansIn, all-more, at_more, begins-more, holds-if, more-len, noticed}
use Rattle.term_text.proofs.Signs.{is-byte, small-no-number}
use Rattle.term_text.proofs.SoundBinaries.{angle-second, first-byte, string-holds}
use Rattle.term_text.proofs.SoundBrackets.{begin-holds, here-blank, opened-holds}
use Rattle.term_text.proofs.SoundNumbers.{byte-holds, bytes-blank, digit-holds, integer-spelled, more-digits, number-holds}
use Rattle.term_text.proofs.SoundQuotes.{escaped-holds, quoted-holds}
use Rattle.term_text.proofs.SoundTerms.{after-holds, after-form, unless-found-holds, front-of, sign-holds}

name-ends : (cs : List ℕ) (b : ℕ) (rest : List ℕ) → begins is_lowercase cs ≡ true → is_name b ≡ false → Ends cs (b ∷ rest)
name-ends [] b rest h n = absurd (false≢true h)
name-ends (c ∷ cs) b rest h n = (λ e. absurd (false≢true (sym (small-no-number c h) ∙ e)), λ e. n)

room-255 : (n : ℕ) → n ≤ 255 → (n == 255) ≡ false → n + 1 ≤ 255
room-255 n h e = search (arith, rules)

name-room : (cs : List ℕ) (b : ℕ) → length cs ≤ 255 → (length cs == 255) ≡ false → length (cs ++ b ∷ []) ≤ 255
name-room cs b h e = let r = room-255 (length cs) h e in omega (arith, r, length-append cs (b ∷ []))

past-top : (m n : ℕ) → nat_le m n ≡ false → n < m
past-top m n e = search (arith, rules)

pub next-holds : (at : ℕ) (mode : Mode) (os : List OpenBracket) (pre : List ℕ) (b : ℕ) → at ≡ length pre → MeansIn pre mode os → Holds (pre ++ b ∷ []) (next at mode os b)
next-holds at (wants true) [] pre b len h = absurd h
next-holds at (wants true) (o ∷ os) pre b len (k, h, e) = holds-if (is_blank b) _ _ (λ d. record { meaning = (k, here-blank k (o ∷ os) pre b h d, e) }) (λ d. opened-holds at o os pre b k len h e)
next-holds at (wants false) os pre b len (k, h) = holds-if (is_blank b) _ _ (λ d. record { meaning = (k, here-blank k os pre b h d) }) (λ d. begin-holds at os pre b k len h)
next-holds at (digit kind start) os pre b len (s, bef, a, st) = digit-holds at kind start os pre s b len bef a st
next-holds at (number kind start n) os pre b len (s, ds, bef, a, num, st) = holds-if (is_digit b) _ _
    (λ d. holds-if (nat_le (n * 10 + (b - 48)) (max_magnitude kind)) _ _
    (λ e. record { meaning = (s, ds ++ b ∷ [], bef, at_more os pre (s ++ ds) (s ++ (ds ++ b ∷ [])) b a (append_assoc s ds (b ∷ [])), more-digits kind ds n b num d (leb-true _ _ e), st) })
    (λ e. noticed pre b (OutOfRange start) (record { os = os; k = a.k; kind = kind; value = n; lead = a.p; before = s; digits = ds; cut = a.cut; here = a.here; is_before = bef; spells = num; begins = st; digit = d; past = past-top (n * 10 + (b - 48)) (max_magnitude kind) e })))
    (λ d. number-holds at kind n os pre s ds b len bef a num d)
next-holds at (name start cs) os pre b len (a, small, names, few, st) = holds-if (is_name b) _ _
    (λ d. holds-if (length cs == 255) _ _ (λ e. noticed pre b (AtomTooLong start) (plain_form os a.k a.p cs a.cut a.here st small names (is-byte (length cs) 255 e) d))
    (λ e. record { meaning = (at_more os pre cs (cs ++ b ∷ []) b a refl, begins-more is_lowercase cs (b ∷ []) small, all-more is_name cs b names d, name-room cs b few e, st) }))
    (λ d. unless-found-holds at os pre cs (Atom cs) b a len (plain_atom a.k cs small names few) (λ rest. name-ends cs b rest small d))
next-holds at (in_quotes q cs) os pre b len (s, body, lead, a, sp, ok, starts) = quoted-holds at q cs os pre s body b len lead a sp ok starts
next-holds at (after_backslash q cs) os pre b len (s, body, lead, a, sp, ok, starts) = escaped-holds at q cs os pre s body b len lead a sp ok starts
next-holds at (signs cs goal) os pre b len (s, a, l, c) = sign-holds at cs goal os pre s b len a l c
next-holds at angle os pre b len a = angle-second at os pre b len a
next-holds at opened_binary os pre b len (blanks, a, bl) = first-byte at os pre blanks b len a bl
next-holds at (wants_byte bs) os pre b len (inner, a, in_bytes) = holds-if (is_blank b) _ _
    (λ d. record { meaning = (inner ++ b ∷ [], at_more os pre ((60 ∷ 60 ∷ []) ++ inner) ((60 ∷ 60 ∷ []) ++ (inner ++ b ∷ [])) b a refl, bytes-blank bs inner b in_bytes d) })
    (λ d. digit-holds at (byte bs) at os pre ((60 ∷ 60 ∷ []) ++ inner) b len (inner, refl, in_bytes) a (after-form os pre ((60 ∷ 60 ∷ []) ++ inner) at a len))
next-holds at (after_byte bs) os pre b len (row, blanks, a, sp, bl) = byte-holds at bs os pre row blanks b len a sp bl
next-holds at (after_string bs) os pre b len (before, body, behind, a, h, sp, i) = string-holds at bs os pre before body behind b len a h sp i
next-holds at after [] pre b len h = absurd h
next-holds at after (o ∷ os) pre b len h = after-holds at o os pre b len h

nothing-ends : (s : List ℕ) → Ends s []
nothing-ends s = (λ e. refl, λ e. refl)

-- a term that the end of the text ends
front-end : (pre s : List ℕ) (u t : Term) (m n : ℕ) (a : At [] pre s) → Spells (suc a.k) s u → m ≡ length pre → u ≡ t → m ≡ n → Front pre t n
front-end pre s u t m n a sp len e f =
    let P : List ℕ → Type 0 = λ w. Front w u m in
    let Q : Term → Type 0 = λ x. Front pre x m in
    let R : ℕ → Type 0 = λ x. Front pre t x in
    let S : ℕ → Type 0 = λ k. Spells k s u in
    subst R f (subst Q e (subst P (append-nil pre) (front-of pre a.p s u m [] a.cut a.here.0 (subst S a.here.1 sp) len (nothing-ends s))))

same-term : (u t : Term) (m n : ℕ) → found u m ≡ found t n → u ≡ t
same-term u t m n e = cc

same-count : (u t : Term) (m n : ℕ) → found u m ≡ found t n → m ≡ n
same-count u t m n e = cc

no-fault : (f : TextFault) (t : Term) (n : ℕ) → fails f ≡ found t n → ⊥
no-fault f t n e = cc

-- the end of the text
end-sound : (at : ℕ) (mode : Mode) (os : List OpenBracket) (pre : List ℕ) (t : Term) (n : ℕ) → at ≡ length pre → MeansIn pre mode os → end at (reads_on mode os) ≡ found t n → Front pre t n
end-sound at (number (integer below) start v) [] pre t n len (s, ds, bef, a, num, st) e =
    front-end pre (s ++ ds) (Int (with_sign below v)) t at n a (integer-spelled below a.k s ds v bef num) len (same-term _ t at n e) (same-count (Int (with_sign below v)) t at n e)
end-sound at (number (integer below) start v) (o ∷ os) pre t n len h e = absurd (no-fault _ t n e)
end-sound at (name start cs) [] pre t n len (a, small, names, few, st) e =
    front-end pre cs (Atom cs) t at n a (plain_atom a.k cs small names few) len (same-term _ t at n e) (same-count (Atom cs) t at n e)
end-sound at (name start cs) (o ∷ os) pre t n len h e = absurd (no-fault _ t n e)
end-sound at mode os pre t n len h e = absurd (no-fault _ t n e)

found-on : (pre : List ℕ) (b : ℕ) (t : Term) (n : ℕ) → Means pre (found t n) → Means (pre ++ b ∷ []) (found t n)
found-on pre b t n h = λ rest. let P : List ℕ → Type 0 = λ w. Front w t n in subst P (sym (append_assoc pre (b ∷ []) rest)) (h (b ∷ rest))

-- a result from a state over the rest of a text is a result of the whole text
pub read-sound : (bs : List ℕ) (at : ℕ) (s : Reading) (pre : List ℕ) (t : Term) (n : ℕ) → at ≡ length pre → Means pre s → read_from at s bs ≡ found t n → Front (pre ++ bs) t n
read-sound [] at (reads_on mode os) pre t n len h e = let P : List ℕ → Type 0 = λ w. Front w t n in subst P (sym (append-nil pre)) (end-sound at mode os pre t n len h e)
read-sound [] at (found u m) pre t n len h e =
    let Q : Term → Type 0 = λ x. Front (pre ++ []) x m in
    let R : ℕ → Type 0 = λ x. Front (pre ++ []) t x in
    subst R (same-count u t m n e) (subst Q (same-term u t m n e) (h []))
read-sound [] at (fails f) pre t n len h e = absurd (no-fault f t n e)
read-sound (b ∷ bs) at (reads_on mode os) pre t n len h e =
    let P : List ℕ → Type 0 = λ w. Front w t n in
    subst P (append_assoc pre (b ∷ []) bs) (read-sound bs (at + 1) (next at mode os b) (pre ++ b ∷ []) t n (more-len at pre b len) (next-holds at mode os pre b len h).meaning e)
read-sound (b ∷ bs) at (found u m) pre t n len h e =
    let P : List ℕ → Type 0 = λ w. Front w t n in
    subst P (append_assoc pre (b ∷ []) bs) (read-sound bs (at + 1) (found u m) (pre ++ b ∷ []) t n (more-len at pre b len) (found-on pre b u m h) e)
read-sound (b ∷ bs) at (fails f) pre t n len h e = absurd (no-fault f t n (sym (read-fails (at + 1) f bs) ∙ e))

pub sound : (text : List ℕ) (t : Term) (n : ℕ) → reading text ≡ found t n → Front text t n
sound text t n e = read-sound text 0 (reads_on (wants false) []) [] t n refl (128, (refl, refl)) e
