-- Numbers and the bytes of a binary: what each state says of the text is true.
use Rattle.std.proofs.Common.{ℕ, ◌≡◌, refl, ap, sym, subst, ◌∙◌, ◌+◌, ◌-◌, ◌*◌, ◌≤◌, ◌++◌, ◌==◌, suc, List, [], ◌∷◌, length, arith, Bool, true, false, append_assoc}
use Rattle.std.specs.Cmp.Derive.{both_true}
use Rattle.std.proofs.lemmas.Bool.{false≢true, and_parts}
use Rattle.std.proofs.lemmas.List.{append-nil}
use Rattle.std.specs.List.{list_all}
use Rattle.ets_term.specs.declared.term.Term.TheVariants.{Int, Pid, Tid, Binary}
use Rattle.term_text.specs.declared.fault.TextFault.TheVariants.{Unexpected}
use Rattle.term_text.specs.Text.{is_blank, is_digit, is_lowercase, begins, value_of_digits}
use Rattle.term_text.specs.inside.Reader.{OpenBracket, Number, integer, pid, identifier, byte, whole, with_sign, max_magnitude, next_after_byte, next_after_number, next_digit}
use Rattle.term_text.specs.Faults.{AwaitsByte, opened, comma, LeadsNumber, number_start}
use Rattle.term_text.specs.Grammar.{AreBlanks, SpellsNumber, SpellsBytes, Spells, Ends, first, more, positive, negative, pid_form, identifier_form, bytes}
use Rattle.term_text.proofs.Numbers.{digit-small}
use Rattle.term_text.proofs.Offsets.{if-true}
use Rattle.term_text.proofs.Meaning.{At, Closed, Holds, all-more, at_more, begins-more, blank-more, holds-if, noticed}
use Rattle.term_text.proofs.Signs.{digit-no-small, is-byte, minus-no-small}
use Rattle.term_text.proofs.SoundTerms.{angle-text, unless-found-holds, hash-text, sign-holds}

-- digits
value_of_digits-more : (m : ℕ) (ds : List ℕ) (b : ℕ) → list_all is_digit ds ≡ true → is_digit b ≡ true → value_of_digits m (ds ++ b ∷ []) ≡ value_of_digits m ds * 10 + (b - 48)
value_of_digits-more m [] b h d = if-true _ _ _ d
value_of_digits-more m (c ∷ ds) b h d =
    let q = and_parts (is_digit c) (list_all is_digit ds) h in
    if-true _ _ _ q.0 ∙ value_of_digits-more (m * 10 + (c - 48)) ds b q.1 d ∙ ap (λ (n : ℕ). n * 10 + (b - 48)) (sym (if-true _ _ _ q.0))

pub nine-fits : (kind : Number) (n : ℕ) → n ≤ 9 → n ≤ max_magnitude kind
nine-fits (integer true) n h = omega (arith, h)
nine-fits (integer false) n h = omega (arith, h)
nine-fits pid n h = omega (arith, h)
nine-fits identifier n h = omega (arith, h)
nine-fits (byte bs) n h = omega (arith, h)

pub one-digit : (kind : Number) (b : ℕ) → is_digit b ≡ true → SpellsNumber kind (b ∷ []) (b - 48)
one-digit kind b d = record { some = d; each = both_true d refl; value = if-true _ _ _ d ∙ omega arith; fits = nine-fits kind (b - 48) (digit-small b d) }

pub more-digits : (kind : Number) (ds : List ℕ) (n b : ℕ) → SpellsNumber kind ds n → is_digit b ≡ true → n * 10 + (b - 48) ≤ max_magnitude kind → SpellsNumber kind (ds ++ b ∷ []) (n * 10 + (b - 48))
more-digits kind ds n b h d fits = record { some = begins-more is_digit ds (b ∷ []) h.some; each = all-more is_digit ds b h.each d; value = value_of_digits-more 0 ds b h.each d ∙ ap (λ (m : ℕ). m * 10 + (b - 48)) h.value; fits = fits }

pub digit-holds : (at : ℕ) (kind : Number) (start : ℕ) (os : List OpenBracket) (pre s : List ℕ) (b : ℕ) → at ≡ length pre → LeadsNumber kind s → (a : At os pre s) → start ≡ number_start kind (length a.p) (length a.p + length s) → Holds (pre ++ b ∷ []) (next_digit at kind start os b)
digit-holds at kind start os pre s b len bef a st = holds-if (is_digit b) _ _ (λ d. record { meaning = (s, b ∷ [], bef, at_more os pre s (s ++ b ∷ []) b a refl, one-digit kind b d, st) }) (λ d. noticed pre b (Unexpected at) len)

-- bytes
bytes-with : (bs inner ds : List ℕ) (n : ℕ) → AwaitsByte bs inner → SpellsNumber (byte bs) ds n → SpellsBytes (inner ++ ds) (bs ++ n ∷ [])
bytes-with bs inner ds n (opened blanks h) num = first blanks ds n h (record { some = num.some; each = num.each; value = num.value; fits = num.fits })
bytes-with bs inner ds n (comma us row before behind r h i) num =
    let P : List ℕ → Type 0 = λ w. SpellsBytes w (bs ++ n ∷ []) in
    subst P (sym (append_assoc row (before ++ 44 ∷ behind) ds ∙ ap (λ (w : List ℕ). row ++ w) (append_assoc before (44 ∷ behind) ds)))
    (more row before behind ds us n r h i (record { some = num.some; each = num.each; value = num.value; fits = num.fits }))

pub byte-holds : (at : ℕ) (bs : List ℕ) (os : List OpenBracket) (pre row blanks : List ℕ) (b : ℕ) → at ≡ length pre → At os pre ((60 ∷ 60 ∷ []) ++ (row ++ blanks)) → SpellsBytes row bs → AreBlanks blanks
    → Holds (pre ++ b ∷ []) (next_after_byte at bs os b)
byte-holds at bs os pre row blanks b len a sp bl = holds-if (is_blank b) _ _
    (λ d. record { meaning = (row, blanks ++ b ∷ [], at_more os pre _ ((60 ∷ 60 ∷ []) ++ (row ++ (blanks ++ b ∷ []))) b a (ap (λ (w : List ℕ). 60 ∷ 60 ∷ w) (append_assoc row blanks (b ∷ []))), sp, blank-more blanks b bl d) })
    (λ d. holds-if (b == 44) _ _
    (λ e. record {
      meaning = (
        row ++ (blanks ++ 44 ∷ []),
        at_more os pre _ ((60 ∷ 60 ∷ []) ++ (row ++ (blanks ++ 44 ∷ []))) b a (ap (λ (w : List ℕ). 60 ∷ 60 ∷ w) (append_assoc row blanks (b ∷ []) ∙ ap (λ (x : ℕ). row ++ (blanks ++ x ∷ [])) (is-byte b 44 e))),
        comma bs row blanks [] sp bl refl,
      );
    })
    (λ e. sign-holds at (62 ∷ 62 ∷ []) (whole (Binary bs)) os pre ((60 ∷ 60 ∷ []) ++ (row ++ blanks)) b len a
    (λ k. let P : List ℕ → Type 0 = λ w. Spells (suc k) (60 ∷ 60 ∷ w) (Binary bs) in subst P (sym (append_assoc row blanks (62 ∷ 62 ∷ []))) (bytes k row blanks bs sp bl))
    (angle-text _)))

-- an integer ends where no digit follows
integer-ends : (s : List ℕ) (b : ℕ) (rest : List ℕ) → begins is_lowercase s ≡ false → is_digit b ≡ false → Ends s (b ∷ rest)
integer-ends s b rest h d = (λ e. d, λ e. absurd (false≢true (sym h ∙ e)))

digits-no-small : (ds : List ℕ) → begins is_digit ds ≡ true → begins is_lowercase ds ≡ false
digits-no-small [] h = refl
digits-no-small (b ∷ ds) h = digit-no-small b h

pub integer-spelled : (below : Bool) (k : ℕ) (s ds : List ℕ) (n : ℕ) → LeadsNumber (integer below) s → SpellsNumber (integer below) ds n → Spells (suc k) (s ++ ds) (Int (with_sign below n))
integer-spelled true k s ds n e num = let P : List ℕ → Type 0 = λ w. Spells (suc k) (w ++ ds) (Int (with_sign true n)) in subst P (sym e) (negative k ds n num)
integer-spelled false k s ds n e num = let P : List ℕ → Type 0 = λ w. Spells (suc k) (w ++ ds) (Int (with_sign false n)) in subst P (sym e) (positive k ds n num)

integer-no-small : (below : Bool) (s ds : List ℕ) (n : ℕ) → LeadsNumber (integer below) s → SpellsNumber (integer below) ds n → begins is_lowercase (s ++ ds) ≡ false
integer-no-small true s ds n e num = ap (λ (w : List ℕ). begins is_lowercase (w ++ ds)) e ∙ minus-no-small
integer-no-small false s ds n e num = ap (λ (w : List ℕ). begins is_lowercase (w ++ ds)) e ∙ digits-no-small ds num.some

pub number-holds : (at : ℕ) (kind : Number) (n : ℕ) (os : List OpenBracket) (pre s ds : List ℕ) (b : ℕ) → at ≡ length pre → LeadsNumber kind s → At os pre (s ++ ds) → SpellsNumber kind ds n → is_digit b ≡ false
    → Holds (pre ++ b ∷ []) (next_after_number at kind n os b)
number-holds at (integer below) n os pre s ds b len bef a num d =
    unless-found-holds at os pre (s ++ ds) (Int (with_sign below n)) b a len (integer-spelled below a.k s ds n bef num) (λ rest. integer-ends (s ++ ds) b rest (integer-no-small below s ds n bef num) d)
number-holds at pid n os pre s ds b len bef a num d =
    let Q : List ℕ → Type 0 = λ w. Closed (w ++ ds) in
    sign-holds at (46 ∷ 48 ∷ 62 ∷ []) (whole (Pid n)) os pre (s ++ ds) b len a
    (λ k. let P : List ℕ → Type 0 = λ w. Spells (suc k) ((w ++ ds) ++ 46 ∷ 48 ∷ 62 ∷ []) (Pid n) in subst P (sym bef) (pid_form k ds n num))
    (subst Q (sym bef) (angle-text _))
number-holds at identifier n os pre s ds b len bef a num d =
    let Q : List ℕ → Type 0 = λ w. Closed (w ++ ds) in
    sign-holds at (62 ∷ []) (whole (Tid n)) os pre (s ++ ds) b len a
    (λ k. let P : List ℕ → Type 0 = λ w. Spells (suc k) ((w ++ ds) ++ 62 ∷ []) (Tid n) in subst P (sym bef) (identifier_form k ds n num))
    (subst Q (sym bef) (hash-text _))
number-holds at (byte bs) n os pre s ds b len (inner, e, in_bytes) a num d =
    let grown : At os pre ((60 ∷ 60 ∷ []) ++ ((inner ++ ds) ++ [])) = (let P : List ℕ → Type 0 = λ w. At os pre w in
    subst P (ap (λ (w : List ℕ). w ++ ds) e ∙ ap (λ (w : List ℕ). 60 ∷ 60 ∷ w) (sym (append-nil (inner ++ ds)))) a) in
    byte-holds at (bs ++ n ∷ []) os pre (inner ++ ds) [] b len grown (bytes-with bs inner ds n in_bytes num) refl

pub bytes-blank : (bs inner : List ℕ) (b : ℕ) → AwaitsByte bs inner → is_blank b ≡ true → AwaitsByte bs (inner ++ b ∷ [])
bytes-blank bs inner b (opened blanks h) d = opened (blanks ++ b ∷ []) (blank-more blanks b h d)
bytes-blank bs inner b (comma us row before behind r h i) d =
    let P : List ℕ → Type 0 = λ w. AwaitsByte bs w in
    subst P (sym (append_assoc row (before ++ 44 ∷ behind) (b ∷ []) ∙ ap (λ (w : List ℕ). row ++ w) (append_assoc before (44 ∷ behind) (b ∷ [])))) (comma us row before (behind ++ b ∷ []) r h (blank-more behind b i d))
