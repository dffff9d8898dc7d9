-- The automaton reads each spelling of numbers, blanks and signs.
use Rattle.std.proofs.Common.{ℕ, ◌≡◌, refl, ap, sym, ◌∙◌, ◌+◌, ◌-◌, ◌*◌, ◌++◌, List, [], ◌∷◌, length, drop, arith, Bool, true, false}
use Rattle.std.proofs.lemmas.Bool.{false≢true, and_parts}
use Rattle.std.proofs.Math.Seq.{drop-append_seam}
use Rattle.std.specs.List.{list_all, prefix_len}
use Rattle.term_text.specs.inside.Parts.{IgnoresBlanks, after_digits}
use Rattle.term_text.specs.Text.{is_blank, is_digit, begins, value_of_digits}
use Rattle.term_text.specs.inside.Reader.{OpenBracket, Number, Expect, digit, signs, Reading, reads_on, expect, take_byte, read_from}
use Rattle.term_text.specs.Grammar.{AreBlanks, SpellsNumber}
use Rattle.term_text.proofs.Offsets.{if-true, if-false, number-here, prefix-more}
use Rattle.term_text.proofs.Meaning.{begins-more}
use Rattle.term_text.proofs.Signs.{same}

pub prefix-all : (p : ℕ → Bool) (s rest : List ℕ) → list_all p s ≡ true → begins p rest ≡ false → prefix_len p (s ++ rest) ≡ length s
prefix-all p [] [] h k = refl
prefix-all p [] (b ∷ rest) h k = if-false _ _ _ k
prefix-all p (c ∷ s) rest h k = let q = and_parts (p c) (list_all p s) h in prefix-more p c (s ++ rest) q.0 ∙ (let r = prefix-all p s rest q.1 k in omega (arith, r))

value_of_digits-all : (m : ℕ) (s rest : List ℕ) → list_all is_digit s ≡ true → begins is_digit rest ≡ false → value_of_digits m (s ++ rest) ≡ value_of_digits m s
value_of_digits-all m [] [] h k = refl
value_of_digits-all m [] (b ∷ rest) h k = if-false _ _ _ k
value_of_digits-all m (c ∷ s) rest h k = let q = and_parts (is_digit c) (list_all is_digit s) h in if-true _ _ _ q.0 ∙ value_of_digits-all (m * 10 + (c - 48)) s rest q.1 k ∙ sym (if-true _ _ _ q.0)

pub byte-taken : (at : ℕ) (s z : Reading) (b : ℕ) (bs : List ℕ) → take_byte at s b ≡ z → read_from at s (b ∷ bs) ≡ read_from (at + 1) z bs
byte-taken at s z b bs h = ap (λ (x : Reading). read_from (at + 1) x bs) h

after_digits-same : (kind : Number) (os : List OpenBracket) (m n v w : ℕ) (xs ys : List ℕ) → m ≡ n → v ≡ w → xs ≡ ys → read_from m (after_digits m kind v os) xs ≡ read_from n (after_digits n kind w os) ys
after_digits-same kind os m n v w xs ys e f g = cc

pub number-text : (at start : ℕ) (kind : Number) (os : List OpenBracket) (s rest : List ℕ) (n fin : ℕ) → SpellsNumber kind s n → begins is_digit rest ≡ false → fin ≡ at + length s
    → read_from at (reads_on (digit kind start) os) (s ++ rest) ≡ read_from fin (after_digits fin kind n os) rest
number-text at start kind os s rest n fin h k e =
    let c = prefix-all is_digit s rest h.each k in
    let v : value_of_digits 0 (s ++ rest) ≡ n = value_of_digits-all 0 s rest h.each k ∙ h.value in
    number-here at start kind os (s ++ rest) (begins-more is_digit s rest h.some) (omega (arith, v, h.fits))
    ∙ after_digits-same kind os _ fin _ n _ rest (omega (arith, c, e)) v (ap (λ (m : ℕ). drop m (s ++ rest)) c ∙ drop-append_seam s rest)

pub blanks-stay : (at : ℕ) (s : Reading) (bs rest : List ℕ) → IgnoresBlanks s → AreBlanks bs → read_from at s (bs ++ rest) ≡ read_from (at + length bs) s rest
blanks-stay at s [] rest i h = ap (λ (m : ℕ). read_from m s rest) (omega arith)
blanks-stay at s (b ∷ bs) rest i h =
    let q = and_parts (is_blank b) (list_all is_blank bs) h in
    byte-taken at s s b (bs ++ rest) (i at b q.0) ∙ blanks-stay (at + 1) s bs rest i q.1 ∙ ap (λ (m : ℕ). read_from m s rest) (omega arith)

pub signs-text : (at : ℕ) (cs : List ℕ) (goal : Expect) (os : List OpenBracket) (rest : List ℕ) (fin : ℕ) → fin ≡ at + length cs → read_from at (expect at cs goal os) (cs ++ rest) ≡ read_from fin (expect fin [] goal os) rest
signs-text at [] goal os rest fin e = ap (λ (m : ℕ). read_from m (expect m [] goal os) rest) (omega (arith, e))
signs-text at (c ∷ cs) goal os rest fin e = byte-taken at (reads_on (signs (c ∷ cs) goal) os) (expect (at + 1) cs goal os) c (cs ++ rest) (if-true _ _ _ (same c)) ∙ signs-text (at + 1) cs goal os rest fin (omega (arith, e))

-- what the next byte is not
pub begins-other : (p q : ℕ → Bool) (s rest : List ℕ) → begins p s ≡ true → ((b : ℕ) → p b ≡ true → q b ≡ false) → begins q (s ++ rest) ≡ false
begins-other p q [] rest h k = absurd (false≢true h)
begins-other p q (b ∷ s) rest h k = k b h

pub blanks-then : (q : ℕ → Bool) (bs : List ℕ) (x : ℕ) (tail : List ℕ) → AreBlanks bs → ((b : ℕ) → is_blank b ≡ true → q b ≡ false) → q x ≡ false → begins q (bs ++ x ∷ tail) ≡ false
blanks-then q [] x tail h k e = e
blanks-then q (b ∷ bs) x tail h k e = k b (and_parts (is_blank b) (list_all is_blank bs) h).0
