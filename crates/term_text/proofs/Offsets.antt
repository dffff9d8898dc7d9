-- What the automaton reads from an offset on.
use Rattle.std.proofs.Common.{◌≡◌, refl, ap, sym, subst, ◌∙◌, ◌+◌, ◌-◌, ◌*◌, ◌<◌, ◌≤◌, ◌==◌, ℕ, suc, zero, List, [], ◌∷◌, length, drop, get_or, drop-cons, arith, rules, add-one, Bool, true, false, if◌then◌else◌, nat_le, Result, Ok, Err}
use Rattle.std.proofs.lemmas.List.{drop_all, drop-drop, at_drop_more}
use Rattle.std.proofs.lemmas.Bool.{false≢true, true≢false, lt-leb, leb-true}
use Rattle.ets_term.specs.declared.term.Term.{Term}
use Rattle.std.specs.List.{prefix_len}
use Rattle.term_text.specs.declared.fault.TextFault.{TextFault}
use Rattle.term_text.specs.declared.fault.TextFault.TheVariants.{Unexpected, Unclosed, OutOfRange}
use Rattle.term_text.specs.inside.Reader.{OpenBracket, Number, integer, pid, identifier, byte, Expect, wants, digit, number, Reading, reads_on, found, fails, max_magnitude, take_byte, end, read_from, reading, expect}
use Rattle.term_text.specs.Reading.{ReaderFails, ReaderReturns}
use Rattle.term_text.specs.inside.Parts.{Reaches, ReadsTerm, after_digits}
use Rattle.term_text.specs.Text.{is_digit, value_of_digits, begins}
use Rattle.term_text.proofs.Numbers.{spelled_grows, digit-small}

pub if-false : {A : Type 0} (b : Bool) (x y : A) → b ≡ false → (if b then x else y) ≡ y
if-false true x y h = absurd (true≢false h)
if-false false x y h = refl

pub if-true : {A : Type 0} (b : Bool) (x y : A) → b ≡ true → (if b then x else y) ≡ x
if-true true x y h = refl
if-true false x y h = absurd (false≢true h)

pub read-found : (at : ℕ) (t : Term) (n : ℕ) (bs : List ℕ) → read_from at (found t n) bs ≡ found t n
read-found at t n [] = refl
read-found at t n (b ∷ bs) = read-found (at + 1) t n bs

pub read-fails : (at : ℕ) (f : TextFault) (bs : List ℕ) → read_from at (fails f) bs ≡ fails f
read-fails at f [] = refl
read-fails at f (b ∷ bs) = read-fails (at + 1) f bs

pub fails-along : (f : TextFault) (s z : Reading) → s ≡ z → ReaderFails f z → ReaderFails f s
fails-along f s z e h = let P : Reading → Type 0 = λ x. ReaderFails f x in subst P (sym e) h

-- the step of the byte at
pub read-at : (bytes : List ℕ) (at : ℕ) (s z : Reading) → at < length bytes → take_byte at s (get_or bytes at 0) ≡ z → Reaches bytes at s (at + 1) z
read-at bytes at s z h e = at_drop_more (read_from at s) bytes at 0 h ∙ ap (λ (x : Reading). read_from (at + 1) x (drop (at + 1) bytes)) e

pub fails-at : (bytes : List ℕ) (at : ℕ) (s : Reading) (f : TextFault) → at < length bytes → take_byte at s (get_or bytes at 0) ≡ fails f → read_from at s (drop at bytes) ≡ fails f
fails-at bytes at s f h e = read-at bytes at s (fails f) h e ∙ read-fails (at + 1) f (drop (at + 1) bytes)

pub ends-at : (bytes : List ℕ) (at : ℕ) (s : Reading) → length bytes ≤ at → read_from at s (drop at bytes) ≡ end at s
ends-at bytes at s h = ap (λ (xs : List ℕ). read_from at s xs) (drop_all at bytes h)

pub by-test : {P : Type 0} (b : Bool) → (b ≡ true → P) → (b ≡ false → P) → P
by-test true p q = p refl
by-test false p q = q refl

pub drop-past : (k : ℕ) (b : ℕ) (bs : List ℕ) → drop (k + 1) (b ∷ bs) ≡ drop k bs
drop-past k b bs = rw add-one refl

pub nat-le-true : (m n : ℕ) → m ≤ n → nat_le m n ≡ true
nat-le-true m n h = search (arith, rules)

pub nat-le-false : (m n : ℕ) → n < m → nat_le m n ≡ false
nat-le-false m n h = lt-leb m n h

number-same : (start : ℕ) (kind : Number) (os : List OpenBracket) (m n v w : ℕ) (xs ys : List ℕ) → m ≡ n → v ≡ w → xs ≡ ys
    → read_from m (reads_on (number kind start v) os) xs ≡ read_from n (reads_on (number kind start w) os) ys
number-same start kind os m n v w xs ys e f g = cc

pub prefix-more : (p : ℕ → Bool) (b : ℕ) (bs : List ℕ) → p b ≡ true → prefix_len p (b ∷ bs) ≡ prefix_len p bs + 1
prefix-more p b bs h = if-true _ _ _ h ∙ omega arith

pub prefix-none : (p : ℕ → Bool) (b : ℕ) (bs : List ℕ) → p b ≡ false → prefix_len p (b ∷ bs) ≡ 0
prefix-none p b bs h = if-false _ _ _ h

-- The automaton reads a number in its range to the end of its digits.
pub read-number : (at start n : ℕ) (kind : Number) (os : List OpenBracket) (bs : List ℕ) → value_of_digits n bs ≤ max_magnitude kind
    → read_from at (reads_on (number kind start n) os) bs ≡ read_from (at + prefix_len is_digit bs) (reads_on (number kind start (value_of_digits n bs)) os) (drop (prefix_len is_digit bs) bs)
read-number at start n kind os [] h = number-same start kind os at (at + 0) n n [] [] (omega arith) refl refl
read-number at start n kind os (b ∷ bs) h = by-test (is_digit b)
    (λ d.
    let more : ℕ = n * 10 + (b - 48) in
    let v : value_of_digits n (b ∷ bs) ≡ value_of_digits more bs = if-true _ _ _ d in
    let c : prefix_len is_digit (b ∷ bs) ≡ prefix_len is_digit bs + 1 = prefix-more is_digit b bs d in
    let fits : value_of_digits more bs ≤ max_magnitude kind = omega (arith, v, h) in
    let small : more ≤ max_magnitude kind = omega (arith, spelled_grows more bs, fits) in
    ap (λ (s : Reading). read_from (at + 1) s bs) (if-true _ _ _ d ∙ if-true _ _ _ (nat-le-true _ _ small))
    ∙ read-number (at + 1) start more kind os bs fits
    ∙ number-same start kind os (at + 1 + prefix_len is_digit bs) (at + prefix_len is_digit (b ∷ bs)) (value_of_digits more bs) (value_of_digits n (b ∷ bs)) _ _ (omega (arith, c)) (sym v) (sym (ap (λ (k : ℕ). drop k (b ∷ bs)) c ∙ drop-past (prefix_len is_digit bs) b bs)))
    (λ d.
    let c : prefix_len is_digit (b ∷ bs) ≡ 0 = prefix-none is_digit b bs d in
    number-same start kind os at (at + prefix_len is_digit (b ∷ bs)) n (value_of_digits n (b ∷ bs)) (b ∷ bs) _ (omega (arith, c)) (sym (if-false _ _ _ d)) (sym (ap (λ (k : ℕ). drop k (b ∷ bs)) c)))

-- It fails at the digit that takes a number out of its range.
pub read-passes : (at start n : ℕ) (kind : Number) (os : List OpenBracket) (bs : List ℕ) → n ≤ max_magnitude kind → max_magnitude kind < value_of_digits n bs
    → read_from at (reads_on (number kind start n) os) bs ≡ fails (OutOfRange start)
read-passes at start n kind os [] small h = absurd (omega (arith, small, h))
read-passes at start n kind os (b ∷ bs) small h = by-test (is_digit b)
    (λ d.
    let more : ℕ = n * 10 + (b - 48) in
    let v : value_of_digits n (b ∷ bs) ≡ value_of_digits more bs = if-true _ _ _ d in
    let far : max_magnitude kind < value_of_digits more bs = omega (arith, v, h) in
    by-test (nat_le more (max_magnitude kind))
    (λ k. ap (λ (s : Reading). read_from (at + 1) s bs) (if-true _ _ _ d ∙ if-true _ _ _ k) ∙ read-passes (at + 1) start more kind os bs (leb-true _ _ k) far)
    (λ k. ap (λ (s : Reading). read_from (at + 1) s bs) (if-true _ _ _ d ∙ if-false _ _ _ k) ∙ read-fails (at + 1) (OutOfRange start) bs))
    (λ d. let v : value_of_digits n (b ∷ bs) ≡ n = if-false _ _ _ d in absurd (omega (arith, v, small, h)))

-- the byte after the digits is not a digit
pub prefix-ends : (p : ℕ → Bool) (bs : List ℕ) → begins p (drop (prefix_len p bs) bs) ≡ false
prefix-ends p [] = refl
prefix-ends p (b ∷ bs) = by-test (p b)
    (λ d. ap (λ (k : ℕ). begins p (drop k (b ∷ bs))) (prefix-more p b bs d) ∙ ap (begins p) (drop-past (prefix_len p bs) b bs) ∙ prefix-ends p bs)
    (λ d. ap (λ (k : ℕ). begins p (drop k (b ∷ bs))) (prefix-none p b bs d) ∙ d)

-- after its digits a number is what its kind says
pub number-after : (at start v : ℕ) (kind : Number) (os : List OpenBracket) (rest : List ℕ) → begins is_digit rest ≡ false
    → read_from at (reads_on (number kind start v) os) rest ≡ read_from at (after_digits at kind v os) rest
number-after at start v (integer below) [] [] h = refl
number-after at start v (integer below) (o ∷ os) [] h = refl
number-after at start v pid os [] h = refl
number-after at start v identifier os [] h = refl
number-after at start v (byte bs) os [] h = refl
number-after at start v (integer below) [] (b ∷ rest) h = ap (λ (s : Reading). read_from (at + 1) s rest) (if-false _ _ _ h)
number-after at start v (integer below) (o ∷ os) (b ∷ rest) h = ap (λ (s : Reading). read_from (at + 1) s rest) (if-false _ _ _ h)
number-after at start v pid os (b ∷ rest) h = ap (λ (s : Reading). read_from (at + 1) s rest) (if-false _ _ _ h)
number-after at start v identifier os (b ∷ rest) h = ap (λ (s : Reading). read_from (at + 1) s rest) (if-false _ _ _ h)
number-after at start v (byte bs) os (b ∷ rest) h = ap (λ (s : Reading). read_from (at + 1) s rest) (if-false _ _ _ h)

-- the first digit
digit-first : (at start b : ℕ) (kind : Number) (os : List OpenBracket) (bs : List ℕ) → is_digit b ≡ true
    → read_from at (reads_on (digit kind start) os) (b ∷ bs) ≡ read_from (at + 1) (reads_on (number kind start (b - 48)) os) bs
digit-first at start b kind os bs d = ap (λ (s : Reading). read_from (at + 1) s bs) (if-true _ _ _ d)

first-value : (b : ℕ) (bs : List ℕ) → is_digit b ≡ true → value_of_digits 0 (b ∷ bs) ≡ value_of_digits (b - 48) bs
first-value b bs d = if-true _ _ _ d ∙ ap (λ (n : ℕ). value_of_digits n bs) (omega arith)

-- A number that begins before the byte at, by its digits.
pub number-here : (at start : ℕ) (kind : Number) (os : List OpenBracket) (bs : List ℕ) → begins is_digit bs ≡ true → value_of_digits 0 bs ≤ max_magnitude kind
    → read_from at (reads_on (digit kind start) os) bs ≡ read_from (at + prefix_len is_digit bs) (after_digits (at + prefix_len is_digit bs) kind (value_of_digits 0 bs) os) (drop (prefix_len is_digit bs) bs)
number-here at start kind os [] d h = absurd (false≢true d)
number-here at start kind os (b ∷ bs) d h =
    let v = first-value b bs d in
    let c = prefix-more is_digit b bs d in
    let fits : value_of_digits (b - 48) bs ≤ max_magnitude kind = omega (arith, v, h) in
    digit-first at start b kind os bs d
    ∙ read-number (at + 1) start (b - 48) kind os bs fits
    ∙ number-same start kind os (at + 1 + prefix_len is_digit bs) (at + prefix_len is_digit (b ∷ bs)) (value_of_digits (b - 48) bs) (value_of_digits 0 (b ∷ bs)) _ _ (omega (arith, c)) (sym v) (sym (ap (λ (k : ℕ). drop k (b ∷ bs)) c ∙ drop-past (prefix_len is_digit bs) b bs))
    ∙ number-after _ start _ kind os _ (prefix-ends is_digit (b ∷ bs))

pub number-past : (at start : ℕ) (kind : Number) (os : List OpenBracket) (bs : List ℕ) → begins is_digit bs ≡ true → 9 ≤ max_magnitude kind → max_magnitude kind < value_of_digits 0 bs
    → read_from at (reads_on (digit kind start) os) bs ≡ fails (OutOfRange start)
number-past at start kind os [] d nine h = absurd (false≢true d)
number-past at start kind os (b ∷ bs) d nine h =
    let v = first-value b bs d in
    digit-first at start b kind os bs d
    ∙ read-passes (at + 1) start (b - 48) kind os bs (omega (arith, digit-small b d, nine)) (omega (arith, v, h))

drop-drop-at : (text : List ℕ) (at k : ℕ) → drop k (drop at text) ≡ drop (at + k) text
drop-drop-at text at k = drop-drop k at text

pub begins_at : (p : ℕ → Bool) (text : List ℕ) (at : ℕ) → at < length text → begins p (drop at text) ≡ p (get_or text at 0)
begins_at p text at h = rw (drop-cons text at 0) refl

pub begins_end : (p : ℕ → Bool) (text : List ℕ) (at : ℕ) → length text ≤ at → begins p (drop at text) ≡ false
begins_end p text at h = ap (begins p) (drop_all at text h)

-- a text whose first byte passes has a first byte
pub begins_in : (p : ℕ → Bool) (text : List ℕ) (at : ℕ) → begins p (drop at text) ≡ true → at < length text
begins_in p [] zero h = absurd (false≢true h)
begins_in p [] (suc n) h = absurd (false≢true h)
begins_in p (b ∷ bs) zero h = omega arith
begins_in p (b ∷ bs) (suc n) h = let r = begins_in p bs n h in omega (arith, r)

pub number-reaches : (text : List ℕ) (at start v n : ℕ) (kind : Number) (os : List OpenBracket) → at < length text → is_digit (get_or text at 0) ≡ true
    → v ≡ value_of_digits 0 (drop at text) → v ≤ max_magnitude kind → n ≡ at + prefix_len is_digit (drop at text) → Reaches text at (reads_on (digit kind start) os) n (after_digits n kind v os)
number-reaches text at start v n kind os h d e fits en =
    number-here at start kind os (drop at text) (begins_at is_digit text at h ∙ d) (omega (arith, e, fits))
    ∙ ap (λ (xs : List ℕ). read_from (at + prefix_len is_digit (drop at text)) (after_digits (at + prefix_len is_digit (drop at text)) kind (value_of_digits 0 (drop at text)) os) xs) (drop-drop-at text at (prefix_len is_digit (drop at text)))
    ∙ cc

pub number-fails : (text : List ℕ) (at start : ℕ) (kind : Number) (os : List OpenBracket) → at < length text → is_digit (get_or text at 0) ≡ true
    → 9 ≤ max_magnitude kind → max_magnitude kind < value_of_digits 0 (drop at text) → read_from at (reads_on (digit kind start) os) (drop at text) ≡ fails (OutOfRange start)
number-fails text at start kind os h d nine far = number-past at start kind os (drop at text) (begins_at is_digit text at h ∙ d) nine far

-- signs at the end of the text, and before another byte
pub signs-end : (text cs : List ℕ) (offset i : ℕ) (goal : Expect) (os : List OpenBracket) → i < length cs → length text ≤ offset
    → read_from offset (expect offset (drop i cs) goal os) (drop offset text) ≡ fails (Unclosed offset)
signs-end text cs offset i goal os h k = ends-at text offset _ k ∙ at_drop_more (λ (xs : List ℕ). end offset (expect offset xs goal os)) cs i 0 h

pub signs-wrong : (text cs : List ℕ) (offset i : ℕ) (goal : Expect) (os : List OpenBracket) → i < length cs → offset < length text → (get_or text offset 0 == get_or cs i 0) ≡ false
    → read_from offset (expect offset (drop i cs) goal os) (drop offset text) ≡ fails (Unexpected offset)
signs-wrong text cs offset i goal os h k e =
    fails-at text offset (expect offset (drop i cs) goal os) (Unexpected offset) k
    (at_drop_more (λ (xs : List ℕ). take_byte offset (expect offset xs goal os) (get_or text offset 0)) cs i 0 h ∙ if-false _ _ _ e)

-- what is read from z on is read from s on, if s reaches z
pub reads_along : (text : List ℕ) (at n : ℕ) (s z : Reading) (os : List OpenBracket) (r : Result (Term × ℕ) TextFault) → Reaches text at s n z → ReadsTerm text n z os r → ReadsTerm text at s os r
reads_along text at n s z os (Ok x) e h = e ∙ h
reads_along text at n s z os (Err f) e h = fails-along f _ _ e h

-- what is read outside brackets is the result of the text
pub reads-gives : (text : List ℕ) (r : Result (Term × ℕ) TextFault) → ReadsTerm text 0 (reads_on (wants false) []) [] r → ReaderReturns (reading text) r
reads-gives text (Ok x) h = h ∙ read-found x.1 x.0 x.1 (drop x.1 text)
reads-gives text (Err f) h = h
