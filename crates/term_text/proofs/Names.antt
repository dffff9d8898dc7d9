-- Atoms without quotes.
use Rattle.std.proofs.Common.{◌≡◌, refl, ap, sym, ◌∙◌, ◌+◌, ◌-◌, ◌<◌, ◌≤◌, ◌++◌, ◌==◌, ℕ, suc, zero, List, [], ◌∷◌, length, take, drop, get_or, arith, rules, add-one, true, false, append_assoc, length-append}
use Rattle.std.proofs.lemmas.List.{append-nil, at_drop_more, drop-drop}
use Rattle.std.proofs.lemmas.Bool.{true≢false}
use Rattle.std.proofs.lemmas.Bool.Decides.{nat_tests}
use Rattle.std.specs.List.{list_all, prefix_len}
use Rattle.ets_term.specs.Character.{is_character, IsAtomText}
use Rattle.ets_term.specs.declared.term.Term.TheVariants.{Atom}
use Rattle.term_text.specs.declared.fault.TextFault.TheVariants.{AtomTooLong}
use Rattle.term_text.specs.inside.Reader.{OpenBracket, name, Reading, reads_on, fails, put, read_from}
use Rattle.term_text.specs.inside.Parts.{Reaches}
use Rattle.term_text.specs.Text.{is_digit, is_lowercase, is_name, begins}
use Rattle.term_text.proofs.Offsets.{by-test, if-true, if-false, read-fails, prefix-more, prefix-none, prefix-ends, drop-past}

is-255 : (n : ℕ) → (n == 255) ≡ true → n ≡ 255
is-255 n h = search (arith, rules)

not-255 : (n : ℕ) → n < 255 → (n == 255) ≡ false
not-255 n h = search (arith, rules)

same-255 : (n : ℕ) → n ≡ 255 → (n == 255) ≡ true
same-255 n h = search (arith, rules)

take-past : (k b : ℕ) (bs : List ℕ) → take (k + 1) (b ∷ bs) ≡ b ∷ take k bs
take-past k b bs = rw add-one refl

name-same : (start : ℕ) (os : List OpenBracket) (m n : ℕ) (cs ds xs ys : List ℕ) → m ≡ n → cs ≡ ds → xs ≡ ys → read_from m (reads_on (name start cs) os) xs ≡ read_from n (reads_on (name start ds) os) ys
name-same start os m n cs ds xs ys e f g = cc

-- The automaton reads a name of at most 255 characters to its end.
pub read-name : (at start : ℕ) (cs : List ℕ) (os : List OpenBracket) (bs : List ℕ) → length cs + prefix_len is_name bs ≤ 255
    → read_from at (reads_on (name start cs) os) bs ≡ read_from (at + prefix_len is_name bs) (reads_on (name start (cs ++ take (prefix_len is_name bs) bs)) os) (drop (prefix_len is_name bs) bs)
read-name at start cs os [] h = name-same start os at (at + 0) cs (cs ++ []) [] [] (omega arith) (sym (append-nil cs)) refl
read-name at start cs os (b ∷ bs) h = by-test (is_name b)
    (λ d.
    let c = prefix-more is_name b bs d in
    let k = prefix_len is_name bs in
    ap (λ (s : Reading). read_from (at + 1) s bs) (if-true _ _ _ d ∙ if-false _ _ _ (not-255 (length cs) (omega (arith, c, h))))
    ∙ read-name (at + 1) start (cs ++ b ∷ []) os bs (omega (arith, c, h, length-append cs (b ∷ [])))
    ∙ name-same start os (at + 1 + k) (at + prefix_len is_name (b ∷ bs)) ((cs ++ b ∷ []) ++ take k bs) (cs ++ take (prefix_len is_name (b ∷ bs)) (b ∷ bs)) (drop k bs) (drop (prefix_len is_name (b ∷ bs)) (b ∷ bs))
    (omega (arith, c))
    (append_assoc cs (b ∷ []) (take k bs) ∙ sym (ap (λ (n : ℕ). cs ++ take n (b ∷ bs)) c ∙ ap (λ (xs : List ℕ). cs ++ xs) (take-past k b bs)))
    (sym (ap (λ (n : ℕ). drop n (b ∷ bs)) c ∙ drop-past k b bs)))
    (λ d.
    let c = prefix-none is_name b bs d in
    name-same start os at (at + prefix_len is_name (b ∷ bs)) cs (cs ++ take (prefix_len is_name (b ∷ bs)) (b ∷ bs)) (b ∷ bs) (drop (prefix_len is_name (b ∷ bs)) (b ∷ bs))
    (omega (arith, c)) (sym (ap (λ (n : ℕ). cs ++ take n (b ∷ bs)) c ∙ append-nil cs)) (sym (ap (λ (n : ℕ). drop n (b ∷ bs)) c)))

-- It fails at the 256th character of a longer name.
pub read-long-name : (at start : ℕ) (cs : List ℕ) (os : List OpenBracket) (bs : List ℕ) → length cs ≤ 255 → 255 < length cs + prefix_len is_name bs
    → read_from at (reads_on (name start cs) os) bs ≡ fails (AtomTooLong start)
read-long-name at start cs os [] few h = absurd (omega (arith, few, h))
read-long-name at start cs os (b ∷ bs) few h = by-test (is_name b)
    (λ d. let c = prefix-more is_name b bs d in
    by-test (length cs == 255)
    (λ e. ap (λ (s : Reading). read_from (at + 1) s bs) (if-true _ _ _ d ∙ if-true _ _ _ e) ∙ read-fails (at + 1) (AtomTooLong start) bs)
    (λ e. ap (λ (s : Reading). read_from (at + 1) s bs) (if-true _ _ _ d ∙ if-false _ _ _ e)
    ∙ read-long-name (at + 1) start (cs ++ b ∷ []) os bs (omega (arith, few, not-equal (length cs) e, length-append cs (b ∷ []))) (omega (arith, c, h, length-append cs (b ∷ [])))))
    (λ d. let c = prefix-none is_name b bs d in absurd (omega (arith, c, few, h)))
  where
    not-equal : (n : ℕ) → (n == 255) ≡ false → n ≡ 255 → ⊥
    not-equal n e k = true≢false (sym (same-255 n k) ∙ e)

pub name-after : (at start : ℕ) (cs : List ℕ) (os : List OpenBracket) (rest : List ℕ) → begins is_name rest ≡ false
    → read_from at (reads_on (name start cs) os) rest ≡ read_from at (put os (Atom cs) at) rest
name-after at start cs [] [] h = refl
name-after at start cs (o ∷ os) [] h = refl
name-after at start cs [] (b ∷ bs) h = ap (λ (s : Reading). read_from (at + 1) s bs) (if-false _ _ _ h)
name-after at start cs (o ∷ os) (b ∷ bs) h = ap (λ (s : Reading). read_from (at + 1) s bs) (if-false _ _ _ h)

pub small-is-name : (b : ℕ) → is_lowercase b ≡ true → is_name b ≡ true
unfolding is_name
small-is-name b h = rw h refl

-- the first character, and the others
first-name : (text : List ℕ) (at : ℕ) → at < length text → is_lowercase (get_or text at 0) ≡ true → prefix_len is_name (drop at text) ≡ prefix_len is_name (drop (at + 1) text) + 1
first-name text at h d = at_drop_more (prefix_len is_name) text at 0 h ∙ prefix-more is_name (get_or text at 0) (drop (at + 1) text) (small-is-name _ d)

pub name-reaches : (text : List ℕ) (at n : ℕ) (os : List OpenBracket) → at < length text → is_lowercase (get_or text at 0) ≡ true → n ≡ at + prefix_len is_name (drop at text) → n - at ≤ 255
    → Reaches text (at + 1) (reads_on (name at (get_or text at 0 ∷ [])) os) n (put os (Atom (take (n - at) (drop at text))) n)
name-reaches text at n os h d e few =
    let b = get_or text at 0 in
    let bs : List ℕ = drop (at + 1) text in
    let k : ℕ = prefix_len is_name bs in
    let c : prefix_len is_name (drop at text) ≡ k + 1 = first-name text at h d in
    let len : n ≡ at + 1 + k = omega (arith, c, e) in
    let size : n - at ≡ k + 1 = omega (arith, c, e) in
    let taken : b ∷ take k bs ≡ take (n - at) (drop at text) = sym (ap (λ (m : ℕ). take m (drop at text)) size ∙ at_drop_more (take (k + 1)) text at 0 h ∙ take-past k b bs) in
    read-name (at + 1) at (b ∷ []) os bs (omega (arith, size, few))
    ∙ name-after (at + 1 + k) at (b ∷ take k bs) os (drop k bs) (prefix-ends is_name bs)
    ∙ ap (λ (xs : List ℕ). read_from (at + 1 + k) (put os (Atom (b ∷ take k bs)) (at + 1 + k)) xs) (drop-drop k (at + 1) text)
    ∙ ap (λ (m : ℕ). read_from m (put os (Atom (b ∷ take k bs)) m) (drop m text)) (sym len)
    ∙ ap (λ (cs : List ℕ). read_from n (put os (Atom cs) n) (drop n text)) taken

pub name-fails : (text : List ℕ) (at n : ℕ) (os : List OpenBracket) → at < length text → is_lowercase (get_or text at 0) ≡ true → n ≡ at + prefix_len is_name (drop at text) → 255 < n - at
    → read_from (at + 1) (reads_on (name at (get_or text at 0 ∷ [])) os) (drop (at + 1) text) ≡ fails (AtomTooLong at)
name-fails text at n os h d e far =
    let c = first-name text at h d in
    read-long-name (at + 1) at (get_or text at 0 ∷ []) os (drop (at + 1) text) (omega arith) (omega (arith, c, e, far))

is-character-name : (b : ℕ) → is_name b ≡ true → is_character b ≡ true
unfolding is_name is_lowercase is_digit
is-character-name b h = grind (arith, nat_tests)

names-are-characters : (bs : List ℕ) → list_all is_character (take (prefix_len is_name bs) bs) ≡ true
names-are-characters [] = refl
names-are-characters (b ∷ bs) = by-test (is_name b)
    (λ d. ap (λ (n : ℕ). list_all is_character (take n (b ∷ bs))) (prefix-more is_name b bs d) ∙ ap (list_all is_character) (take-past (prefix_len is_name bs) b bs) ∙ rw (is-character-name b d) (names-are-characters bs))
    (λ d. ap (λ (n : ℕ). list_all is_character (take n (b ∷ bs))) (prefix-none is_name b bs d))

take-le : (k : ℕ) (bs : List ℕ) → length (take k bs) ≤ k
take-le zero bs = omega arith
take-le (suc k) [] = omega arith
take-le (suc k) (b ∷ bs) = let r = take-le k bs in omega (arith, r)

pub name-is-text : (text : List ℕ) (at n : ℕ) → n ≡ at + prefix_len is_name (drop at text) → n - at ≤ 255 → IsAtomText (take (n - at) (drop at text))
name-is-text text at n e few =
    let size : n - at ≡ prefix_len is_name (drop at text) = omega (arith, e) in
    record { short = rw size (omega (arith, take-le (prefix_len is_name (drop at text)) (drop at text), size, few)); each = ap (λ (m : ℕ). list_all is_character (take m (drop at text))) size ∙ names-are-characters (drop at text) }
