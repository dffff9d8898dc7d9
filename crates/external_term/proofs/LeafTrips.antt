-- What is written for a term that holds no terms reads back.
use Rattle.std.proofs.Common.{◌≡◌, ℕ, suc, ◌+◌, ◌-◌, ◌^◌, ◌<◌, ◌≤◌, ℤ, pos, negsuc, ◌≤ℤ◌, List, [], ◌∷◌, ◌++◌, length, refl, sym, subst, ap, ◌∙◌, arith, Bool, true, false, ◌&&◌, nat_le, nat_lt, if◌then◌else◌, add-one, inl, inr}
use Rattle.std.proofs.lemmas.Bool.{cases_lt}
use Rattle.std.proofs.lemmas.Bool.Decides.{nat_tests}
use Rattle.std.proofs.lemmas.Int.{ints}
use Rattle.std.specs.List.{list_all}
use Rattle.std.specs.Prelude.{slice_range}
use Rattle.ets_term.specs.Character.{is_character, IsAtomText}
use Rattle.ets_term.specs.Integers.{least, greatest}
use Rattle.ets_term.specs.declared.term.Term.{Term}
use Rattle.ets_term.specs.declared.term.Term.TheVariants.{Int, Atom, Binary}
use Rattle.external_term.specs.declared.field.Width.TheVariants.{One, Four}
use Rattle.external_term.specs.Encoding.{big4, digits_of, big_bytes, encode_integer, atom_bytes, binary_bytes}
use Rattle.external_term.specs.Fields.{after, number_at, piece_at}
use Rattle.external_term.specs.Integers.{with_sign32, little, with_sign, max_magnitude, big_if, big_value}
use Rattle.external_term.specs.Texts.{is_atom_text, atom_if, name_at}
use Rattle.external_term.specs.Reader.{form, form_if, term_at}
use Rattle.external_term.specs.Tags.{tag_of}
use Rattle.external_term.proofs.Digits.{low_short, low_little}
use Rattle.external_term.proofs.SmallIntegers.{byte_bytes, word_bytes, wide_bytes, negative_word, negative_wide}
use Rattle.external_term.proofs.BytesAt.{At, head, inside, tail, behind, range, ok, ends, after_ok, one_at, four_at, piece}

-- at the offset of these bytes, the reader finds the term
abbrev pub Reads : Term → ℕ → List ℕ → Type 0
Reads t levels xs =
    (bytes : List ℕ) (at : ℕ) (rest : List ℕ) → At bytes at xs rest → term_at bytes (suc levels) at ≡ ok t (at + length xs)

-- by the tag at the offset
pub dispatch : (bytes : List ℕ) (at levels x : ℕ) (xs rest : List ℕ) → At bytes at (x ∷ xs) rest
    → term_at bytes (suc levels) at ≡ form bytes levels (term_at bytes levels) at (tag_of x)
unfolding term_at
dispatch bytes at levels x xs rest h =
    let k : at < length bytes = inside bytes at x xs rest h in
    let e : nat_lt at (length bytes) ≡ true = grind (arith, nat_tests) in
    ap (λ (b : Bool). form_if b bytes levels (term_at bytes levels) at) e
    ∙ ap (λ (y : ℕ). form bytes levels (term_at bytes levels) at (tag_of y)) (head bytes at x xs rest h)

byte_reads : (n levels : ℕ) → Reads (Int (pos n)) levels (97 ∷ n ∷ [])
byte_reads n levels bytes at rest h =
    dispatch bytes at levels 97 (n ∷ []) rest h
    ∙ after_ok (number_at One bytes (at + 1)) n (at + 1 + 1) (λ (m end : ℕ). ok (Int (pos m)) end) (ok (Int (pos n)) (at + 2))
    (one_at bytes (at + 1) n [] rest (tail bytes at 97 (n ∷ []) rest h)) (ends (Int (pos n)) (at + 1 + 1) (at + 2) (omega arith))

word_reads : (n levels : ℕ) → n < 2 ^ 32 → Reads (Int (with_sign32 n)) levels (98 ∷ big4 n)
word_reads n levels small bytes at rest h =
    dispatch bytes at levels 98 (big4 n) rest h
    ∙ after_ok (number_at Four bytes (at + 1)) n (at + 1 + 4) (λ (m end : ℕ). ok (Int (with_sign32 m)) end) (ok (Int (with_sign32 n)) (at + 5))
    (four_at bytes (at + 1) n [] rest small (tail bytes at 98 (big4 n) rest h)) (ends (Int (with_sign32 n)) (at + 1 + 4) (at + 5) (omega arith))

pub both : (a b : Bool) → a ≡ true → b ≡ true → (a && b) ≡ true
both a b e f = ap (λ (x : Bool). x && b) e ∙ f

big_reads : (n s levels : ℕ) (negative : Bool) → nat_lt 0 s ≡ negative → n ≤ max_magnitude negative → n < 2 ^ 128
    → Reads (Int (with_sign negative n)) levels (big_bytes s n)
big_reads n s levels negative sign small fits bytes at rest h =
    let ds = digits_of n in
    let len = length ds in
    let third = at + 1 + 1 + 1 in
    let a1 = tail bytes at 110 (len ∷ s ∷ ds) rest h in
    let a2 = tail bytes (at + 1) len (s ∷ ds) rest a1 in
    let a3 = tail bytes (at + 1 + 1) s ds rest a2 in
    let few : len ≤ 16 = low_short 16 n in
    let value : little (slice_range bytes third (third + len)) ≡ n =
    ap little (range bytes third (third + len) ds rest a3 refl) ∙ low_little 16 n fits in
    let t1 : nat_le len 16 ≡ true = grind (arith, nat_tests) in
    let t2 : nat_le n (max_magnitude negative) ≡ true = grind (arith, nat_tests) in
    let big : big_value bytes at len (nat_lt 0 s) third (third + len) ≡ ok (Int (with_sign negative n)) (third + len) =
    ap (λ (b : Bool). big_value bytes at len b third (third + len)) sign
    ∙ ap (λ (m : ℕ). big_if (nat_le len 16 && nat_le m (max_magnitude negative)) at negative m (third + len)) value
    ∙ ap (λ (b : Bool). big_if b at negative n (third + len)) (both (nat_le len 16) (nat_le n (max_magnitude negative)) t1 t2) in
    dispatch bytes at levels 110 (len ∷ s ∷ ds) rest h
    ∙ after_ok (number_at One bytes (at + 1)) len (at + 1 + 1)
    (λ (m second : ℕ). after (number_at One bytes second) (λ (sign third : ℕ). after (piece_at m bytes third) (λ (start end : ℕ). big_value bytes at m (nat_lt 0 sign) start end)))
    (ok (Int (with_sign negative n)) (at + length (big_bytes s n))) (one_at bytes (at + 1) len (s ∷ ds) rest a1)
    (after_ok (number_at One bytes (at + 1 + 1)) s third
    (λ (sign third : ℕ). after (piece_at len bytes third) (λ (start end : ℕ). big_value bytes at len (nat_lt 0 sign) start end))
    (ok (Int (with_sign negative n)) (at + length (big_bytes s n))) (one_at bytes (at + 1 + 1) s ds rest a2)
    (after_ok (piece_at len bytes third) third (third + len) (λ (start end : ℕ). big_value bytes at len (nat_lt 0 s) start end)
    (ok (Int (with_sign negative n)) (at + length (big_bytes s n))) (piece bytes third len ds rest refl a3)
    (big ∙ ends (Int (with_sign negative n)) (third + len) (at + length (big_bytes s n)) (omega arith))))

pub reads_as : (t u : Term) (levels : ℕ) (xs ys : List ℕ) → t ≡ u → xs ≡ ys → Reads t levels xs → Reads u levels ys
reads_as t u levels xs ys e f h =
    let P : Term → Type 0 = λ v. Reads v levels ys in
    let Q : List ℕ → Type 0 = λ zs. Reads t levels zs in
    subst P e (subst Q f h)

signed32_low : (n : ℕ) → n < 2 ^ 31 → with_sign32 n ≡ pos n
signed32_low n h = let e : nat_lt n (2 ^ 31) ≡ true = grind (arith, nat_tests) in
    ap (λ (b : Bool). if b then pos n else negsuc (2 ^ 32 - 1 - n)) e

signed32_high : (n m : ℕ) → n + m ≡ 2 ^ 32 - 1 → m < 2 ^ 31 → with_sign32 n ≡ negsuc m
signed32_high n m e h =
    let k : 2 ^ 31 ≤ n = omega arith in
    let f : nat_lt n (2 ^ 31) ≡ false = grind (arith, nat_tests) in
    let g : 2 ^ 32 - 1 - n ≡ m = omega arith in
    ap (λ (b : Bool). if b then pos n else negsuc (2 ^ 32 - 1 - n)) f ∙ ap negsuc g

pub integer_reads : (n : ℤ) (levels : ℕ) → least ≤ℤ n → n ≤ℤ greatest → Reads (Int n) levels (encode_integer n)
integer_reads (pos n) levels low high = let top : n < 2 ^ 127 = omega (arith, ints, high) in
    elim (cases_lt n 256) [
      | inl h ↦ reads_as (Int (pos n)) (Int (pos n)) levels _ _ refl (sym (byte_bytes n h)) (byte_reads n levels)
      | inr h ↦ elim (cases_lt n (2 ^ 31)) [
        | inl k ↦ reads_as (Int (with_sign32 n)) (Int (pos n)) levels _ _ (ap Int (signed32_low n k)) (sym (word_bytes n h k)) (word_reads n levels (omega (arith, k)))
        | inr k ↦ reads_as (Int (pos n)) (Int (pos n)) levels _ _ refl (sym (wide_bytes n k)) (big_reads n 0 levels false refl (omega (arith, top)) (omega (arith, top)))
      ]
    ]
integer_reads (negsuc n) levels low high = let top : n < 2 ^ 127 = omega (arith, ints, low) in
    elim (cases_lt n (2 ^ 31)) [
      | inl k ↦ reads_as (Int (with_sign32 (2 ^ 32 - 1 - n))) (Int (negsuc n)) levels _ _ (ap Int (signed32_high (2 ^ 32 - 1 - n) n (omega (arith, k)) k)) (sym (negative_word n k)) (word_reads (2 ^ 32 - 1 - n) levels (omega arith))
      | inr k ↦ reads_as (Int (with_sign true (n + 1))) (Int (negsuc n)) levels _ _ (ap (λ (m : ℕ). Int (with_sign true m)) (add-one n)) (sym (negative_wide n k)) (big_reads (n + 1) 1 levels true refl (omega (arith, top)) (omega (arith, top)))
    ]

pub name_reads : (bytes : List ℕ) (at : ℕ) (s rest : List ℕ) → At bytes at (length s ∷ s) rest → name_at One bytes at ≡ ok (at + 1) (at + 1 + length s)
name_reads bytes at s rest h =
    after_ok (number_at One bytes at) (length s) (at + 1) (λ (n next : ℕ). piece_at n bytes next) (ok (at + 1) (at + 1 + length s))
    (one_at bytes at (length s) s rest h) (piece bytes (at + 1) (length s) s rest refl (tail bytes at (length s) s rest h))

pub atom_reads : (s : List ℕ) (levels : ℕ) → IsAtomText s → Reads (Atom s) levels (atom_bytes s)
atom_reads s levels fits bytes at rest h =
    let start = at + 1 + 1 in
    let end = start + length s in
    let a1 = tail bytes at 119 (length s ∷ s) rest h in
    let a2 = tail bytes (at + 1) (length s) s rest a1 in
    let short : length s ≤ 255 = fits.short in
    let t1 : nat_le (length s) 255 ≡ true = grind (arith, nat_tests) in
    let text : is_atom_text s ≡ true = both (nat_le (length s) 255) (list_all is_character s) t1 fits.each in
    dispatch bytes at levels 119 (length s ∷ s) rest h
    ∙ after_ok (name_at One bytes (at + 1)) start end
    (λ (start end : ℕ). atom_if (is_atom_text (slice_range bytes start end)) at (slice_range bytes start end) end) (ok (Atom s) (at + length (atom_bytes s)))
    (name_reads bytes (at + 1) s rest a1)
    (ap (λ (x : List ℕ). atom_if (is_atom_text x) at x end) (range bytes start end s rest a2 refl)
    ∙ ap (λ (b : Bool). atom_if b at s end) text
    ∙ ends (Atom s) end (at + length (atom_bytes s)) (omega arith))

pub binary_reads : (bs : List ℕ) (levels : ℕ) → length bs < 2 ^ 32 → Reads (Binary bs) levels (binary_bytes bs)
binary_reads bs levels small bytes at rest h =
    let n = length bs in
    let start = at + 1 + 4 in
    let a1 = tail bytes at 109 (big4 n ++ bs) rest h in
    let a2 : At bytes start bs rest = behind bytes (at + 1) (big4 n) bs rest a1 in
    dispatch bytes at levels 109 (big4 n ++ bs) rest h
    ∙ after_ok (number_at Four bytes (at + 1)) n start
    (λ (m next : ℕ). after (piece_at m bytes next) (λ (start end : ℕ). ok (Binary (slice_range bytes start end)) end))
    (ok (Binary bs) (at + length (binary_bytes bs))) (four_at bytes (at + 1) n bs rest small a1)
    (after_ok (piece_at n bytes start) start (start + n) (λ (start end : ℕ). ok (Binary (slice_range bytes start end)) end)
    (ok (Binary bs) (at + length (binary_bytes bs))) (piece bytes start n bs rest refl a2)
    (ap (λ (x : List ℕ). ok (Binary x) (start + n)) (range bytes start (start + n) bs rest a2 refl)
    ∙ ends (Binary bs) (start + n) (at + length (binary_bytes bs)) (omega arith)))
