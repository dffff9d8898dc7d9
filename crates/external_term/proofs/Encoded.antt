-- The encodings of terms, kind by kind, and their first bytes.
use Rattle.std.proofs.Common.{◌≡◌, ℕ, ◌+◌, ℤ, List, [], ◌∷◌, ◌++◌, map, length, get_or, drop, ◌<◌, ◌≤◌, refl, sym, ap, ◌∙◌, rules, arith, Bool, true, false, if◌then◌else◌, nat_lt, ◌==◌, append_assoc}
use Rattle.std.proofs.lemmas.List.{at_drop_more, at_drop_all}
use Rattle.std.proofs.lemmas.Bool.Decides.{nat_tests}
use Rattle.ets_term.specs.Encoding.{concat}
use Rattle.ets_term.specs.declared.term.Term.{Term, the_lemmas}
use Rattle.ets_term.specs.declared.term.Term.TheVariants.{Int, Atom, Pid, Tid, Tuple, List as ListOf, Binary}
use Rattle.external_term.specs.Encoding.{big4, encode_integer, atom_bytes, pid_bytes, reference_bytes, tuple_bytes, string_bytes, long_list_bytes, list_bytes, binary_bytes, tuple_header, encode, is_small, is_string, char_of}

pub encode-Int : (n : ℤ) → encode (Int n) ≡ encode_integer n
encode-Int n = search (rules, the_lemmas)

pub encode-Atom : (s : List ℕ) → encode (Atom s) ≡ atom_bytes s
encode-Atom s = search (rules, the_lemmas)

pub encode-Pid : (n : ℕ) → encode (Pid n) ≡ pid_bytes n
encode-Pid n = search (rules, the_lemmas)

pub encode-Tid : (n : ℕ) → encode (Tid n) ≡ reference_bytes n
encode-Tid n = search (rules, the_lemmas)

pub encode-Tuple : (ts : List Term) → encode (Tuple ts) ≡ tuple_bytes (map encode ts)
encode-Tuple ts = search (rules, the_lemmas)

pub encode-List : (ts : List Term) → encode (ListOf ts) ≡ list_bytes (map encode ts)
encode-List ts = search (rules, the_lemmas)

pub encode-Binary : (bs : List ℕ) → encode (Binary bs) ≡ binary_bytes bs
encode-Binary bs = search (rules, the_lemmas)

-- a tuple or list is not a small integer
tuple_if : (b : Bool) (n : ℕ) (xs : List ℕ) → is_small ((if b then 104 ∷ n ∷ [] else 105 ∷ big4 n) ++ xs) ≡ false
tuple_if true n xs = refl
tuple_if false n xs = refl

pub tuple_not_small : (es : List (List ℕ)) → is_small (tuple_bytes es) ≡ false
tuple_not_small es = tuple_if (nat_lt (length es) 256) (length es) (concat es)

list_if : (b c : Bool) (xs ys : List ℕ) → is_small (if b then 106 ∷ [] else if c then 107 ∷ xs else 108 ∷ ys) ≡ false
list_if true c xs ys = refl
list_if false true xs ys = refl
list_if false false xs ys = refl

pub list_not_small : (es : List (List ℕ)) → is_small (list_bytes es) ≡ false
list_not_small es = list_if (length es == 0) (is_string es) _ _

-- the forms of a list
pub list_empty : (es : List (List ℕ)) → length es ≡ 0 → list_bytes es ≡ 106 ∷ []
list_empty es h = let e : (length es == 0) ≡ true = grind (arith, nat_tests) in
    ap (λ (b : Bool). if b then 106 ∷ [] else if is_string es then string_bytes es else long_list_bytes es) e

list_some : (es : List (List ℕ)) → (length es ≡ 0 → ⊥) → list_bytes es ≡ (if is_string es then string_bytes es else long_list_bytes es)
list_some es h = let e : (length es == 0) ≡ false = grind (arith, nat_tests) in
    ap (λ (b : Bool). if b then 106 ∷ [] else if is_string es then string_bytes es else long_list_bytes es) e

pub list_string : (es : List (List ℕ)) → (length es ≡ 0 → ⊥) → is_string es ≡ true → list_bytes es ≡ string_bytes es
list_string es h e = list_some es h ∙ ap (λ (b : Bool). if b then string_bytes es else long_list_bytes es) e

pub list_long : (es : List (List ℕ)) → (length es ≡ 0 → ⊥) → is_string es ≡ false → list_bytes es ≡ long_list_bytes es
list_long es h e = list_some es h ∙ ap (λ (b : Bool). if b then string_bytes es else long_list_bytes es) e

-- the forms of a tuple's header
pub header_short : (n : ℕ) → n < 256 → tuple_header n ≡ 104 ∷ n ∷ []
header_short n h = let e : nat_lt n 256 ≡ true = grind (arith, nat_tests) in
    ap (λ (b : Bool). if b then 104 ∷ n ∷ [] else 105 ∷ big4 n) e

pub header_long : (n : ℕ) → 256 ≤ n → tuple_header n ≡ 105 ∷ big4 n
header_long n h = let e : nat_lt n 256 ≡ false = grind (arith, nat_tests) in
    ap (λ (b : Bool). if b then 104 ∷ n ∷ [] else 105 ∷ big4 n) e

-- the encodings of the terms from one on
pub joined_more : (ts : List Term) (i : ℕ) (t : Term) → i < length ts → get_or ts i t ≡ t
    → concat (map encode (drop i ts)) ≡ encode t ++ concat (map encode (drop (i + 1) ts))
joined_more ts i t h e =
    at_drop_more (λ (us : List Term). concat (map encode us)) ts i t h
    ∙ ap (λ (u : Term). encode u ++ concat (map encode (drop (i + 1) ts))) e

pub joined_end : (ts : List Term) (i : ℕ) → length ts ≤ i → concat (map encode (drop i ts)) ≡ []
joined_end ts i h = at_drop_all (λ (us : List Term). concat (map encode us)) ts i h

-- a piece was appended
pub piece_put : (out now rest piece more all : List ℕ) → rest ≡ piece ++ more → now ≡ out ++ piece → out ++ rest ≡ all → now ++ more ≡ all
piece_put out now rest piece more all e put h =
    ap (λ (w : List ℕ). w ++ more) put ∙ append_assoc out piece more ∙ ap (λ (w : List ℕ). out ++ w) (sym e) ∙ h

-- the bytes of a string's elements from one on
pub chars_more : (ts : List Term) (i : ℕ) (t : Term) → i < length ts → get_or ts i t ≡ t
    → map char_of (map encode (drop i ts)) ≡ (char_of (encode t) ∷ []) ++ map char_of (map encode (drop (i + 1) ts))
chars_more ts i t h e =
    at_drop_more (λ (us : List Term). map char_of (map encode us)) ts i t h
    ∙ ap (λ (u : Term). char_of (encode u) ∷ map char_of (map encode (drop (i + 1) ts))) e

pub chars_end : (ts : List Term) (i : ℕ) → length ts ≤ i → map char_of (map encode (drop i ts)) ≡ []
chars_end ts i h = at_drop_all (λ (us : List Term). map char_of (map encode us)) ts i h
