-- What is written for a term reads back.
use Rattle.std.proofs.Common.{◌≡◌, ℕ, ◌+◌, ◌^◌, ◌<◌, ◌≤◌, ℤ, pos, negsuc, List, [], ◌∷◌, ◌++◌, map, length, refl, sym, subst, ap, ◌∙◌, arith, rules, Bool, true, false, ◌&&◌, ◌==◌, nat_lt, length-append, inl, inr}
use Rattle.std.proofs.lemmas.Bool.{and_parts, cases_lt, false≢true, cases_Bool}
use Rattle.std.proofs.lemmas.Bool.Decides.{nat_tests}
use Rattle.std.proofs.lemmas.Int.{ints}
use Rattle.std.proofs.lemmas.List.{length-map}
use Rattle.std.specs.List.{list_all}
use Rattle.ets_term.specs.Data.{Data, int, atom, pid, tid, tuple, list, binary, data_list, data_of}
use Rattle.ets_term.specs.Depth.{depth, largest}
use Rattle.ets_term.specs.Fits.{DataFits}
use Rattle.ets_term.specs.declared.term.Term.{Term, ind-Term, the_lemmas}
use Rattle.ets_term.specs.declared.term.Term.TheViews.{roll-Term}
use Rattle.ets_term.specs.declared.term.Term.TheFolds.{map-Term}
use Rattle.ets_term.specs.declared.term.Term.TheOpen.{Term-F}
use Rattle.ets_term.specs.declared.term.Term.TheVariants.{Int, Atom, Pid, Tid, Tuple, List as ListOf, Binary, rolls-Int, rolls-Atom, rolls-Pid, rolls-Tid, rolls-Tuple, rolls-List, rolls-Binary}
use Rattle.external_term.specs.declared.field.Width.TheVariants.{One, Two, Four}
use Rattle.external_term.specs.Encoding.{big2, big4, encode_integer, atom_bytes, pid_bytes, reference_bytes, tuple_header, tuple_bytes, list_bytes, string_bytes, binary_bytes, encode, is_small, is_string, char_of, encode_with_version}
use Rattle.external_term.specs.Fields.{after, number_at, piece_at}
use Rattle.external_term.specs.Texts.{code, string_if}
use Rattle.external_term.specs.Reader.{version_if}
use Rattle.external_term.specs.RoundTrip.{ReadsBack}
use Rattle.external_term.proofs.Encoded.{encode-Int, encode-Atom, encode-Pid, encode-Tid, encode-Tuple, encode-List, encode-Binary, tuple_not_small, list_not_small, list_empty, list_string, list_long, header_short, header_long}
use Rattle.external_term.proofs.IdentifierTrips.{pid_reads, reference_reads}
use Rattle.external_term.proofs.LeafTrips.{Reads, dispatch, reads_as, integer_reads, atom_reads, binary_reads}
use Rattle.external_term.proofs.EncodedTerms.{IsRead, Known, bare, terms, encoded_terms, levels_of, AllFit, encoded_terms-long, tuple_reads, long_list_reads, codes_are}
use Rattle.external_term.proofs.SmallIntegers.{byte_char, large_not_small, negative_not_small, some_bytes}
use Rattle.external_term.proofs.BytesAt.{At, tail, behind, range, ok, ends, after_ok, one_at, two_at, four_at, piece}

-- a term is read, if its tree, bytes and depth are known
by_parts : (t : Term) (z : Data) (xs : List ℕ) (inner : ℕ) → data_of t ≡ z → encode t ≡ xs → depth t ≡ inner + 1
    → 0 < length xs → (is_small xs ≡ true → code (char_of xs) ≡ t)
    → ((levels : ℕ) → DataFits z → inner ≤ levels → length xs < 2 ^ 32 → Reads t levels xs) → IsRead t
by_parts t z xs inner e f g some char reads = record {
  some = omega (arith, ap length f);
  deep = omega (arith, g);
  char = let P : List ℕ → Type 0 = λ ys. is_small ys ≡ true → code (char_of ys) ≡ t in subst P (sym f) char;
  reads = λ levels fits d small.
      let R : List ℕ → Type 0 = λ ys. length ys < 2 ^ 32 → Reads t levels ys in
      subst R (sym f) (reads levels (subst DataFits e fits) (omega (arith, g, d))) small;
}

data-Int : (n : ℤ) → data_of (Int n) ≡ int n
data-Int n = search (rules, the_lemmas)

data-Atom : (s : List ℕ) → data_of (Atom s) ≡ atom s
data-Atom s = search (rules, the_lemmas)

data-Pid : (n : ℕ) → data_of (Pid n) ≡ pid n
data-Pid n = search (rules, the_lemmas)

data-Tid : (n : ℕ) → data_of (Tid n) ≡ tid n
data-Tid n = search (rules, the_lemmas)

data-Tuple : (ts : List Term) → data_of (Tuple ts) ≡ tuple (data_list (map data_of ts))
data-Tuple ts = search (rules, the_lemmas)

data-List : (ts : List Term) → data_of (ListOf ts) ≡ list (data_list (map data_of ts))
data-List ts = search (rules, the_lemmas)

data-Binary : (bs : List ℕ) → data_of (Binary bs) ≡ binary bs
data-Binary bs = search (rules, the_lemmas)

depth-Int : (n : ℤ) → depth (Int n) ≡ 0 + 1
depth-Int n = search (rules, the_lemmas)

depth-Atom : (s : List ℕ) → depth (Atom s) ≡ 0 + 1
depth-Atom s = search (rules, the_lemmas)

depth-Pid : (n : ℕ) → depth (Pid n) ≡ 0 + 1
depth-Pid n = search (rules, the_lemmas)

depth-Tid : (n : ℕ) → depth (Tid n) ≡ 0 + 1
depth-Tid n = search (rules, the_lemmas)

depth-Tuple : (ts : List Term) → depth (Tuple ts) ≡ largest (map depth ts) + 1
depth-Tuple ts = search (rules, the_lemmas)

depth-List : (ts : List Term) → depth (ListOf ts) ≡ largest (map depth ts) + 1
depth-List ts = search (rules, the_lemmas)

depth-Binary : (bs : List ℕ) → depth (Binary bs) ≡ 0 + 1
depth-Binary bs = search (rules, the_lemmas)

other : {A : Type 0} (b : Bool) → b ≡ false → b ≡ true → A
other b e f = absurd (false≢true (sym e ∙ f))

-- an integer that is written as a byte is that byte
int_char : (n : ℤ) → is_small (encode_integer n) ≡ true → code (char_of (encode_integer n)) ≡ Int n
int_char (pos n) h = elim (cases_lt n 256) [
  | inl k ↦ ap code (byte_char n k)
  | inr k ↦ other _ (large_not_small (pos n) (omega (arith, ints, k))) h
]
int_char (negsuc n) h = other _ (negative_not_small (negsuc n) (omega (arith, ints))) h

-- the encoded_terms has no more bytes than the tuple or list around it
tuple_read : (ks : List Known) (levels : ℕ) → AllFit ks → levels_of ks ≤ levels → length (tuple_bytes (map encode (terms ks))) < 2 ^ 32
    → Reads (Tuple (terms ks)) levels (tuple_bytes (map encode (terms ks)))
tuple_read ks levels fits d small =
    let es = map encode (terms ks) in
    let n = length (terms ks) in
    let t = Tuple (terms ks) in
    let same : length es ≡ n = length-map (terms ks) encode in
    let less : length (encoded_terms ks) < 2 ^ 32 = omega (arith, small, length-append (tuple_header (length es)) (encoded_terms ks)) in
    elim (cases_lt n 256) [
      | inl k ↦
          let xs : List ℕ = 104 ∷ n ∷ encoded_terms ks in
          let e : xs ≡ tuple_bytes es = sym (ap (λ (m : ℕ). tuple_header m ++ encoded_terms ks) same ∙ ap (λ (ys : List ℕ). ys ++ encoded_terms ks) (header_short n k)) in
          reads_as t t levels xs (tuple_bytes es) refl e (λ bytes at rest h.
          let a1 = tail bytes at 104 (n ∷ encoded_terms ks) rest h in
          let a2 = tail bytes (at + 1) n (encoded_terms ks) rest a1 in
          dispatch bytes at levels 104 (n ∷ encoded_terms ks) rest h
          ∙ tuple_reads One bytes levels ks at (at + 1 + 1) rest fits d less (one_at bytes (at + 1) n (encoded_terms ks) rest a1) a2
          ∙ ends t (at + 1 + 1 + length (encoded_terms ks)) (at + length xs) (omega arith))
      | inr k ↦
          let xs : List ℕ = 105 ∷ (big4 n ++ encoded_terms ks) in
          let e : xs ≡ tuple_bytes es = sym (ap (λ (m : ℕ). tuple_header m ++ encoded_terms ks) same ∙ ap (λ (ys : List ℕ). ys ++ encoded_terms ks) (header_long n k)) in
          reads_as t t levels xs (tuple_bytes es) refl e (λ bytes at rest h.
          let a1 = tail bytes at 105 (big4 n ++ encoded_terms ks) rest h in
          let a2 : At bytes (at + 1 + 4) (encoded_terms ks) rest = behind bytes (at + 1) (big4 n) (encoded_terms ks) rest a1 in
          dispatch bytes at levels 105 (big4 n ++ encoded_terms ks) rest h
          ∙ tuple_reads Four bytes levels ks at (at + 1 + 4) rest fits d less (four_at bytes (at + 1) n (encoded_terms ks) rest (omega (arith, less, encoded_terms-long ks)) a1) a2
          ∙ ends t (at + 1 + 4 + length (encoded_terms ks)) (at + length xs) (omega arith))
    ]

nil_reads : (levels : ℕ) → Reads (ListOf []) levels (106 ∷ [])
nil_reads levels bytes at rest h = dispatch bytes at levels 106 [] rest h

by_test : (n : ℕ) → nat_lt n (2 ^ 16) ≡ true → n < 2 ^ 16
by_test n e = grind (arith, nat_tests)

deep_test : (n : ℕ) → 0 < n → (n == 0) ≡ false
deep_test n h = grind (arith, nat_tests)

-- a string of elements
string_reads : (k : Known) (ks : List Known) (levels : ℕ) → levels_of (k ∷ ks) ≤ levels → is_string (map encode (terms (k ∷ ks))) ≡ true
    → Reads (ListOf (terms (k ∷ ks))) levels (string_bytes (map encode (terms (k ∷ ks))))
string_reads k ks levels d string bytes at rest h =
    let ts = terms (k ∷ ks) in
    let es = map encode ts in
    let n = length es in
    let cs = map char_of es in
    let xs = string_bytes es in
    let start = at + 1 + 2 in
    let parts = and_parts (nat_lt n (2 ^ 16)) (list_all is_small es) string in
    let short : n < 2 ^ 16 = by_test n parts.0 in
    let size : length cs ≡ n = length-map es char_of in
    let level : (levels == 0) ≡ false = deep_test levels (omega (arith, d, k.1.deep)) in
    let a1 = tail bytes at 107 (big2 n ++ cs) rest h in
    let a2 : At bytes start cs rest = behind bytes (at + 1) (big2 n) cs rest a1 in
    dispatch bytes at levels 107 (big2 n ++ cs) rest h
    ∙ after_ok (number_at Two bytes (at + 1)) n start
    (λ (n next : ℕ). after (piece_at n bytes next) (λ (start end : ℕ). string_if ((levels == 0) && nat_lt 0 n) bytes start end))
    (ok (ListOf ts) (at + length xs)) (two_at bytes (at + 1) n cs rest short a1)
    (after_ok (piece_at n bytes start) start (start + n) (λ (start end : ℕ). string_if ((levels == 0) && nat_lt 0 n) bytes start end)
    (ok (ListOf ts) (at + length xs)) (piece bytes start n cs rest size a2)
    (ap (λ (b : Bool). string_if (b && nat_lt 0 n) bytes start (start + n)) level
    ∙ ap (λ (ys : List ℕ). ok (ListOf (map code ys)) (start + n)) (range bytes start (start + n) cs rest a2 (omega (arith, size)))
    ∙ ap (λ (us : List Term). ok (ListOf us) (start + n)) (codes_are (k ∷ ks) parts.1)
    ∙ ends (ListOf ts) (start + n) (at + length xs) (omega (arith, size))))

list_read : (ks : List Known) (levels : ℕ) → AllFit ks → levels_of ks ≤ levels → length (list_bytes (map encode (terms ks))) < 2 ^ 32
    → Reads (ListOf (terms ks)) levels (list_bytes (map encode (terms ks)))
list_read [] levels fits d small = reads_as (ListOf []) (ListOf []) levels (106 ∷ []) (list_bytes []) refl (sym (list_empty [] refl)) (nil_reads levels)
list_read (k ∷ ks) levels fits d small =
    let es = map encode (terms (k ∷ ks)) in
    let n = length (terms (k ∷ ks)) in
    let t = ListOf (terms (k ∷ ks)) in
    let some : length es ≡ 0 → ⊥ = λ e. omega (arith, e) in
    let same : length es ≡ n = length-map (terms (k ∷ ks)) encode in
    elim (cases_Bool (is_string es)) [
      | inl e ↦ reads_as t t levels (string_bytes es) (list_bytes es) refl (sym (list_string es some e)) (string_reads k ks levels d e)
      | inr e ↦
          let xs : List ℕ = 108 ∷ (big4 n ++ (encoded_terms (k ∷ ks) ++ 106 ∷ [])) in
          let f : xs ≡ list_bytes es = sym (list_long es some e ∙ ap (λ (m : ℕ). 108 ∷ (big4 m ++ (encoded_terms (k ∷ ks) ++ 106 ∷ []))) same) in
          let less : length (encoded_terms (k ∷ ks)) < 2 ^ 32 = omega (arith, small, ap length f, length-append (encoded_terms (k ∷ ks)) (106 ∷ [])) in
          reads_as t t levels xs (list_bytes es) refl f (long_list_reads levels (k ∷ ks) fits d less)
    ]

header_some : (n : ℕ) (ys : List ℕ) → 0 < length (tuple_header n ++ ys)
header_some n ys = elim (cases_lt n 256) [
  | inl k ↦ omega (arith, length-append (tuple_header n) ys, ap length (header_short n k))
  | inr k ↦ omega (arith, length-append (tuple_header n) ys, ap length (header_long n k))
]

list_some : (es : List (List ℕ)) → 0 < length (list_bytes es)
list_some [] = omega (arith, ap length (list_empty [] refl))
list_some (x ∷ xs) =
    let es = x ∷ xs in
    let some : length es ≡ 0 → ⊥ = λ e. omega (arith, e) in
    elim (cases_Bool (is_string es)) [
      | inl e ↦ omega (arith, ap length (list_string es some e))
      | inr e ↦ omega (arith, ap length (list_long es some e))
    ]

one_read : (y : Term-F Known) → IsRead (roll-Term (map-Term Known Term bare y))
one_read (Term-F.Int n) = subst IsRead (sym (rolls-Int n))
    (by_parts (Int n) (int n) (encode_integer n) 0 (data-Int n) (encode-Int n) (depth-Int n) (some_bytes n) (int_char n) (λ levels h d small. integer_reads n levels h.0 h.1))
one_read (Term-F.Atom s) = subst IsRead (sym (rolls-Atom s))
    (by_parts (Atom s) (atom s) (atom_bytes s) 0 (data-Atom s) (encode-Atom s) (depth-Atom s) (omega arith) (λ h. other _ refl h) (λ levels h d small. atom_reads s levels h))
one_read (Term-F.Pid n) = subst IsRead (sym (rolls-Pid n))
    (by_parts (Pid n) (pid n) (pid_bytes n) 0 (data-Pid n) (encode-Pid n) (depth-Pid n) (omega arith) (λ h. other _ refl h) (λ levels h d small. pid_reads n levels h))
one_read (Term-F.Tid n) = subst IsRead (sym (rolls-Tid n))
    (by_parts (Tid n) (tid n) (reference_bytes n) 0 (data-Tid n) (encode-Tid n) (depth-Tid n) (omega arith) (λ h. other _ refl h) (λ levels h d small. reference_reads n levels h))
one_read (Term-F.Tuple ks) = let ts : List Term = map bare ks in
    let es = map encode ts in
    subst IsRead (sym (rolls-Tuple ts))
    (by_parts (Tuple ts) (tuple (data_list (map data_of ts))) (tuple_bytes es) (largest (map depth ts)) (data-Tuple ts) (encode-Tuple ts) (depth-Tuple ts)
    (header_some (length es) (encoded_terms ks)) (λ h. other _ (tuple_not_small es) h) (λ levels h d small. tuple_read ks levels h d small))
one_read (Term-F.List ks) = let ts : List Term = map bare ks in
    let es = map encode ts in
    subst IsRead (sym (rolls-List ts))
    (by_parts (ListOf ts) (list (data_list (map data_of ts))) (list_bytes es) (largest (map depth ts)) (data-List ts) (encode-List ts) (depth-List ts)
    (list_some es) (λ h. other _ (list_not_small es) h) (λ levels h d small. list_read ks levels h d small))
one_read (Term-F.Binary bs) = subst IsRead (sym (rolls-Binary bs))
    (by_parts (Binary bs) (binary bs) (binary_bytes bs) 0 (data-Binary bs) (encode-Binary bs) (depth-Binary bs) (omega arith) (λ h. other _ refl h)
    (λ levels h d small. binary_reads bs levels (omega (arith, small))))

pub each_read : (t : Term) → IsRead t
each_read = ind-Term IsRead (λ x y e. subst (λ (z : Term-F Term). IsRead (roll-Term z)) e (one_read y))

pub reads_back : (t : Term) (rest : List ℕ) → ReadsBack t rest
reads_back t rest fits d small =
    let bytes : List ℕ = encode_with_version t ++ rest in
    let a0 : At bytes 0 (131 ∷ encode t) rest = record { holds = refl; within = omega arith } in
    let a1 : At bytes 1 (encode t) rest = tail bytes 0 131 (encode t) rest a0 in
    after_ok (number_at One bytes 0) 131 1 (λ (version next : ℕ). version_if (version == 131) bytes next) (ok t (length (encode_with_version t)))
    (one_at bytes 0 131 (encode t) rest a0)
    ((each_read t).reads 127 fits d (omega (arith, small)) bytes 1 rest a1 ∙ ends t (1 + length (encode t)) (length (encode_with_version t)) (omega arith))
