-- The printed text of a term is a spelling of it.
use Rattle.std.proofs.Common.{◌≡◌, refl, ap, sym, subst, ◌∙◌, ◌+◌, ◌-◌, ◌*◌, ◌^◌, ◌<◌, ◌≤◌, ◌++◌, ◌==◌, ◌||◌, max, ℕ, suc, zero, ℤ, pos, negsuc, ◌≤ℤ◌, List, [], ◌∷◌, length, map, arith, rules, true, false, decimal, append_assoc}
use Rattle.std.proofs.lemmas.List.{append-nil}
use Rattle.std.proofs.lemmas.Bool.{and_parts, or_parts}
use Rattle.std.proofs.lemmas.Bool.Decides.{nat_tests}
use Rattle.std.proofs.lemmas.Fmt.{decimal_is_IsNumeral_wide}
use Rattle.std.proofs.lemmas.Int.{ints}
use Rattle.std.proofs.lemmas.Str.{digit_value_digit}
use Rattle.std.proofs.lemmas.Str.Parse.{digit_from_value}
use Rattle.std.specs.Char.{digit_value}
use Rattle.std.specs.Fmt.{signed_decimal}
use Rattle.std.specs.List.{list_all, flat_map, AllByRecursion}
use Rattle.std.specs.Str.Parse.{AllDigits, digits_value_after}
use Rattle.ets_term.specs.Character.{is_character, IsAtomText}
use Rattle.ets_term.specs.Data.{Data, int, atom, pid as pid_data, tid, tuple, list, binary, data_list, data_of}
use Rattle.ets_term.specs.Depth.{depth, largest}
use Rattle.ets_term.specs.Fits.{DataFits, DataListFits, Fits}
use Rattle.ets_term.specs.Integers.{least, greatest}
use Rattle.ets_term.specs.declared.term.Term.{Term, ind-Term, the_lemmas}
use Rattle.ets_term.specs.declared.term.Term.TheViews.{roll-Term}
use Rattle.ets_term.specs.declared.term.Term.TheFolds.{map-Term}
use Rattle.ets_term.specs.declared.term.Term.TheOpen.{Term-F}
use Rattle.ets_term.specs.declared.term.Term.TheVariants.{Int, Atom, Pid, Tid, Tuple, List as ListOf, Binary, rolls-Int, rolls-Atom, rolls-Pid, rolls-Tid, rolls-Tuple, rolls-List, rolls-Binary}
use Rattle.term_text.specs.Grammar.{SpellsNumber, SpellsQuoted, SpellsBytes, Spells, SpellsTerms, none, plain, escaped as escaped_form, first, more, positive, negative, plain_atom, quoted_atom, pid_form, identifier_form, no_bytes, bytes, empty_bracket, full_bracket, first_term, more_terms}
use Rattle.term_text.specs.inside.Reader.{Number, integer, pid, identifier, byte, max_magnitude}
use Rattle.term_text.specs.Printed.{is_plain, escape, atom_text, join_with_commas, text_of_term}
use Rattle.term_text.specs.RoundTrip.{ReadsBack}
use Rattle.term_text.specs.Text.{is_digit, is_lowercase, is_name, begins, value_of_digits}
use Rattle.term_text.proofs.Offsets.{by-test, if-true, if-false}
use Rattle.term_text.proofs.Printed.{text_of_term-Int, text_of_term-Atom, text_of_term-Pid, text_of_term-Tid, text_of_term-Tuple, text_of_term-List, text_of_term-Binary}
use Rattle.term_text.proofs.Spelled.{front-read}

-- numbers
digit_in : (c : ℕ) → 48 ≤ c → c ≤ 57 → is_digit c ≡ true
unfolding is_digit
digit_in c h k = grind (arith, nat_tests)

digit-here : (c : ℕ) → digit_value c < 10 → is_digit c ≡ true
digit-here c h = let r = digit_from_value c h in digit_in c (omega (arith, r)) (omega (arith, r))

digits-here : (ds : List ℕ) → AllDigits 10 ds → list_all is_digit ds ≡ true
digits-here [] h = refl
digits-here (c ∷ cs) h = rw (digit-here c h.0) (digits-here cs h.1)

first-here : (ds : List ℕ) → 0 < length ds → AllDigits 10 ds → begins is_digit ds ≡ true
first-here [] h k = absurd (omega (arith, h))
first-here (c ∷ cs) h k = digit-here c k.0

value-here : (n : ℕ) (ds : List ℕ) → AllDigits 10 ds → value_of_digits n ds ≡ digits_value_after 10 n ds
value-here n [] h = refl
value-here n (c ∷ cs) h =
    if-true _ _ _ (digit-here c h.0)
    ∙ ap (λ (m : ℕ). value_of_digits m cs) (let r = digit_value_digit c (digit_from_value c h.0) in omega (arith, r))
    ∙ value-here (n * 10 + digit_value c) cs h.1

number-spelled : (kind : Number) (n : ℕ) → n < 10 ^ 64 → n ≤ max_magnitude kind → SpellsNumber kind (decimal n) n
number-spelled kind n h k = let e = decimal_is_IsNumeral_wide n h in
    record { some = first-here (decimal n) e.0.0 e.0.1; each = digits-here (decimal n) e.0.1; value = value-here 0 (decimal n) e.0.1 ∙ e.1; fits = k }

integer-spelled : (k : ℕ) (n : ℤ) → least ≤ℤ n → n ≤ℤ greatest → Spells (suc k) (signed_decimal n) (Int n)
integer-spelled k (pos n) low high = positive k (decimal n) n (let r : n ≤ 2 ^ 127 - 1 = omega (arith, ints, high) in number-spelled (integer false) n (omega (arith, r)) r)
integer-spelled k (negsuc n) low high = negative k (decimal (suc n)) (suc n) (let r : n ≤ 2 ^ 127 - 1 = omega (arith, ints, low) in number-spelled (integer true) (suc n) (omega (arith, r)) (omega (arith, r)))

-- atoms
quoted-along : (s t cs ds : List ℕ) → s ≡ t → cs ≡ ds → SpellsQuoted 39 s cs → SpellsQuoted 39 t ds
quoted-along s t cs ds e f h = subst (λ (w : List ℕ). SpellsQuoted 39 w ds) e (subst (λ (w : List ℕ). SpellsQuoted 39 s w) f h)

quoted-on : (t ds s : List ℕ) → SpellsQuoted 39 t ds → list_all is_character s ≡ true → SpellsQuoted 39 (t ++ flat_map escape s) (ds ++ s)
quoted-on t ds [] sp h = quoted-along t (t ++ []) ds (ds ++ []) (sym (append-nil t)) (sym (append-nil ds)) sp
quoted-on t ds (c ∷ s) sp h =
    let q = and_parts (is_character c) (list_all is_character s) h in
    let tail : List ℕ = flat_map escape s in
    by-test ((c == 39) || (c == 92))
    (λ e. quoted-along _ (t ++ (escape c ++ tail)) _ (ds ++ c ∷ s)
    (append_assoc t (92 ∷ c ∷ []) tail ∙ ap (λ (w : List ℕ). t ++ (w ++ tail)) (sym (if-true _ _ _ e))) (append_assoc ds (c ∷ []) s)
    (quoted-on (t ++ 92 ∷ c ∷ []) (ds ++ c ∷ []) s (escaped_form t ds c sp e) q.1))
    (λ e. let z = or_parts (c == 39) (c == 92) e in
    quoted-along _ (t ++ (escape c ++ tail)) _ (ds ++ c ∷ s)
    (append_assoc t (c ∷ []) tail ∙ ap (λ (w : List ℕ). t ++ (w ++ tail)) (sym (if-false _ _ _ e))) (append_assoc ds (c ∷ []) s)
    (quoted-on (t ++ c ∷ []) (ds ++ c ∷ []) s (plain t ds c sp q.0 z.0 z.1) q.1))

atom-spelled : (k : ℕ) (s : List ℕ) → IsAtomText s → Spells (suc k) (atom_text s) (Atom s)
atom-spelled k s h = by-test (is_plain s)
    (λ e. let q = and_parts (begins is_lowercase s) (list_all is_name s) e in
    subst (λ (w : List ℕ). Spells (suc k) w (Atom s)) (sym (if-true _ _ _ e)) (plain_atom k s q.0 q.1 h.short))
    (λ e. subst (λ (w : List ℕ). Spells (suc k) w (Atom s)) (sym (if-false _ _ _ e)) (quoted_atom k (flat_map escape s) s (quoted-on [] [] s none h.each) h.short))

-- binaries
bytes-along : (s t cs ds : List ℕ) → s ≡ t → cs ≡ ds → SpellsBytes s cs → SpellsBytes t ds
bytes-along s t cs ds e f h = subst (λ (w : List ℕ). SpellsBytes w ds) e (subst (λ (w : List ℕ). SpellsBytes s w) f h)

byte-spelled : (b : ℕ) → b < 256 → SpellsNumber (byte []) (decimal b) b
byte-spelled b h = number-spelled (byte []) b (omega (arith, h)) (omega (arith, h))

bytes-on : (row us bs : List ℕ) → SpellsBytes row us → AllByRecursion (λ b. b < 256) bs → SpellsBytes (row ++ join_with_commas true (map decimal bs)) (us ++ bs)
bytes-on row us [] sp h = bytes-along row (row ++ []) us (us ++ []) (sym (append-nil row)) (sym (append-nil us)) sp
bytes-on row us (b ∷ bs) sp h =
    bytes-along _ (row ++ join_with_commas true (map decimal (b ∷ bs))) _ (us ++ b ∷ bs) (append_assoc row (44 ∷ decimal b) (join_with_commas true (map decimal bs))) (append_assoc us (b ∷ []) bs)
    (bytes-on (row ++ 44 ∷ decimal b) (us ++ b ∷ []) bs (more row [] [] (decimal b) us b sp refl refl (byte-spelled b h.0)) h.1)

binary-spelled : (k : ℕ) (bs : List ℕ) → AllByRecursion (λ b. b < 256) bs → Spells (suc k) ((60 ∷ 60 ∷ []) ++ (join_with_commas false (map decimal bs) ++ 62 ∷ 62 ∷ [])) (Binary bs)
binary-spelled k [] h = no_bytes k [] refl
binary-spelled k (b ∷ bs) h = bytes k (decimal b ++ join_with_commas true (map decimal bs)) [] (b ∷ bs) (bytes-on (decimal b) (b ∷ []) bs (first [] (decimal b) b refl (byte-spelled b h.0)) h.1) refl

-- terms
abbrev IsSpelled : Term → Type 0
IsSpelled t = (k : ℕ) → Fits t → depth t ≤ k → Spells k (text_of_term t) t

abbrev Known : Type 0
Known = (t : Term) × IsSpelled t

abbrev bare : Known → Term
bare k = k.0

row-along : (k : ℕ) (s t : List ℕ) (ts us : List Term) → s ≡ t → ts ≡ us → SpellsTerms k s ts → SpellsTerms k t us
row-along k s t ts us e f h = subst (λ (w : List ℕ). SpellsTerms k w us) e (subst (λ (w : List Term). SpellsTerms k s w) f h)

max-left : (m n k : ℕ) → max m n ≤ k → m ≤ k
max-left m n k h = omega (arith, h)

max-right : (m n k : ℕ) → max m n ≤ k → n ≤ k
max-right m n k h = omega (arith, h)

row-on : (k : ℕ) (row : List ℕ) (us : List Term) (xs : List Known) → SpellsTerms k row us → DataListFits (data_list (map data_of (map bare xs))) → largest (map depth (map bare xs)) ≤ k
    → SpellsTerms k (row ++ join_with_commas true (map text_of_term (map bare xs))) (us ++ map bare xs)
row-on k row us [] sp h d = row-along k row (row ++ []) us (us ++ []) (sym (append-nil row)) (sym (append-nil us)) sp
row-on k row us (x ∷ xs) sp h d =
    let tail : List ℕ = join_with_commas true (map text_of_term (map bare xs)) in
    row-along k _ (row ++ 44 ∷ (text_of_term x.0 ++ tail)) _ (us ++ x.0 ∷ map bare xs) (append_assoc row (44 ∷ text_of_term x.0) tail) (append_assoc us (x.0 ∷ []) (map bare xs))
    (row-on k (row ++ 44 ∷ text_of_term x.0) (us ++ x.0 ∷ []) xs (more_terms k row [] [] (text_of_term x.0) us x.0 sp refl refl (x.1 k h.0 (max-left _ _ k d))) h.1 (max-right (depth x.0) _ k d))

row-spelled : (k : ℕ) (x : Known) (xs : List Known) → DataListFits (data_list (map data_of (map bare (x ∷ xs)))) → largest (map depth (map bare (x ∷ xs))) ≤ k
    → SpellsTerms k (join_with_commas false (map text_of_term (map bare (x ∷ xs)))) (map bare (x ∷ xs))
row-spelled k x xs h d = row-on k (text_of_term x.0) (x.0 ∷ []) xs (first_term k [] (text_of_term x.0) x.0 refl (x.1 k h.0 (max-left _ _ k d))) h.1 (max-right (depth x.0) _ k d)

tuple-spelled : (k : ℕ) (xs : List Known) → DataListFits (data_list (map data_of (map bare xs))) → largest (map depth (map bare xs)) ≤ k
    → Spells (suc k) ((123 ∷ []) ++ (join_with_commas false (map text_of_term (map bare xs)) ++ 125 ∷ [])) (Tuple (map bare xs))
tuple-spelled k [] h d = empty_bracket k false [] refl
tuple-spelled k (x ∷ xs) h d = full_bracket k false (join_with_commas false (map text_of_term (map bare (x ∷ xs)))) [] (map bare (x ∷ xs)) (row-spelled k x xs h d) refl

list-spelled : (k : ℕ) (xs : List Known) → DataListFits (data_list (map data_of (map bare xs))) → largest (map depth (map bare xs)) ≤ k
    → Spells (suc k) ((91 ∷ []) ++ (join_with_commas false (map text_of_term (map bare xs)) ++ 93 ∷ [])) (ListOf (map bare xs))
list-spelled k [] h d = empty_bracket k true [] refl
list-spelled k (x ∷ xs) h d = full_bracket k true (join_with_commas false (map text_of_term (map bare (x ∷ xs)))) [] (map bare (x ∷ xs)) (row-spelled k x xs h d) refl

-- a term is spelled one level further in, if its tree, text and depth are known
by-parts : (t : Term) (z : Data) (text : List ℕ) (inner : ℕ) → data_of t ≡ z → text_of_term t ≡ text → depth t ≡ inner + 1 → ((k : ℕ) → DataFits z → inner ≤ k → Spells (suc k) text t) → IsSpelled t
by-parts t z text inner e f g h zero fits d = absurd (omega (arith, g, d))
by-parts t z text inner e f g h (suc k) fits d = subst (λ (w : List ℕ). Spells (suc k) w t) (sym f) (h k (subst DataFits e fits) (omega (arith, g, d)))

data-Int : (n : ℤ) → data_of (Int n) ≡ int n
data-Int n = search (rules, the_lemmas)

data-Atom : (s : List ℕ) → data_of (Atom s) ≡ atom s
data-Atom s = search (rules, the_lemmas)

data-Pid : (n : ℕ) → data_of (Pid n) ≡ pid_data n
data-Pid n = search (rules, the_lemmas)

data-Tid : (n : ℕ) → data_of (Tid n) ≡ tid n
data-Tid n = search (rules, the_lemmas)

data-Tuple : (ts : List Term) → data_of (Tuple ts) ≡ tuple (data_list (map data_of ts))
data-Tuple ts = search (rules, the_lemmas)

data-List : (ts : List Term) → data_of (ListOf ts) ≡ list (data_list (map data_of ts))
data-List ts = search (rules, the_lemmas)

data-Binary : (bs : List ℕ) → data_of (Binary bs) ≡ binary bs
data-Binary bs = search (rules, the_lemmas)

depth-Int : (n : ℤ) → depth (Int n) ≡ 0 + 1
depth-Int n = search (rules, the_lemmas)

depth-Atom : (s : List ℕ) → depth (Atom s) ≡ 0 + 1
depth-Atom s = search (rules, the_lemmas)

depth-Pid : (n : ℕ) → depth (Pid n) ≡ 0 + 1
depth-Pid n = search (rules, the_lemmas)

depth-Tid : (n : ℕ) → depth (Tid n) ≡ 0 + 1
depth-Tid n = search (rules, the_lemmas)

depth-Tuple : (ts : List Term) → depth (Tuple ts) ≡ largest (map depth ts) + 1
depth-Tuple ts = search (rules, the_lemmas)

depth-List : (ts : List Term) → depth (ListOf ts) ≡ largest (map depth ts) + 1
depth-List ts = search (rules, the_lemmas)

depth-Binary : (bs : List ℕ) → depth (Binary bs) ≡ 0 + 1
depth-Binary bs = search (rules, the_lemmas)

number-32 : (kind : Number) (n : ℕ) → n < 2 ^ 32 → max_magnitude kind ≡ 2 ^ 32 - 1 → SpellsNumber kind (decimal n) n
number-32 kind n h e = number-spelled kind n (omega (arith, h)) (omega (arith, h, e))

one-spelled : (y : Term-F Known) → IsSpelled (roll-Term (map-Term Known Term bare y))
one-spelled (Term-F.Int n) = subst IsSpelled (sym (rolls-Int n)) (by-parts (Int n) (int n) _ 0 (data-Int n) (text_of_term-Int n) (depth-Int n) (λ k h d. integer-spelled k n h.0 h.1))
one-spelled (Term-F.Atom s) = subst IsSpelled (sym (rolls-Atom s)) (by-parts (Atom s) (atom s) _ 0 (data-Atom s) (text_of_term-Atom s) (depth-Atom s) (λ k h d. atom-spelled k s h))
one-spelled (Term-F.Pid n) = subst IsSpelled (sym (rolls-Pid n)) (by-parts (Pid n) (pid_data n) _ 0 (data-Pid n) (text_of_term-Pid n) (depth-Pid n) (λ k h d. pid_form k (decimal n) n (number-32 pid n h refl)))
one-spelled (Term-F.Tid n) = subst IsSpelled (sym (rolls-Tid n)) (by-parts (Tid n) (tid n) _ 0 (data-Tid n) (text_of_term-Tid n) (depth-Tid n) (λ k h d. identifier_form k (decimal n) n (number-32 identifier n h refl)))
one-spelled (Term-F.Tuple xs) = let ts : List Term = map bare xs in
    subst IsSpelled (sym (rolls-Tuple ts)) (by-parts (Tuple ts) (tuple (data_list (map data_of ts))) _ (largest (map depth ts)) (data-Tuple ts) (text_of_term-Tuple ts) (depth-Tuple ts) (λ k h d. tuple-spelled k xs h d))
one-spelled (Term-F.List xs) = let ts : List Term = map bare xs in
    subst IsSpelled (sym (rolls-List ts)) (by-parts (ListOf ts) (list (data_list (map data_of ts))) _ (largest (map depth ts)) (data-List ts) (text_of_term-List ts) (depth-List ts) (λ k h d. list-spelled k xs h d))
one-spelled (Term-F.Binary bs) = subst IsSpelled (sym (rolls-Binary bs)) (by-parts (Binary bs) (binary bs) _ 0 (data-Binary bs) (text_of_term-Binary bs) (depth-Binary bs) (λ k h d. binary-spelled k bs h))

pub text_of_term-spells : (t : Term) → IsSpelled t
text_of_term-spells = ind-Term IsSpelled (λ x y e. subst (λ (z : Term-F Term). IsSpelled (roll-Term z)) e (one-spelled y))

pub reads-back : (t : Term) (rest : List ℕ) → ReadsBack t rest
reads-back t rest fits d ends = front-read (text_of_term t ++ rest) t (length (text_of_term t))
    (record { blanks = []; spelling = text_of_term t; rest = rest; whole = refl; taken = refl; are_blanks = refl; spells = text_of_term-spells t 128 fits d; ends = ends })
