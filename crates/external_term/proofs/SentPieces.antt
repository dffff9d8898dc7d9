-- Bytes that are sent in pieces, and forms that fit the block.
use Rattle.std.proofs.Common.{◌≡◌, ap, sym, subst, ◌∙◌, ℕ, ℤ, pos, negsuc, List, [], ◌∷◌, ◌++◌, ◌+◌, ◌-◌, ◌^◌, ◌≤◌, length, arith, take, drop, map, Bool, true, false, append_assoc, Option, None, Some, Result, Ok, Err, IsErr, nat_lt, if◌then◌else◌}
use Rattle.std.proofs.lemmas.Bool.{false≢true}
use Rattle.std.proofs.lemmas.List.{append-nil, length-map, drop-drop, map-append, take-append-drop}
use Rattle.std.specs.Io.KnownBytes.{Appends, Keeps}
use Rattle.ets_term.specs.Encoding.{concat}
use Rattle.ets_term.specs.declared.term.Term.{Term}
use Rattle.external_term.specs.Encoding.{big2, big4, digits_of, encode_integer, tuple_header, tuple_bytes, string_bytes, long_list_bytes, encode, char_of}
use Rattle.external_term.specs.Sent.{AppendsPrefix, AppendsOrPrefix}
use Rattle.external_term.proofs.Digits.{low_short}

pub appends-nothing : (a : Option (List ℕ)) → Appends a a []
appends-nothing None = tt
appends-nothing (Some p) = sym (append-nil p)

pub appends-then : (a b c : Option (List ℕ)) (x y : List ℕ) → Appends a b x → Appends b c y → Appends a c (x ++ y)
appends-then None b c x y h k = tt
appends-then (Some p) None c x y h k = absurd h
appends-then (Some p) (Some q) None x y h k = absurd k
appends-then (Some p) (Some q) (Some r) x y h k = k ∙ ap (λ (w : List ℕ). w ++ y) h ∙ append_assoc p x y

pub appends-as : (a b : Option (List ℕ)) (x y : List ℕ) → x ≡ y → Appends a b x → Appends a b y
appends-as a b x y e h = let P : List ℕ → Type 0 = λ w. Appends a b w in subst P e h

pub appends-keeps : (a b c : Option (List ℕ)) (x : List ℕ) → Appends a b x → Keeps b c → Appends a c x
appends-keeps None b c x h k = tt
appends-keeps (Some p) None c x h k = absurd h
appends-keeps (Some p) (Some q) None x h k = absurd k
appends-keeps (Some p) (Some q) (Some r) x h k = k ∙ h

-- the writer failed in the first piece
pub prefix-first : (a b : Option (List ℕ)) (x y : List ℕ) → AppendsPrefix a b x → AppendsPrefix a b (x ++ y)
prefix-first a b x y (sent, rest, e, h) = (sent, rest ++ y, ap (λ (w : List ℕ). w ++ y) e ∙ append_assoc sent rest y, h)

-- the writer failed in a later piece
pub prefix-then : (a b c : Option (List ℕ)) (x y : List ℕ) → Appends a b x → AppendsPrefix b c y → AppendsPrefix a c (x ++ y)
prefix-then a b c x y h (sent, rest, e, k) = (x ++ sent, rest, ap (λ (w : List ℕ). x ++ w) e ∙ sym (append_assoc x sent rest), appends-then a b c x sent h k)

pub prefix-as : (a b : Option (List ℕ)) (x y : List ℕ) → x ≡ y → AppendsPrefix a b x → AppendsPrefix a b y
prefix-as a b x y e h = let P : List ℕ → Type 0 = λ w. AppendsPrefix a b w in subst P e h

pub sends-fault : {A E : Type 0} (a b : Option (List ℕ)) (x : List ℕ) (r : Result A E) → IsErr r → AppendsPrefix a b x → AppendsOrPrefix a b x r
sends-fault a b x (Ok v) e h = absurd (false≢true e)
sends-fault a b x (Err f) e h = h

pub sends-then : {A E : Type 0} (a b c : Option (List ℕ)) (x y : List ℕ) (r : Result A E) → Appends a b x → AppendsOrPrefix b c y r → AppendsOrPrefix a c (x ++ y) r
sends-then a b c x y (Ok v) h k = appends-then a b c x y h k
sends-then a b c x y (Err f) h k = prefix-then a b c x y h k

pub sends-as : {A E : Type 0} (a b : Option (List ℕ)) (x y : List ℕ) (r : Result A E) → x ≡ y → AppendsOrPrefix a b x r → AppendsOrPrefix a b y r
sends-as a b x y r e h = let P : List ℕ → Type 0 = λ w. AppendsOrPrefix a b w r in subst P e h

-- the first piece failed, or the pieces after it
pub sends-first : {A E : Type 0} (a b : Option (List ℕ)) (x y : List ℕ) (r : Result A E) → IsErr r → AppendsPrefix a b x → AppendsOrPrefix a b (x ++ y) r
sends-first a b x y r e h = sends-fault a b (x ++ y) r e (prefix-first a b x y h)

-- some pieces of the whole were sent, and the others are left
abbrev pub Sent : Option (List ℕ) → Option (List ℕ) → List ℕ → List ℕ → Type 0
Sent old now left whole = (sent : List ℕ) × (sent ++ left ≡ whole) × Appends old now sent

-- one piece more
pub sent-more : (a b c : Option (List ℕ)) (left piece more whole : List ℕ) → left ≡ piece ++ more → Sent a b left whole → Appends b c piece → Sent a c more whole
sent-more a b c left piece more whole split (sent, e, h) k =
    (sent ++ piece, append_assoc sent piece more ∙ ap (λ (w : List ℕ). sent ++ w) (sym split) ∙ e, appends-then a b c sent piece h k)

-- the next piece failed
pub sent-fails : {A E : Type 0} (a b c : Option (List ℕ)) (left piece more whole : List ℕ) (r : Result A E) → IsErr r → left ≡ piece ++ more → Sent a b left whole → AppendsPrefix b c piece
    → AppendsOrPrefix a c whole r
sent-fails a b c left piece more whole r f split (sent, e, h) k =
    sends-fault a c whole r f (prefix-as a c (sent ++ (piece ++ more)) whole (ap (λ (w : List ℕ). sent ++ w) (sym split) ∙ e) (prefix-then a b c sent (piece ++ more) h (prefix-first b c piece more k)))

-- an integer takes at most 19 bytes
short_if : (a b : Bool) (n : ℕ) (xs ys : List ℕ) → length xs ≤ 4 → length ys ≤ 18 → length (if a then 97 ∷ n ∷ [] else if b then 98 ∷ xs else 110 ∷ ys) ≤ 19
short_if true b n xs ys h k = omega arith
short_if false true n xs ys h k = omega (arith, h)
short_if false false n xs ys h k = omega (arith, k)

pub integer_short : (n : ℤ) → length (encode_integer n) ≤ 19
integer_short (pos n) = short_if (nat_lt n 256) (nat_lt n (2 ^ 31)) n (big4 n) (length (digits_of n) ∷ 0 ∷ digits_of n) (omega arith) (omega (arith, low_short 16 n))
integer_short (negsuc n) = short_if false (nat_lt n (2 ^ 31)) n (big4 (2 ^ 32 - 1 - n)) (length (digits_of (n + 1)) ∷ 1 ∷ digits_of (n + 1)) (omega arith) (omega (arith, low_short 16 (n + 1)))

-- the form in the block, which was empty, is the slice that is sent
pub form-is : (cleared filled slice form : List ℕ) → cleared ≡ [] → filled ≡ cleared ++ form → slice ≡ filled → slice ≡ form
form-is cleared filled slice form e put s = s ∙ put ∙ ap (λ (w : List ℕ). w ++ form) e

-- the pieces of a tuple, of a list and of a string
pub tuple-pieces : (ts : List Term) → tuple_header (length ts) ++ concat (map encode ts) ≡ tuple_bytes (map encode ts)
tuple-pieces ts = ap (λ (n : ℕ). tuple_header n ++ concat (map encode ts)) (sym (length-map ts encode))

pub list-pieces : (ts : List Term) → (108 ∷ big4 (length ts)) ++ (concat (map encode ts) ++ 106 ∷ []) ≡ long_list_bytes (map encode ts)
list-pieces ts = ap (λ (n : ℕ). (108 ∷ big4 n) ++ (concat (map encode ts) ++ 106 ∷ [])) (sym (length-map ts encode))

pub string-pieces : (ts : List Term) → (107 ∷ big2 (length ts)) ++ map char_of (map encode ts) ≡ string_bytes (map encode ts)
string-pieces ts = ap (λ (n : ℕ). (107 ∷ big2 n) ++ map char_of (map encode ts)) (sym (length-map ts encode))

-- the characters of the next n elements, and the others
pub chars-split : (ts : List Term) (i m n : ℕ) → m ≡ n
    → map char_of (map encode (drop i ts)) ≡ map char_of (map encode (take m (drop i ts))) ++ map char_of (map encode (drop (i + n) ts))
chars-split ts i m n e =
    let f : List Term → List ℕ = λ us. map char_of (map encode us) in
    let rest : drop m (drop i ts) ≡ drop (i + n) ts = drop-drop m i ts ∙ ap (λ (k : ℕ). drop (i + k) ts) e in
    ap f (sym (take-append-drop m (drop i ts)))
    ∙ ap (map char_of) (map-append encode (take m (drop i ts)) (drop m (drop i ts)))
    ∙ map-append char_of (map encode (take m (drop i ts))) (map encode (drop m (drop i ts)))
    ∙ ap (λ (us : List Term). f (take m (drop i ts)) ++ f us) rest
