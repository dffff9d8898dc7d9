-- Worked examples of what is written, as Erlang/OTP 25 writes it.
use Rattle.std.proofs.Common.{◌≡◌, ℕ, List, [], ◌∷◌, ap, pos, negsuc, codes, ◌++◌, ◌∙◌}
use Rattle.ets_term.specs.declared.term.Term.{Term}
use Rattle.ets_term.specs.declared.term.Term.TheVariants.{Int, Atom, Pid, Tid, Tuple, List as ListOf, Binary}
use Rattle.external_term.specs.Encoding.{encode, list_bytes, low_bytes, tuple_bytes, encode_with_version}
use Rattle.external_term.proofs.Encoded.{encode-Int, encode-Atom, encode-Pid, encode-Tid, encode-Tuple, encode-List, encode-Binary}

behind_version : (t : Term) (xs : List ℕ) → encode t ≡ xs → encode_with_version t ≡ 131 ∷ xs
behind_version t xs e = ap (λ (ys : List ℕ). 131 ∷ ys) e

byte : encode_with_version (Int (pos 255)) ≡ 131 ∷ 97 ∷ 255 ∷ []
byte = behind_version _ _ (encode-Int (pos 255))

word : encode_with_version (Int (pos 256)) ≡ 131 ∷ 98 ∷ 0 ∷ 0 ∷ 1 ∷ 0 ∷ []
word = behind_version _ _ (encode-Int (pos 256))

minus_one : encode_with_version (Int (negsuc 0)) ≡ 131 ∷ 98 ∷ 255 ∷ 255 ∷ 255 ∷ 255 ∷ []
minus_one = behind_version _ _ (encode-Int (negsuc 0))

big : encode_with_version (Int (pos 2147483648)) ≡ 131 ∷ 110 ∷ 4 ∷ 0 ∷ 0 ∷ 0 ∷ 0 ∷ 128 ∷ []
unfolding low_bytes
big = behind_version _ _ (encode-Int (pos 2147483648))

big_negative : encode_with_version (Int (negsuc 2147483648)) ≡ 131 ∷ 110 ∷ 4 ∷ 1 ∷ 1 ∷ 0 ∷ 0 ∷ 128 ∷ []
unfolding low_bytes
big_negative = behind_version _ _ (encode-Int (negsuc 2147483648))

atom : encode_with_version (Atom (97 ∷ [])) ≡ 131 ∷ 119 ∷ 1 ∷ 97 ∷ []
atom = behind_version _ _ (encode-Atom (97 ∷ []))

pid : encode_with_version (Pid 9) ≡ 131 ∷ 88 ∷ 119 ∷ 13 ∷ (codes "nonode@nohost" ++ 0 ∷ 0 ∷ 0 ∷ 9 ∷ 0 ∷ 0 ∷ 0 ∷ 0 ∷ 0 ∷ 0 ∷ 0 ∷ 0 ∷ [])
pid = behind_version _ _ (encode-Pid 9)

reference : encode_with_version (Tid 7) ≡ 131 ∷ 90 ∷ 0 ∷ 1 ∷ 119 ∷ 13 ∷ (codes "nonode@nohost" ++ 0 ∷ 0 ∷ 0 ∷ 0 ∷ 0 ∷ 0 ∷ 0 ∷ 7 ∷ [])
reference = behind_version _ _ (encode-Tid 7)

binary : encode_with_version (Binary (0 ∷ 255 ∷ [])) ≡ 131 ∷ 109 ∷ 0 ∷ 0 ∷ 0 ∷ 2 ∷ 0 ∷ 255 ∷ []
binary = behind_version _ _ (encode-Binary (0 ∷ 255 ∷ []))

nil : encode_with_version (ListOf []) ≡ 131 ∷ 106 ∷ []
nil = behind_version _ _ (encode-List [])

tuple : encode_with_version (Tuple (Atom (97 ∷ []) ∷ Int (pos 1) ∷ [])) ≡ 131 ∷ 104 ∷ 2 ∷ 119 ∷ 1 ∷ 97 ∷ 97 ∷ 1 ∷ []
tuple =
    behind_version _ _
    (encode-Tuple (Atom (97 ∷ []) ∷ Int (pos 1) ∷ [])
    ∙ λ i. tuple_bytes (encode-Atom (97 ∷ []) i ∷ encode-Int (pos 1) i ∷ []))

string : encode_with_version (ListOf (Int (pos 104) ∷ Int (pos 105) ∷ [])) ≡ 131 ∷ 107 ∷ 0 ∷ 2 ∷ 104 ∷ 105 ∷ []
string =
    behind_version _ _
    (encode-List (Int (pos 104) ∷ Int (pos 105) ∷ [])
    ∙ λ i. list_bytes (encode-Int (pos 104) i ∷ encode-Int (pos 105) i ∷ []))

list : encode_with_version (ListOf (Int (pos 1) ∷ Atom (97 ∷ []) ∷ [])) ≡ 131 ∷ 108 ∷ 0 ∷ 0 ∷ 0 ∷ 2 ∷ 97 ∷ 1 ∷ 119 ∷ 1 ∷ 97 ∷ 106 ∷ []
list =
    behind_version _ _
    (encode-List (Int (pos 1) ∷ Atom (97 ∷ []) ∷ [])
    ∙ λ i. list_bytes (encode-Int (pos 1) i ∷ encode-Atom (97 ∷ []) i ∷ []))
