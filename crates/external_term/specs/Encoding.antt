-- The bytes that are written for a term: those of term_to_binary with minor_version 2.
use Rattle.std.specs.Prelude.{ℕ, zero, suc, ◌+◌, ◌-◌, ◌/◌, ◌%◌, ◌^◌, ℤ, pos, negsuc, List, [], ◌∷◌, ◌++◌, map, length, slice_index, Bool, ◌==◌, ◌&&◌, nat_lt, if◌then◌else◌, codes}
use Rattle.std.specs.List.{list_all}
use Rattle.ets_term.specs.Encoding.{concat}
use Rattle.ets_term.specs.declared.term.Term.{Term, fold-Term}
use Rattle.ets_term.specs.declared.term.Term.TheOpen.{Term-F}
use Rattle.external_term.specs.Integers.{max_digits}

-- a number as two bytes, the high byte first
abbrev pub big2 : ℕ → List ℕ
big2 n = n / 2 ^ 8 % 256 ∷ n % 256 ∷ []

-- a number as four bytes, the high byte first
abbrev pub big4 : ℕ → List ℕ
big4 n = n / 2 ^ 24 % 256 ∷ n / 2 ^ 16 % 256 ∷ n / 2 ^ 8 % 256 ∷ n % 256 ∷ []

-- the bytes of a number, at most k bytes, with the low byte first and without zeros at the end
unfoldable pub low_bytes : ℕ → ℕ → List ℕ
low_bytes zero n = []
low_bytes (suc k) n = if n == 0 then [] else n % 256 ∷ low_bytes k (n / 256)

-- the bytes of a magnitude, the low byte first
abbrev pub digits_of : ℕ → List ℕ
digits_of n = low_bytes max_digits n

-- SMALL_BIG_EXT: the tag, the number of bytes of the magnitude, the sign (1 if negative), and the bytes
abbrev pub big_bytes : ℕ → ℕ → List ℕ
big_bytes sign n = 110 ∷ length (digits_of n) ∷ sign ∷ digits_of n

-- an integer: SMALL_INTEGER_EXT from 0 to 255, INTEGER_EXT for other integers of 32 bits, else SMALL_BIG_EXT
abbrev pub encode_integer : ℤ → List ℕ
encode_integer (pos n) =
    if nat_lt n 256 then 97 ∷ n ∷ [] else if nat_lt n (2 ^ 31) then 98 ∷ big4 n else big_bytes 0 n
encode_integer (negsuc n) = if nat_lt n (2 ^ 31) then 98 ∷ big4 (2 ^ 32 - 1 - n) else big_bytes 1 (n + 1)

-- an atom: SMALL_ATOM_UTF8_EXT
abbrev pub atom_bytes : List ℕ → List ℕ
atom_bytes s = 119 ∷ length s ∷ s

-- the name of the node, as an atom
abbrev pub node_name_bytes : List ℕ
node_name_bytes = atom_bytes (codes "nonode@nohost")

-- a pid: NEW_PID_EXT with the node, the number, the serial 0 and the creation 0
abbrev pub pid_bytes : ℕ → List ℕ
pid_bytes n = 88 ∷ (node_name_bytes ++ (big4 n ++ 0 ∷ 0 ∷ 0 ∷ 0 ∷ 0 ∷ 0 ∷ 0 ∷ 0 ∷ []))

-- a table identifier: NEWER_REFERENCE_EXT with the number of words, 1, the node, the creation 0 and the word
abbrev pub reference_bytes : ℕ → List ℕ
reference_bytes n = 90 ∷ 0 ∷ 1 ∷ (node_name_bytes ++ (0 ∷ 0 ∷ 0 ∷ 0 ∷ big4 n))

-- the tag and the number of elements of a tuple: SMALL_TUPLE_EXT up to 255 elements, else LARGE_TUPLE_EXT
abbrev pub tuple_header : ℕ → List ℕ
tuple_header n = if nat_lt n 256 then 104 ∷ n ∷ [] else 105 ∷ big4 n

-- a tuple: its tag and number of elements, and the elements
abbrev pub tuple_bytes : List (List ℕ) → List ℕ
tuple_bytes es = tuple_header (length es) ++ concat es

-- whether an element is written as SMALL_INTEGER_EXT, that is, whether it is an integer from 0 to 255
abbrev pub is_small : List ℕ → Bool
is_small e = slice_index e 0 == 97

-- the byte of such an element, 0 for any other element
abbrev pub char_of : List ℕ → ℕ
char_of e = if is_small e then slice_index e 1 else 0

-- whether a list of these elements is written as STRING_EXT, if it is not empty
abbrev pub is_string : List (List ℕ) → Bool
is_string es = nat_lt (length es) (2 ^ 16) && list_all is_small es

-- a list of bytes as STRING_EXT: the number of bytes, and the bytes
abbrev pub string_bytes : List (List ℕ) → List ℕ
string_bytes es = 107 ∷ (big2 (length es) ++ map char_of es)

-- a list as LIST_EXT: the number of elements, the elements, and NIL_EXT as the tail
abbrev pub long_list_bytes : List (List ℕ) → List ℕ
long_list_bytes es = 108 ∷ (big4 (length es) ++ (concat es ++ 106 ∷ []))

-- a list: NIL_EXT if it is empty, STRING_EXT if it has at most 65535 elements, all of them bytes, else LIST_EXT
abbrev pub list_bytes : List (List ℕ) → List ℕ
list_bytes es =
    if length es == 0 then 106 ∷ [] else if is_string es then string_bytes es else long_list_bytes es

-- a binary: BINARY_EXT with the number of bytes, and the bytes
abbrev pub binary_bytes : List ℕ → List ℕ
binary_bytes bs = 109 ∷ (big4 (length bs) ++ bs)

-- the bytes of a term without the version, from the bytes of its elements
abbrev pub encode_form : Term-F (List ℕ) → List ℕ
encode_form (Term-F.Int n) = encode_integer n
encode_form (Term-F.Atom s) = atom_bytes s
encode_form (Term-F.Pid n) = pid_bytes n
encode_form (Term-F.Tid n) = reference_bytes n
encode_form (Term-F.Tuple es) = tuple_bytes es
encode_form (Term-F.List es) = list_bytes es
encode_form (Term-F.Binary bs) = binary_bytes bs

-- the bytes of a term without the version
abbrev pub encode : Term → List ℕ
encode = fold-Term (List ℕ) encode_form

-- the bytes that are written for a term: the version and the bytes of the term
abbrev pub encode_with_version : Term → List ℕ
encode_with_version t = 131 ∷ encode t
