-- The functions of expressions (ERTS User's Guide, Match Specifications in Erlang). None means that the call fails.
use Rattle.std.specs.Prelude.{ℕ, zero, suc, ℤ, pos, length, not, int_div, int_rem, ◌+ℤ◌, ◌-ℤ◌, ◌*ℤ◌, unsigned_abs, ◌||◌, Bool, true, false, if◌then◌else◌, List, [], ◌∷◌, Option, Some, None, option_map, codes}
use Rattle.std.specs.Option.{option_and_then}
use Rattle.std.specs.declared.cmp.Ordering.{Ordering}
use Rattle.std.specs.Ordering.{is_eq, is_ne, is_lt, is_le, is_gt, is_ge, int_cmp}
use Rattle.std.specs.Str.{bytes_eq}
use Rattle.ets_term.specs.Data.{Data, int, atom, pid, tid, tuple, list, binary, DataList, no_terms, term}
use Rattle.ets_term.specs.Integers.{in_range}
use Rattle.ets_term.specs.Order.{data_order, data_list_len}

-- a boolean as an atom
abbrev pub truth : Bool → Data
truth true = atom (codes "true")
truth false = atom (codes "false")

-- the boolean of a term: only the atoms `true` and `false` are booleans
abbrev pub boolean : Data → Option Bool
boolean (atom a) =
    if bytes_eq a (codes "true") then Some true else if bytes_eq a (codes "false") then Some false else None
boolean d = None

-- the name of a term's type; a table identifier is a reference
abbrev pub type_name : Data → List ℕ
type_name (atom a) = codes "atom"
type_name (int n) = codes "integer"
type_name (list ds) = codes "list"
type_name (tuple ds) = codes "tuple"
type_name (binary s) = codes "binary"
type_name (pid n) = codes "pid"
type_name (tid n) = codes "reference"

-- whether a term is of the type with this name, as an atom
abbrev pub is_type : List ℕ → Data → Option Data
is_type name d = Some (truth (bytes_eq (type_name d) name))

-- the absolute value of an integer
abbrev pub absolute : Data → Option Data
absolute (int n) = option_map int (in_range (pos (unsigned_abs n)))
absolute d = None

-- the first element of a list
abbrev pub head : Data → Option Data
head (list (term d ds)) = Some d
head d = None

-- the list without its first element
abbrev pub tail : Data → Option Data
tail (list (term d ds)) = Some (list ds)
tail d = None

-- a number of elements as an integer
abbrev pub count : ℕ → Option Data
count n = option_map int (in_range (pos n))

-- the number of elements of a list
abbrev pub list_length : Data → Option Data
list_length (list ds) = count (data_list_len ds)
list_length d = None

-- the number of elements of a tuple, or of bytes of a binary
abbrev pub size : Data → Option Data
size (tuple ds) = count (data_list_len ds)
size (binary s) = count (length s)
size d = None

-- the function of one argument that has this name
abbrev pub unary_function_of : List ℕ → Option (Data → Option Data)
unary_function_of f =
    if bytes_eq f (codes "is_atom") then Some (is_type (codes "atom"))
    else if bytes_eq f (codes "is_integer") || bytes_eq f (codes "is_number") then Some (is_type (codes "integer"))
    else if bytes_eq f (codes "is_list") then Some (is_type (codes "list"))
    else if bytes_eq f (codes "is_tuple") then Some (is_type (codes "tuple"))
    else if bytes_eq f (codes "is_binary") then Some (is_type (codes "binary"))
    else if bytes_eq f (codes "is_pid") then Some (is_type (codes "pid"))
    else if bytes_eq f (codes "is_reference") then Some (is_type (codes "reference"))
    else if bytes_eq f (codes "not") then Some (λ d. option_map (λ b. truth (not b)) (boolean d))
    else if bytes_eq f (codes "abs") then Some absolute
    else if bytes_eq f (codes "hd") then Some head
    else if bytes_eq f (codes "tl") then Some tail
    else if bytes_eq f (codes "length") then Some list_length
    else if bytes_eq f (codes "size") then Some size
    else None

-- whether a comparison holds of two terms by their order, as an atom
abbrev pub comparison : (Ordering → Bool) → Data → Data → Option Data
comparison holds d e = Some (truth (holds (data_order d e)))

-- the value of a function of two integers, which fails for other terms
abbrev pub on_integers : (ℤ → ℤ → Option ℤ) → Data → Data → Option Data
on_integers f (int m) (int n) = option_map int (f m n)
on_integers f d e = None

-- a quotient or remainder, which fails if the divisor is zero; a quotient is cut toward zero, and a remainder has the
-- sign of the left operand
abbrev pub divide : (ℤ → ℤ → ℤ) → ℤ → ℤ → Option ℤ
divide f m n = if is_eq (int_cmp n (pos 0)) then None else in_range (f m n)

-- whether exactly one of two booleans is true
abbrev pub xor : Bool → Bool → Bool
xor true b = not b
xor false b = b

-- whether exactly one is true; None if one is None
abbrev pub exclusive : Option Bool → Option Bool → Option Bool
exclusive a b = option_and_then (λ x. option_map (xor x) b) a

-- element i of a list of trees, counted from 0
abbrev pub data_list_element : DataList → ℕ → Option Data
data_list_element no_terms i = None
data_list_element (term d ds) zero = Some d
data_list_element (term d ds) (suc i) = data_list_element ds i

-- element n of a tuple, counted from 1
abbrev pub tuple_element : ℕ → Data → Option Data
tuple_element (suc i) (tuple ds) = data_list_element ds i
tuple_element n d = None

-- element n of a tuple, where n is a term
abbrev pub element : Data → Data → Option Data
element (int (pos n)) d = tuple_element n d
element n d = None

-- the function of two arguments that has this name; a result outside the range of integers fails
abbrev pub binary_function_of : List ℕ → Option (Data → Data → Option Data)
binary_function_of f =
    if bytes_eq f (codes ">") then Some (comparison is_gt)
    else if bytes_eq f (codes ">=") then Some (comparison is_ge)
    else if bytes_eq f (codes "<") then Some (comparison is_lt)
    else if bytes_eq f (codes "=<") then Some (comparison is_le)
    else if bytes_eq f (codes "=:=") || bytes_eq f (codes "==") then Some (comparison is_eq)
    else if bytes_eq f (codes "=/=") || bytes_eq f (codes "/=") then Some (comparison is_ne)
    else if bytes_eq f (codes "+") then Some (on_integers (λ m n. in_range (m +ℤ n)))
    else if bytes_eq f (codes "-") then Some (on_integers (λ m n. in_range (m -ℤ n)))
    else if bytes_eq f (codes "*") then Some (on_integers (λ m n. in_range (m *ℤ n)))
    else if bytes_eq f (codes "div") then Some (on_integers (divide int_div))
    else if bytes_eq f (codes "rem") then Some (on_integers (divide int_rem))
    else if bytes_eq f (codes "xor") then Some (λ d e. option_map truth (exclusive (boolean d) (boolean e)))
    else if bytes_eq f (codes "element") then Some element
    else None

-- the value of the function with this name for these arguments
abbrev pub call : List ℕ → List Data → Option Data
call f (d ∷ []) = option_and_then (λ g. g d) (unary_function_of f)
call f (d ∷ e ∷ []) = option_and_then (λ g. g d e) (binary_function_of f)
call f ds = None
