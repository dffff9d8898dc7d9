-- The functions and connectives as the program names them, by its enums. They do not define what an expression means.
use Rattle.std.specs.Prelude.{ℕ, ℤ, pos, not, int_div, int_rem, ◌+ℤ◌, ◌-ℤ◌, ◌*ℤ◌, ◌==◌, ◌&&◌, ◌||◌, nat_lt, Bool, true, false, if◌then◌else◌, List, [], ◌∷◌, Option, Some, None, is_some, option_map, codes}
use Rattle.std.specs.declared.cmp.Ordering.{Ordering}
use Rattle.std.specs.Ordering.{is_eq, is_ne, is_lt, is_le, is_gt, is_ge, int_cmp}
use Rattle.std.specs.Str.{bytes_eq}
use Rattle.ets_term.specs.Data.{Data}
use Rattle.ets_term.specs.Integers.{in_range}
use Rattle.ets_term.specs.Order.{data_order}
use Rattle.match_spec.specs.declared.expression.Connective.{Connective}
use Rattle.match_spec.specs.declared.expression.Connective.TheVariants.{And, Or}
use Rattle.match_spec.specs.declared.expression.arithmetic.ArithmeticOp.{ArithmeticOp}
use Rattle.match_spec.specs.declared.expression.arithmetic.ArithmeticOp.TheVariants.{Add, Subtract, Multiply, Divide, Remainder}
use Rattle.match_spec.specs.declared.expression.comparison.ComparisonOp.{ComparisonOp}
use Rattle.match_spec.specs.declared.expression.comparison.ComparisonOp.TheVariants.{Greater, GreaterOrEqual, Less, LessOrEqual, Equal, NotEqual}
use Rattle.match_spec.specs.declared.expression.function.Function.{Function}
use Rattle.match_spec.specs.declared.expression.function.Function.TheVariants.{TypeTest, Not, Abs, Hd, Tl, Length, Size, Xor, Element, Calculate, Compare}
use Rattle.match_spec.specs.declared.expression.guards.GuardKind.{GuardKind}
use Rattle.match_spec.specs.declared.expression.guards.GuardKind.TheVariants.{Atom, Integer, List as AnyList, Tuple, Binary, Pid, Reference}
use Rattle.match_spec.specs.Functions.{truth, boolean, exclusive, absolute, head, tail, list_length, size, element, type_name, on_integers}

abbrev pub guard_kind_of : List ℕ → Option GuardKind
guard_kind_of f =
    if bytes_eq f (codes "is_atom") then Some Atom
    else if bytes_eq f (codes "is_integer") || bytes_eq f (codes "is_number") then Some Integer
    else if bytes_eq f (codes "is_list") then Some AnyList
    else if bytes_eq f (codes "is_tuple") then Some Tuple
    else if bytes_eq f (codes "is_binary") then Some Binary
    else if bytes_eq f (codes "is_pid") then Some Pid
    else if bytes_eq f (codes "is_reference") then Some Reference
    else None

abbrev pub arithmetic_op_of : List ℕ → Option ArithmeticOp
arithmetic_op_of f =
    if bytes_eq f (codes "+") then Some Add
    else if bytes_eq f (codes "-") then Some Subtract
    else if bytes_eq f (codes "*") then Some Multiply
    else if bytes_eq f (codes "div") then Some Divide
    else if bytes_eq f (codes "rem") then Some Remainder
    else None

abbrev pub comparison_op_of : List ℕ → Option ComparisonOp
comparison_op_of f =
    if bytes_eq f (codes ">") then Some Greater
    else if bytes_eq f (codes ">=") then Some GreaterOrEqual
    else if bytes_eq f (codes "<") then Some Less
    else if bytes_eq f (codes "=<") then Some LessOrEqual
    else if bytes_eq f (codes "=:=") || bytes_eq f (codes "==") then Some Equal
    else if bytes_eq f (codes "=/=") || bytes_eq f (codes "/=") then Some NotEqual
    else None

abbrev pub is_or : Option GuardKind → Option Function → Option Function
is_or None f = f
is_or (Some k) f = Some (TypeTest k)

abbrev pub calculate_or : Option ArithmeticOp → Option Function → Option Function
calculate_or None f = f
calculate_or (Some op) f = Some (Calculate op)

abbrev pub compare_or : Option ComparisonOp → Option Function → Option Function
compare_or None f = f
compare_or (Some c) f = Some (Compare c)

abbrev pub unary_function_of : List ℕ → Option Function
unary_function_of f = is_or (guard_kind_of f) (
    if bytes_eq f (codes "not") then Some Not
    else if bytes_eq f (codes "abs") then Some Abs
    else if bytes_eq f (codes "hd") then Some Hd
    else if bytes_eq f (codes "tl") then Some Tl
    else if bytes_eq f (codes "length") then Some Length
    else if bytes_eq f (codes "size") then Some Size
    else None)

abbrev pub binary_function_of : List ℕ → Option Function
binary_function_of f = compare_or (comparison_op_of f) (calculate_or (arithmetic_op_of f) (
    if bytes_eq f (codes "xor") then Some Xor
    else if bytes_eq f (codes "element") then Some Element
    else None))

-- the function of a name and a number of arguments
abbrev pub function_of : List ℕ → ℕ → Option Function
function_of f n =
    if n == 1 then unary_function_of f
    else if n == 2 then binary_function_of f
    else None

-- the connective of a name that evaluates all arguments
abbrev pub strict_connective : List ℕ → Option Connective
strict_connective f =
    if bytes_eq f (codes "and") then Some And else if bytes_eq f (codes "or") then Some Or else None

-- the connective of a name that stops at the first argument that decides
abbrev pub short_circuit_connective : List ℕ → Option Connective
short_circuit_connective f =
    if bytes_eq f (codes "andalso") then Some And else if bytes_eq f (codes "orelse") then Some Or else None

-- whether a name with a number of arguments is a function; `and`, `or`, `andalso` and `orelse` take one or more
abbrev pub is_function : List ℕ → ℕ → Bool
is_function f n =
    ((is_some (short_circuit_connective f) || is_some (strict_connective f)) && nat_lt 0 n)
    || is_some (function_of f n)

-- the name of a kind's type
abbrev pub kind_name : GuardKind → List ℕ
kind_name Atom = codes "atom"
kind_name Integer = codes "integer"
kind_name AnyList = codes "list"
kind_name Tuple = codes "tuple"
kind_name Binary = codes "binary"
kind_name Pid = codes "pid"
kind_name Reference = codes "reference"

abbrev pub is_kind : GuardKind → Data → Bool
is_kind k d = bytes_eq (type_name d) (kind_name k)

abbrev pub calculate : ArithmeticOp → ℤ → ℤ → Option ℤ
calculate Add m n = in_range (m +ℤ n)
calculate Subtract m n = in_range (m -ℤ n)
calculate Multiply m n = in_range (m *ℤ n)
calculate Divide m n = if is_eq (int_cmp n (pos 0)) then None else in_range (int_div m n)
calculate Remainder m n = if is_eq (int_cmp n (pos 0)) then None else in_range (int_rem m n)

abbrev pub eval_arithmetic : ArithmeticOp → Data → Data → Option Data
eval_arithmetic op = on_integers (calculate op)

-- whether a comparison holds for two terms of this order
abbrev pub comparison_holds : ComparisonOp → Ordering → Bool
comparison_holds Greater o = is_gt o
comparison_holds GreaterOrEqual o = is_ge o
comparison_holds Less o = is_lt o
comparison_holds LessOrEqual o = is_le o
comparison_holds Equal o = is_eq o
comparison_holds NotEqual o = is_ne o

-- the value of a function at the values of its arguments
abbrev pub apply : Function → List Data → Option Data
apply (TypeTest k) (d ∷ []) = Some (truth (is_kind k d))
apply Not (d ∷ []) = option_map (λ b. truth (not b)) (boolean d)
apply Abs (d ∷ []) = absolute d
apply Hd (d ∷ []) = head d
apply Tl (d ∷ []) = tail d
apply Length (d ∷ []) = list_length d
apply Size (d ∷ []) = size d
apply Xor (d ∷ e ∷ []) = option_map truth (exclusive (boolean d) (boolean e))
apply Element (d ∷ e ∷ []) = element d e
apply (Calculate op) (d ∷ e ∷ []) = eval_arithmetic op d e
apply (Compare c) (d ∷ e ∷ []) = Some (truth (comparison_holds c (data_order d e)))
apply f ds = None

-- the truth that decides a connective
abbrev pub deciding_truth : Connective → Bool
deciding_truth And = false
deciding_truth Or = true

-- whether a connective is decided by one argument of this truth: `and` by false, `or` by true
abbrev pub decides : Connective → Bool → Bool
decides And x = not x
decides Or x = x

-- what a connective of no arguments gives
abbrev pub neutral : Connective → Bool
neutral And = true
neutral Or = false

abbrev pub combine : Connective → Bool → Bool → Bool
combine And x y = x && y
combine Or x y = x || y
