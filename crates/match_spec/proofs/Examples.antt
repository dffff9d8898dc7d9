-- Worked examples, which hold of the definitions by computing.
use Rattle.std.specs.Prelude.{◌≡◌, ℕ, pos, negsuc, ◌-◌, ◌^◌, Bool, true, false, List, [], ◌∷◌, Option, Some, None, codes, refl}
use Rattle.std.specs.Option.{option_map}
use Rattle.std.specs.Map.{values_of}
use Rattle.ets_term.specs.Data.{Data, int, atom, tid, tuple, list, binary, data_list}
use Rattle.match_spec.specs.BoundKeys.{bound_key, spec_key}
use Rattle.match_spec.specs.Variables.{variable}
use Rattle.match_spec.specs.Patterns.{bindings_of}
use Rattle.match_spec.specs.Specifications.{is_pattern, is_spec, result_of}

abbrev numeral : ℕ → Data
numeral n = int (pos n)

abbrev t : List Data → Data
t ds = tuple (data_list ds)

abbrev l : List Data → Data
l ds = list (data_list ds)

a : Data
a = atom (codes "a")

is_variable : variable (codes "$100000000") ≡ Some 100000000
is_variable = refl

no_variables : variable (codes "$01") ≡ None
no_variables = refl

abbrev v1 : Data
v1 = atom (codes "$1")

abbrev v2 : Data
v2 = atom (codes "$2")

abbrev v0 : Data
v0 = atom (codes "$0")

abbrev any : Data
any = atom (codes "_")

-- a variable matches the same term at each of its occurrences; bindings are in order of number
same_twice : option_map values_of (bindings_of (t (v1 ∷ v1 ∷ [])) (t (atom (codes "x") ∷ atom (codes "x") ∷ []))) ≡ Some (atom (codes "x") ∷ [])
same_twice = refl

not_twice : option_map values_of (bindings_of (t (v1 ∷ v1 ∷ [])) (t (atom (codes "y") ∷ atom (codes "z") ∷ []))) ≡ None
not_twice = refl

paths_by_number : option_map values_of (bindings_of (t (v2 ∷ v0 ∷ [])) (t (atom (codes "y") ∷ atom (codes "z") ∷ []))) ≡ Some (atom (codes "z") ∷ atom (codes "y") ∷ [])
paths_by_number = refl

abbrev clause : Data → List Data → List Data → Data
clause pattern conditions body = t (pattern ∷ l conditions ∷ l body ∷ [])

abbrev spec : Data → List Data → List Data → Data
spec pattern conditions body = l (clause pattern conditions body ∷ [])

abbrev b2 : Data
b2 = t (atom (codes "b") ∷ numeral 2 ∷ [])

-- conditions, and expressions that fail
above_one : result_of (spec (t (v1 ∷ v2 ∷ [])) (t (atom (codes ">") ∷ v2 ∷ numeral 1 ∷ []) ∷ []) (atom (codes "$$") ∷ [])) b2 ≡ Some (l (atom (codes "b") ∷ numeral 2 ∷ []))
above_one = refl

failing_condition : result_of (spec (t (v1 ∷ v2 ∷ [])) (t (atom (codes "div") ∷ v2 ∷ numeral 0 ∷ []) ∷ []) (atom (codes "$$") ∷ [])) b2 ≡ None
failing_condition = refl

exit : result_of (spec any [] (t (atom (codes "hd") ∷ l [] ∷ []) ∷ [])) b2 ≡ Some (atom (codes "EXIT"))
exit = refl

empty_spec : is_spec (l []) ≡ false
empty_spec = refl

unbound : is_spec (spec v1 [] (v2 ∷ [])) ≡ false
unbound = refl

-- the least integer, and arguments that are not evaluated
least : Data
least = int (negsuc (2 ^ 127 - 1))

abbrev body : List Data → Option Data
body e = result_of (spec any [] (t e ∷ [])) b2

rem_of_least : body (atom (codes "rem") ∷ int (negsuc 170141183460469231731687303715884105727) ∷ int (negsuc 0) ∷ []) ≡ Some (numeral 0)
rem_of_least = refl

div_of_least : body (atom (codes "div") ∷ int (negsuc 170141183460469231731687303715884105727) ∷ int (negsuc 0) ∷ []) ≡ Some (atom (codes "EXIT"))
div_of_least = refl

and_also : body (atom (codes "andalso") ∷ atom (codes "false") ∷ t (atom (codes "hd") ∷ l [] ∷ []) ∷ []) ≡ Some (atom (codes "false"))
and_also = refl

and_all : body (atom (codes "and") ∷ atom (codes "false") ∷ t (atom (codes "hd") ∷ l [] ∷ []) ∷ []) ≡ Some (atom (codes "EXIT"))
and_all = refl

-- the first matching clause
first_or_second : Data
first_or_second = l (clause (t (v1 ∷ any ∷ [])) (t (atom (codes "=:=") ∷ v1 ∷ a ∷ []) ∷ []) (atom (codes "first") ∷ []) ∷ clause any [] (atom (codes "second") ∷ []) ∷ [])

first : result_of first_or_second (t (a ∷ numeral 1 ∷ [])) ≡ Some (atom (codes "first"))
unfolding first_or_second a
first = refl

second : result_of first_or_second b2 ≡ Some (atom (codes "second"))
unfolding first_or_second a
second = refl

no_variable_but_itself : result_of (spec any [] (atom (codes "$01") ∷ [])) b2 ≡ Some (atom (codes "$01"))
no_variable_but_itself = refl

five : is_pattern (numeral 5) ≡ false
five = refl

-- each function once
abbrev w : List ℕ → Data
w text = atom text

abbrev call : List ℕ → List Data → Option Data
call f es = body (w f ∷ es)

abbrev quoted : Data → Data
quoted d = t (w (codes "const") ∷ d ∷ [])

abbrev pair : Data
pair = quoted (t (numeral 7 ∷ numeral 8 ∷ []))

abbrev eight : Data
eight = l (numeral 7 ∷ numeral 8 ∷ [])

test_of_an_atom : call (codes "is_atom") (w (codes "a") ∷ []) ≡ Some (w (codes "true"))
test_of_an_atom = refl

test_of_a_number : call (codes "is_number") (numeral 7 ∷ []) ≡ Some (w (codes "true"))
test_of_a_number = refl

test_of_a_list : call (codes "is_list") (numeral 7 ∷ []) ≡ Some (w (codes "false"))
test_of_a_list = refl

test_of_a_reference : call (codes "is_reference") (tid 7 ∷ []) ≡ Some (w (codes "true"))
test_of_a_reference = refl

test_of_a_pid : call (codes "is_pid") (tid 7 ∷ []) ≡ Some (w (codes "false"))
test_of_a_pid = refl

one_or : call (codes "or") (w (codes "false") ∷ w (codes "true") ∷ []) ≡ Some (w (codes "true"))
one_or = refl

no_boolean : call (codes "or") (w (codes "true") ∷ w (codes "a") ∷ []) ≡ Some (w (codes "EXIT"))
no_boolean = refl

one_or_the_other : call (codes "xor") (w (codes "true") ∷ w (codes "true") ∷ []) ≡ Some (w (codes "false"))
one_or_the_other = refl

or_else : call (codes "orelse") (w (codes "true") ∷ t (w (codes "hd") ∷ l [] ∷ []) ∷ []) ≡ Some (w (codes "true"))
or_else = refl

last_is_no_boolean : call (codes "orelse") (w (codes "false") ∷ w (codes "a") ∷ []) ≡ Some (w (codes "EXIT"))
last_is_no_boolean = refl

difference : call (codes "-") (numeral 2 ∷ numeral 3 ∷ []) ≡ Some (int (negsuc 0))
difference = refl

product : call (codes "*") (numeral 2 ∷ int (negsuc 2) ∷ []) ≡ Some (int (negsuc 5))
product = refl

past_the_range : call (codes "+") (numeral 170141183460469231731687303715884105727 ∷ numeral 1 ∷ []) ≡ Some (w (codes "EXIT"))
past_the_range = refl

quotient : call (codes "div") (int (negsuc 6) ∷ numeral 2 ∷ []) ≡ Some (int (negsuc 2))
quotient = refl

remainder : call (codes "rem") (int (negsuc 6) ∷ numeral 2 ∷ []) ≡ Some (int (negsuc 0))
remainder = refl

rem_of_zero : call (codes "rem") (numeral 1 ∷ numeral 0 ∷ []) ≡ Some (w (codes "EXIT"))
rem_of_zero = refl

absolute : call (codes "abs") (int (negsuc 6) ∷ []) ≡ Some (numeral 7)
absolute = refl

abs_of_least : call (codes "abs") (int (negsuc 170141183460469231731687303715884105727) ∷ []) ≡ Some (w (codes "EXIT"))
abs_of_least = refl

rest : call (codes "tl") (eight ∷ []) ≡ Some (l (numeral 8 ∷ []))
rest = refl

how_many : call (codes "length") (eight ∷ []) ≡ Some (numeral 2)
how_many = refl

how_large : call (codes "size") (binary (1 ∷ 2 ∷ 3 ∷ []) ∷ []) ≡ Some (numeral 3)
how_large = refl

second_element : call (codes "element") (numeral 2 ∷ pair ∷ []) ≡ Some (numeral 8)
second_element = refl

no_such_element : call (codes "element") (numeral 0 ∷ pair ∷ []) ≡ Some (w (codes "EXIT"))
no_such_element = refl

element_of_atoms : call (codes "element") (numeral 2 ∷ quoted (t (w (codes "a") ∷ w (codes "b") ∷ [])) ∷ []) ≡ Some (w (codes "b"))
element_of_atoms = refl

div_of_zero : call (codes "div") (numeral 1 ∷ numeral 0 ∷ []) ≡ Some (w (codes "EXIT"))
div_of_zero = refl

test_of_no_number : call (codes "is_number") (w (codes "a") ∷ []) ≡ Some (w (codes "false"))
test_of_no_number = refl

one_and : call (codes "and") (w (codes "true") ∷ w (codes "false") ∷ []) ≡ Some (w (codes "false"))
one_and = refl

unequal : call (codes "=/=") (numeral 7 ∷ numeral 8 ∷ []) ≡ Some (w (codes "true"))
unequal = refl

-- names with numbers of arguments that are not functions
abbrev accepted : List ℕ → List Data → Bool
accepted f es = is_spec (spec any [] (t (w f ∷ es) ∷ []))

one_and_is_enough : accepted (codes "and") (w (codes "true") ∷ []) ≡ true
one_and_is_enough = refl

and_of_nothing : accepted (codes "and") [] ≡ false
and_of_nothing = refl

not_of_two : accepted (codes "not") (w (codes "true") ∷ w (codes "true") ∷ []) ≡ false
not_of_two = refl

sum_of_one : accepted (codes "+") (numeral 1 ∷ []) ≡ false
sum_of_one = refl

unknown_name : accepted (codes "is_boolean") (w (codes "true") ∷ []) ≡ false
unknown_name = refl

-- bound keys
key_of_pattern : bound_key 1 (t (numeral 7 ∷ v1 ∷ [])) ≡ Some (numeral 7)
key_of_pattern = refl

no_key : bound_key 2 (t (numeral 7 ∷ v1 ∷ [])) ≡ None
no_key = refl

no_key_with_underscore : bound_key 1 (t (l (numeral 7 ∷ any ∷ []) ∷ [])) ≡ None
no_key_with_underscore = refl

key_of_two_clauses : spec_key 1 (l (clause (t (numeral 7 ∷ any ∷ [])) [] (v1 ∷ []) ∷ clause (t (numeral 7 ∷ v1 ∷ [])) [] (v1 ∷ []) ∷ [])) ≡ Some (numeral 7)
key_of_two_clauses = refl

two_keys : spec_key 1 (l (clause (t (numeral 7 ∷ any ∷ [])) [] (v1 ∷ []) ∷ clause (t (numeral 8 ∷ v1 ∷ [])) [] (v1 ∷ []) ∷ [])) ≡ None
two_keys = refl
