-- The names of functions and connectives mean what the program's enums mean.
use Rattle.std.proofs.Common.{◌≡◌, ℕ, ◌==◌, ◌&&◌, ◌||◌, not, nat_lt, ◌+ℤ◌, ◌-ℤ◌, ◌*ℤ◌, int_div, int_rem, Bool, true, false, if◌then◌else◌, List, [], ◌∷◌, Option, Some, None, is_some, codes, refl, sym, ap, ◌∙◌}
use Rattle.std.specs.Option.{option_map, option_and_then}
use Rattle.std.specs.Ordering.{is_eq, is_ne, is_lt, is_le, is_gt, is_ge}
use Rattle.std.specs.Str.{bytes_eq}
use Rattle.ets_term.specs.Data.{Data}
use Rattle.ets_term.specs.Integers.{in_range}
use Rattle.match_spec.specs.declared.expression.Connective.{Connective}
use Rattle.match_spec.specs.declared.expression.Connective.TheVariants.{And, Or}
use Rattle.match_spec.specs.declared.expression.arithmetic.ArithmeticOp.TheVariants.{Add, Subtract, Multiply, Divide, Remainder}
use Rattle.match_spec.specs.declared.expression.comparison.ComparisonOp.TheVariants.{Greater, GreaterOrEqual, Less, LessOrEqual, Equal, NotEqual}
use Rattle.match_spec.specs.declared.expression.function.Function.{Function}
use Rattle.match_spec.specs.declared.expression.function.Function.TheVariants.{Not, Abs, Hd, Tl, Length, Size, Xor, Element}
use Rattle.match_spec.specs.declared.expression.guards.GuardKind.TheVariants.{Atom, Integer, List as AnyList, Tuple, Binary, Pid, Reference}
use Rattle.match_spec.specs.Expressions.{strict_connective, short_circuit_connective, is_function}
use Rattle.match_spec.specs.Functions.{truth, boolean, exclusive, absolute, head, tail, list_length, size, element, is_type, comparison, on_integers, divide, unary_function_of, binary_function_of, call}
use Rattle.match_spec.specs.inside.Functions.{apply, deciding_truth, is_or, calculate_or, compare_or, function_of, unary_function_of as one_by_enum, binary_function_of as two_by_enum, strict_connective as strict_by_enum, short_circuit_connective as short_circuit_by_enum, is_function as is_function_by_enum}

abbrev pub of_one : Function → Data → Option Data
of_one g d = apply g (d ∷ [])

abbrev pub of_two : Function → Data → Data → Option Data
of_two g d e = apply g (d ∷ e ∷ [])

pub unary_function_of-is : (f : List ℕ) → unary_function_of f ≡ option_map of_one (one_by_enum f)
unary_function_of-is f =
    by
    (bytes_eq f (codes "is_atom"))
    (bytes_eq f (codes "is_integer") || bytes_eq f (codes "is_number"))
    (bytes_eq f (codes "is_list"))
    (bytes_eq f (codes "is_tuple"))
    (bytes_eq f (codes "is_binary"))
    (bytes_eq f (codes "is_pid"))
    (bytes_eq f (codes "is_reference"))
    (bytes_eq f (codes "not"))
    (bytes_eq f (codes "abs"))
    (bytes_eq f (codes "hd"))
    (bytes_eq f (codes "tl"))
    (bytes_eq f (codes "length"))
    (bytes_eq f (codes "size"))
  where
    by : (c0 c1 c2 c3 c4 c5 c6 c7 c8 c9 c10 c11 c12 : Bool) → (if c0 then Some (is_type (codes "atom")) else if c1 then Some (is_type (codes "integer")) else if c2 then Some (is_type (codes "list")) else if c3 then Some (is_type (codes "tuple")) else if c4 then Some (is_type (codes "binary")) else if c5 then Some (is_type (codes "pid")) else if c6 then Some (is_type (codes "reference")) else if c7 then Some (λ d. option_map (λ b. truth (not b)) (boolean d)) else if c8 then Some absolute else if c9 then Some head else if c10 then Some tail else if c11 then Some list_length else if c12 then Some size else None)
        ≡ option_map of_one (is_or (if c0 then Some Atom else if c1 then Some Integer else if c2 then Some AnyList else if c3 then Some Tuple else if c4 then Some Binary else if c5 then Some Pid else if c6 then Some Reference else None) (if c7 then Some Not else if c8 then Some Abs else if c9 then Some Hd else if c10 then Some Tl else if c11 then Some Length else if c12 then Some Size else None))
    by true c1 c2 c3 c4 c5 c6 c7 c8 c9 c10 c11 c12 = refl
    by false true c2 c3 c4 c5 c6 c7 c8 c9 c10 c11 c12 = refl
    by false false true c3 c4 c5 c6 c7 c8 c9 c10 c11 c12 = refl
    by false false false true c4 c5 c6 c7 c8 c9 c10 c11 c12 = refl
    by false false false false true c5 c6 c7 c8 c9 c10 c11 c12 = refl
    by false false false false false true c6 c7 c8 c9 c10 c11 c12 = refl
    by false false false false false false true c7 c8 c9 c10 c11 c12 = refl
    by false false false false false false false true c8 c9 c10 c11 c12 = refl
    by false false false false false false false false true c9 c10 c11 c12 = refl
    by false false false false false false false false false true c10 c11 c12 = refl
    by false false false false false false false false false false true c11 c12 = refl
    by false false false false false false false false false false false true c12 = refl
    by false false false false false false false false false false false false true = refl
    by false false false false false false false false false false false false false = refl

pub binary_function_of-is : (f : List ℕ) → binary_function_of f ≡ option_map of_two (two_by_enum f)
binary_function_of-is f =
    by
    (bytes_eq f (codes ">"))
    (bytes_eq f (codes ">="))
    (bytes_eq f (codes "<"))
    (bytes_eq f (codes "=<"))
    (bytes_eq f (codes "=:=") || bytes_eq f (codes "=="))
    (bytes_eq f (codes "=/=") || bytes_eq f (codes "/="))
    (bytes_eq f (codes "+"))
    (bytes_eq f (codes "-"))
    (bytes_eq f (codes "*"))
    (bytes_eq f (codes "div"))
    (bytes_eq f (codes "rem"))
    (bytes_eq f (codes "xor"))
    (bytes_eq f (codes "element"))
  where
    by : (c0 c1 c2 c3 c4 c5 c6 c7 c8 c9 c10 c11 c12 : Bool) → (if c0 then Some (comparison is_gt) else if c1 then Some (comparison is_ge) else if c2 then Some (comparison is_lt) else if c3 then Some (comparison is_le) else if c4 then Some (comparison is_eq) else if c5 then Some (comparison is_ne) else if c6 then Some (on_integers (λ m n. in_range (m +ℤ n))) else if c7 then Some (on_integers (λ m n. in_range (m -ℤ n))) else if c8 then Some (on_integers (λ m n. in_range (m *ℤ n))) else if c9 then Some (on_integers (divide int_div)) else if c10 then Some (on_integers (divide int_rem)) else if c11 then Some (λ d e. option_map truth (exclusive (boolean d) (boolean e))) else if c12 then Some element else None)
        ≡ option_map of_two (compare_or (if c0 then Some Greater else if c1 then Some GreaterOrEqual else if c2 then Some Less else if c3 then Some LessOrEqual else if c4 then Some Equal else if c5 then Some NotEqual else None) (calculate_or (if c6 then Some Add else if c7 then Some Subtract else if c8 then Some Multiply else if c9 then Some Divide else if c10 then Some Remainder else None) (if c11 then Some Xor else if c12 then Some Element else None)))
    by true c1 c2 c3 c4 c5 c6 c7 c8 c9 c10 c11 c12 = refl
    by false true c2 c3 c4 c5 c6 c7 c8 c9 c10 c11 c12 = refl
    by false false true c3 c4 c5 c6 c7 c8 c9 c10 c11 c12 = refl
    by false false false true c4 c5 c6 c7 c8 c9 c10 c11 c12 = refl
    by false false false false true c5 c6 c7 c8 c9 c10 c11 c12 = refl
    by false false false false false true c6 c7 c8 c9 c10 c11 c12 = refl
    by false false false false false false true c7 c8 c9 c10 c11 c12 = refl
    by false false false false false false false true c8 c9 c10 c11 c12 = refl
    by false false false false false false false false true c9 c10 c11 c12 = refl
    by false false false false false false false false false true c10 c11 c12 = refl
    by false false false false false false false false false false true c11 c12 = refl
    by false false false false false false false false false false false true c12 = refl
    by false false false false false false false false false false false false true = refl
    by false false false false false false false false false false false false false = refl

connective-is : (c d : Bool) → (if c then Some false else if d then Some true else None) ≡ option_map deciding_truth (if c then Some And else if d then Some Or else None)
connective-is true d = refl
connective-is false true = refl
connective-is false false = refl

pub strict_connective-is : (f : List ℕ) → strict_connective f ≡ option_map deciding_truth (strict_by_enum f)
strict_connective-is f = connective-is (bytes_eq f (codes "and")) (bytes_eq f (codes "or"))

pub short_circuit_connective-is : (f : List ℕ) → short_circuit_connective f ≡ option_map deciding_truth (short_circuit_by_enum f)
short_circuit_connective-is f = connective-is (bytes_eq f (codes "andalso")) (bytes_eq f (codes "orelse"))

is_some-map : {X Y : Type 0} (g : X → Y) (o : Option X) → is_some (option_map g o) ≡ is_some o
is_some-map g None = refl
is_some-map g (Some x) = refl

by_count : (a b : Bool) (o w : Option Function) → is_some (if a then o else if b then w else None) ≡ (if a then is_some o else (b && is_some w))
by_count true b o w = refl
by_count false true o w = refl
by_count false false o w = refl

same_names : (p a b : Bool) (s t : Option Connective) (o w : Option Function) (s' t' : Option Bool) (o' : Option (Data → Option Data)) (w' : Option (Data → Data → Option Data))
    → s' ≡ option_map deciding_truth s → t' ≡ option_map deciding_truth t → o' ≡ option_map of_one o → w' ≡ option_map of_two w
    → (((is_some s || is_some t) && p) || is_some (if a then o else if b then w else None))
    ≡ (((is_some s' || is_some t') && p) || (if a then is_some o' else (b && is_some w')))
same_names p a b s t o w s' t' o' w' e f g h = rw (e, f, g, h, is_some-map deciding_truth s, is_some-map deciding_truth t, is_some-map of_one o, is_some-map of_two w) (ap (λ x. ((is_some s || is_some t) && p) || x) (by_count a b o w))

pub is_function-is : (f : List ℕ) (n : ℕ) → is_function_by_enum f n ≡ is_function f n
is_function-is f n =
    same_names (nat_lt 0 n) (n == 1) (n == 2) (short_circuit_by_enum f) (strict_by_enum f) (one_by_enum f) (two_by_enum f) (short_circuit_connective f) (strict_connective f) (unary_function_of f) (binary_function_of f)
    (short_circuit_connective-is f) (strict_connective-is f) (unary_function_of-is f) (binary_function_of-is f)

-- the values of one argument and of two
abbrev pub after : Option Data → Option (List Data) → Option (List Data)
after v vs = option_and_then (λ d. option_map (λ ds. d ∷ ds) vs) v

no_values : (o : Option Function) → option_and_then (λ g. option_and_then (apply g) None) o ≡ None
no_values None = refl
no_values (Some g) = refl

at_one : (o : Option Function) (d : Data) → option_and_then (λ g. apply g (d ∷ [])) o ≡ option_and_then (λ g. g d) (option_map of_one o)
at_one None d = refl
at_one (Some g) d = refl

at_two : (o : Option Function) (d e : Data) → option_and_then (λ g. apply g (d ∷ e ∷ [])) o ≡ option_and_then (λ g. g d e) (option_map of_two o)
at_two None d e = refl
at_two (Some g) d e = refl

pub call-one : (f : List ℕ) (v : Option Data) → option_and_then (λ g. option_and_then (apply g) (after v (Some []))) (function_of f 1) ≡ option_and_then (call f) (after v (Some []))
call-one f None = no_values (one_by_enum f)
call-one f (Some d) = at_one (one_by_enum f) d ∙ ap (option_and_then (λ g. g d)) (sym (unary_function_of-is f))

pub call-two : (f : List ℕ) (v w : Option Data) → option_and_then (λ g. option_and_then (apply g) (after v (after w (Some [])))) (function_of f 2) ≡ option_and_then (call f) (after v (after w (Some [])))
call-two f None w = no_values (two_by_enum f)
call-two f (Some d) None = no_values (two_by_enum f)
call-two f (Some d) (Some e) = at_two (two_by_enum f) d e ∙ ap (option_and_then (λ g. g d e)) (sym (binary_function_of-is f))
