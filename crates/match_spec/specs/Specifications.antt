-- Match specifications, and what they give for an object (ERTS User's Guide, Match Specifications in Erlang).
use Rattle.std.specs.Prelude.{ℕ, ◌&&◌, nat_lt, Bool, true, false, if◌then◌else◌, List, Option, Some, None, unwrap_or, codes}
use Rattle.std.specs.Option.{option_map_or, option_and_then}
use Rattle.std.specs.Str.{bytes_eq}
use Rattle.ets_term.specs.Data.{Data, atom, tuple, list, DataList, no_terms, term}
use Rattle.ets_term.specs.Order.{data_list_len}
use Rattle.match_spec.specs.Patterns.{Bindings, bindings_of}
use Rattle.match_spec.specs.Expressions.{value, are_expressions}
use Rattle.match_spec.specs.Variables.{variables}

-- a pattern is an atom or a tuple
abbrev pub is_pattern : Data → Bool
is_pattern (atom a) = true
is_pattern (tuple ps) = true
is_pattern d = false

-- the parts of a clause: the pattern (MatchHead), the conditions and the body
pub record RawClause : Type 0 where
  pub pattern : Data
  pub conditions : DataList
  pub body : DataList

-- the parts of a clause: a tuple `{Head,Conditions,Body}`, where Conditions and Body are lists; None for any other term
abbrev pub clause_parts : Data → Option RawClause
clause_parts (tuple (term pattern (term (list conditions) (term (list body) no_terms)))) =
    Some (record { pattern = pattern; conditions = conditions; body = body })
clause_parts d = None

-- whether a clause is valid: its pattern is an atom or a tuple, its body is not empty, and its conditions and its body
-- are expressions in which only variables of the pattern occur
abbrev pub is_good : RawClause → Bool
is_good c =
    (is_pattern c.pattern && nat_lt 0 (data_list_len c.body))
    && (are_expressions (variables c.pattern) c.conditions && are_expressions (variables c.pattern) c.body)

-- whether a term is a valid clause
abbrev pub is_clause : Data → Bool
is_clause c = option_map_or is_good (clause_parts c) false

-- whether all terms are valid clauses
abbrev pub are_clauses : DataList → Bool
are_clauses no_terms = true
are_clauses (term c cs) = is_clause c && are_clauses cs

-- a match specification is a nonempty list of clauses `{Head,Conditions,Body}`
abbrev pub is_spec : Data → Bool
is_spec (list cs) = nat_lt 0 (data_list_len cs) && are_clauses cs
is_spec d = false

-- whether a term is the atom `true`
abbrev pub is_true : Data → Bool
is_true (atom a) = bytes_eq a (codes "true")
is_true d = false

-- whether the value of each condition is true; a condition that fails does not hold
abbrev pub all_hold : Bindings → Data → DataList → Bool
all_hold b object no_terms = true
all_hold b object (term c cs) = option_map_or is_true (value b object c) false && all_hold b object cs

-- the value of the last expression of a body, or None if one of the expressions fails
abbrev pub last_value : Bindings → Data → DataList → Option Data
last_value b object no_terms = None
last_value b object (term e no_terms) = value b object e
last_value b object (term e es) = option_and_then (λ d. last_value b object es) (value b object e)

-- the value of the last expression of a body, or `'EXIT'` if one of them fails
abbrev pub body_value : Bindings → Data → DataList → Data
body_value b object body = unwrap_or (last_value b object body) (atom (codes "EXIT"))

-- the result of a clause, if its pattern matched by bindings and its conditions hold; else `otherwise`
abbrev pub clause_result_or : Option Bindings → Data → RawClause → Option Data → Option Data
clause_result_or None object c otherwise = otherwise
clause_result_or (Some b) object c otherwise =
    if all_hold b object c.conditions then Some (body_value b object c.body) else otherwise

-- the result of a clause for an object, if the clause applies; else `otherwise`
abbrev pub result_or : Option RawClause → Data → Option Data → Option Data
result_or None object otherwise = otherwise
result_or (Some c) object otherwise = clause_result_or (bindings_of c.pattern object) object c otherwise

-- the result of the first clause whose pattern matches the object and whose conditions hold; None if there is none
abbrev pub first_result : DataList → Data → Option Data
first_result no_terms object = None
first_result (term c cs) object = result_or (clause_parts c) object (first_result cs object)

-- the result of a match specification for an object, or None if no clause applies
abbrev pub result_of : Data → Data → Option Data
result_of (list cs) object = first_result cs object
result_of d object = None
