-- Compiled match specifications. They do not define what a match specification means.
use Rattle.std.specs.Prelude.{ℕ, ◌&&◌, nat_lt, Bool, true, false, if◌then◌else◌, List, [], ◌∷◌, Option, Some, None, map, unwrap_or, codes}
use Rattle.std.specs.Option.{option_map_or, option_and_then}
use Rattle.ets_term.specs.Data.{Data, atom, list, DataList, no_terms, term, data_list, data_of}
use Rattle.match_spec.specs.declared.spec.check.ClauseParts.{ClauseParts}
use Rattle.match_spec.specs.declared.spec.clause.Clause.{Clause}
use Rattle.ets_term.specs.Order.{data_list_len}
use Rattle.match_spec.specs.Expressions.{are_expressions}
use Rattle.match_spec.specs.Specifications.{is_pattern, is_true, RawClause, clause_parts}
use Rattle.match_spec.specs.inside.CompiledExpressions.{expression_value, expressions_of}
use Rattle.match_spec.specs.inside.CompiledPatterns.{part_fits, part_of}
use Rattle.match_spec.specs.inside.FirstPaths.{FirstPaths, paths_of, first_paths_of}

-- whether a clause is valid if these are the variables of its pattern
abbrev pub is_good_by : List ℕ → RawClause → Bool
is_good_by ns c =
    (is_pattern c.pattern && nat_lt 0 (data_list_len c.body))
    && (are_expressions ns c.conditions && are_expressions ns c.body)

abbrev pub all_hold_of : List (Data → Option Data) → Data → Bool
all_hold_of [] object = true
all_hold_of (f ∷ fs) object = option_map_or is_true (f object) false && all_hold_of fs object

abbrev pub last_value_of : List (Data → Option Data) → Data → Option Data
last_value_of [] object = None
last_value_of (f ∷ []) object = f object
last_value_of (f ∷ g ∷ fs) object = option_and_then (λ d. last_value_of (g ∷ fs) object) (f object)

abbrev pub body_value_of : List (Data → Option Data) → Data → Data
body_value_of fs object = unwrap_or (last_value_of fs object) (atom (codes "EXIT"))

-- the value of a clause's body
abbrev pub body_value_by : Clause → Data → Data
body_value_by c object = body_value_of (map (expression_value c.paths) c.body) object

abbrev pub applies : Clause → Data → Bool
applies c object = part_fits c.pattern object object && all_hold_of (map (expression_value c.paths) c.conditions) object

abbrev pub result_of_first : List Clause → Data → Option Data
result_of_first [] object = None
result_of_first (c ∷ cs) object = if applies c object then Some (body_value_by c object) else result_of_first cs object

-- the three parts of a clause, from the program's references
abbrev pub raw_clause_of : ClauseParts → RawClause
raw_clause_of c = record {
  pattern = data_of c.pattern.now;
  conditions = data_list (map data_of c.conditions.now);
  body = data_list (map data_of c.body.now);
}

-- compiles a clause by the first paths of its pattern's variables
abbrev pub clause_with : FirstPaths → RawClause → Clause
clause_with first c = record {
  pattern = part_of first [] c.pattern;
  paths = paths_of first;
  conditions = expressions_of first c.conditions;
  body = expressions_of first c.body;
}

abbrev pub clause_of : RawClause → Clause
clause_of c = clause_with (first_paths_of c.pattern) c

abbrev pub clause_else : Option RawClause → List Clause → List Clause
clause_else None cs = cs
clause_else (Some c) cs = clause_of c ∷ cs

abbrev pub clauses_from : DataList → List Clause
clauses_from no_terms = []
clauses_from (term c cs) = clause_else (clause_parts c) (clauses_from cs)

-- compiles the clauses of a match specification
abbrev pub clauses_of : Data → List Clause
clauses_of (list cs) = clauses_from cs
clauses_of d = []
