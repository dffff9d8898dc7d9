-- What a call returns, and what a search returns and leaves of one table.
use Rattle.std.specs.Prelude.{◌≡◌, ℕ, Bool, if◌then◌else◌, List, ◌++◌, Option, Some, None, Result, IfOk, OnOk, length, map, filter}
use Rattle.std.specs.Option.{option_map}
use Rattle.ets_term.specs.declared.term.Term.{Term}
use Rattle.ets_term.specs.Data.{Data, data_of}
use Rattle.table_ops.specs.Content.{Content}
use Rattle.table_ops.specs.Drop.{without_those}
use Rattle.table_ops.specs.Read.{all_objects}
use Rattle.table_ops.specs.Queries.{matches}

-- if the result is Ok, it is this value
abbrev pub Returns : {X E : Type 0} → Result X E → X → Type 0
Returns result wanted = IfOk result (λ answer. answer ≡ wanted)

-- match_object: the result for an object is the object itself; None if it does not match
abbrev pub matched_object : Term → Term → Option Data
matched_object pattern object = if matches pattern object then Some (data_of object) else None

-- the returned term has this tree
abbrev pub ReturnsData : {E : Type 0} → Result (Option Term) E → Option Data → Type 0
ReturnsData result wanted = IfOk result (λ answer. option_map data_of answer ≡ wanted)

-- the returned terms have these trees
abbrev pub ReturnsAllData : {E : Type 0} → Result (List Term) E → List Data → Type 0
ReturnsAllData result wanted = IfOk result (λ found. map data_of found ≡ wanted)

-- terms with these trees are appended
abbrev pub AppendsData : {X E : Type 0} → Result X E → List Term → List Term → List Data → Type 0
AppendsData result old new wanted = OnOk result (map data_of new ≡ map data_of old ++ wanted)

-- the objects of a table that match, in the order of its slots
abbrev pub matching_in : Term → Content → List Term
matching_in pattern table = filter (matches pattern) (all_objects table.slots)

-- the content of a table after a deletion removed the chosen objects, whatever their keys
abbrev pub without_chosen : Bool → (Term → Bool) → Content → Content
without_chosen hold choose old = without_those hold (λ own. choose) old

-- the number of chosen objects
abbrev pub chosen_count : (Term → Bool) → List Term → ℕ
chosen_count choose objects = length (filter choose objects)
