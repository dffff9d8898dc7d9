-- The call that bytes spell.
use Rattle.std.specs.Prelude.{ℕ, List, [], ◌∷◌, length, ◌==◌, if◌then◌else◌, Option, Some, None, Ok, Err, unwrap_or, option_map}
use Rattle.ets_term.specs.declared.term.Term.{Term}
use Rattle.ets_term.specs.Views.{as_atom, as_tuple, as_list}
use Rattle.external_term.specs.Faults.{offset}
use Rattle.external_term.specs.Fields.{Read}
use Rattle.external_term.specs.Reader.{read}
use Rattle.external_term.specs.declared.fault.ExternalFault.{ExternalFault}
use Rattle.external_term.specs.declared.fault.ExternalFault.TheVariants as fault
use Rattle.node_text.specs.declared.call_problem.CallProblem.{CallProblem}
use Rattle.node_text.specs.declared.call_problem.CallProblem.TheVariants as problem
use Rattle.node_text.specs.declared.external_call.ExternalCall.{ExternalCall}
use Rattle.node_text.specs.declared.external_call.ExternalCall.TheVariants.{Call, Faulty}

-- the problem of a whole term that is not a call
abbrev pub no_call : ExternalCall
no_call = Faulty problem.NotACall 0

-- the call of a name and arguments, if there are both
abbrev pub call_with : Option (List ℕ) → Option (List Term) → ExternalCall
call_with (Some name) (Some args) = Call name args
call_with (Some name) None = no_call
call_with None args = no_call

-- the call of a tuple with these elements: a name, which is an atom, and a list of arguments
abbrev pub call_from_elements : List Term → ExternalCall
call_from_elements (name ∷ args ∷ []) = call_with (as_atom name) (as_list args)
call_from_elements _ = no_call

-- the call that a term represents: a tuple of a name and a list
abbrev pub call_from_term : Term → ExternalCall
call_from_term term = unwrap_or (option_map call_from_elements (as_tuple term)) no_call

-- the problem of a call by the fault of the reader; in a specification the reader never runs out of memory
abbrev pub problem_of : ExternalFault → CallProblem
problem_of (fault.Truncated at) = problem.Truncated
problem_of (fault.BadVersion at) = problem.BadVersion
problem_of (fault.UnsupportedTag at) = problem.UnsupportedTag
problem_of (fault.TooDeep at) = problem.TooDeep
problem_of (fault.ImproperList at) = problem.ImproperList
problem_of (fault.BadAtom at) = problem.BadAtom
problem_of (fault.BadInteger at) = problem.BadInteger
problem_of (fault.ForeignIdentifier at) = problem.ForeignIdentifier
problem_of fault.Memory = problem.Truncated

-- the call, by the result of reading a term from `len` bytes, all of which the term must take
abbrev pub call_from_reading : ℕ → Read Term → ExternalCall
call_from_reading len (Ok (term, n)) = if n == len then call_from_term term else Faulty problem.TrailingBytes n
call_from_reading len (Err f) = Faulty (problem_of f) (unwrap_or (offset f) 0)

-- the call that bytes spell, or what is wrong with them
abbrev pub parse_call : List ℕ → ExternalCall
parse_call bytes = call_from_reading (length bytes) (read bytes)
