-- The call that a text spells.
use Rattle.std.specs.Prelude.{ℕ, List, [], ◌∷◌, length, ◌==◌, if◌then◌else◌, unwrap_or, option_map}
use Rattle.ets_term.specs.declared.term.Term.{Term}
use Rattle.ets_term.specs.Views.{as_atom, as_tuple}
use Rattle.term_text.specs.Faults.{offset}
use Rattle.term_text.specs.Reading.{Reading, reads_on, found, fails, reading}
use Rattle.node_text.specs.declared.text_call.TextCall.{TextCall}
use Rattle.node_text.specs.declared.text_call.TextCall.TheVariants.{Call, Faulty}

-- the call of a tuple with these elements: a name, which is an atom, and then the arguments
abbrev pub call_from_elements : List Term → TextCall
call_from_elements (name ∷ args) = unwrap_or (option_map (λ atom. Call atom args) (as_atom name)) (Faulty 0)
call_from_elements [] = Faulty 0

-- the call that a term represents: a tuple that begins with an atom, its name, and then has the arguments
abbrev pub call_from_term : Term → TextCall
call_from_term term = unwrap_or (option_map call_from_elements (as_tuple term)) (Faulty 0)

-- The call, by the result of reading a term from a text of this length, all of which the term must take. At the end of
-- a text, the reader has found a term or a fault.
abbrev pub call_from_reading : ℕ → Reading → TextCall
call_from_reading len (found t n) = if n == len then call_from_term t else Faulty n
call_from_reading len (fails f) = Faulty (unwrap_or (offset f) 0)
call_from_reading len (reads_on mode os) = Faulty len

abbrev pub parse_call : List ℕ → TextCall
parse_call text = call_from_reading (length text) (reading text)
