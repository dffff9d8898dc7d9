-- The problem at the syntax error of a line. Of several cases that apply, the first decides.
use Rattle.std.specs.Prelude.{ℕ, ◌-◌, List, [], ◌∷◌, take, drop, not, ◌&&◌, ◌||◌, ◌==◌, nat_lt, nat_le, if◌then◌else◌}
use Rattle.std.specs.List.{prefix_len}
use Rattle.std.specs.Str.{byte}
use Rattle.ets_term.specs.Character.{max_characters}
use Rattle.ets_term.specs.Depth.{max_depth}
use Rattle.term_text.specs.Text.{is_digit, is_lowercase, is_name, begins}
use Rattle.node_reasons.specs.declared.syntax_problem.SyntaxProblem.{SyntaxProblem}
use Rattle.node_reasons.specs.declared.syntax_problem.SyntaxProblem.TheVariants as problem
use Rattle.node_reasons.specs.declared.lex_state.LexState.{LexState}
use Rattle.node_reasons.specs.declared.lex_state.QuoteState.{QuoteState}
use Rattle.node_reasons.specs.declared.lex_state.QuoteState.TheVariants.{Escaped}
use Rattle.node_reasons.specs.Classes.{is_line_byte, begins_atom, begins_number, begins_nested_term, begins_variable, may_begin_term, last_byte, expects_term}
use Rattle.node_reasons.specs.LexStates.{is_quoted, lex_state_of}

-- a number of this many digits can be out of range, wherever it is: it can exceed 2^32 - 1
abbrev pub long_number : ℕ
long_number = 10

-- at the end of the line
abbrev pub diagnose_end : LexState → SyntaxProblem
diagnose_end state = if is_quoted state.quotes || nat_lt 0 state.levels then problem.EndOfLineInTerm
    else if state.has_opened then problem.EndOfLineInCall
    else problem.EndOfLine

-- inside quotes: after a backslash; or a character of a string, which is one level deeper
abbrev pub diagnose_in_quotes_at : QuoteState → ℕ → ℕ → SyntaxProblem
diagnose_in_quotes_at (Escaped quote) levels b = problem.Escape quote
diagnose_in_quotes_at _ levels b = if nat_le (max_depth - 1) levels then problem.TooDeep else problem.Other b

abbrev pub diagnose_in_quotes : LexState → ℕ → SyntaxProblem
diagnose_in_quotes state b = diagnose_in_quotes_at state.quotes state.levels b

-- after the parenthesis that ends a call
abbrev pub diagnose_after_call : ℕ → SyntaxProblem
diagnose_after_call b = if b == byte "." then problem.FullStop
    else if b == byte "%" then problem.Comment
    else problem.TrailingText

-- a name of more characters than an atom has, or a long number
abbrev pub diagnose_word : ℕ → List ℕ → SyntaxProblem
diagnose_word b after = if is_lowercase b && nat_lt max_characters (prefix_len is_name (b ∷ after)) then problem.LongName
    else if nat_le long_number (prefix_len is_digit (b ∷ after)) then problem.IntegerOutOfRange
    else problem.Other b

-- a byte by the byte itself, whatever text is before it
abbrev pub diagnose_sign : ℕ → List ℕ → SyntaxProblem
diagnose_sign b after = if b == byte "." then problem.FullStop
    else if b == byte "%" then problem.Comment
    else if b == byte "|" then problem.ImproperList
    else if b == byte "$" then problem.Character
    else if b == byte ":" then problem.Colon
    else if b == byte "+" then problem.PlusSign
    else if begins_variable b then problem.Variable
    else diagnose_word b after

-- directly after `#`
abbrev pub diagnose_after_hash : ℕ → SyntaxProblem
diagnose_after_hash b = if b == byte "{" then problem.Map else problem.UnsupportedReference

-- where no term may begin, or no term that begins with this byte
abbrev pub diagnose_unexpected_byte : List ℕ → ℕ → List ℕ → SyntaxProblem
diagnose_unexpected_byte before b after = if last_byte before == byte "#" then diagnose_after_hash b
    else if (b == byte ".") && is_digit (last_byte before) && begins is_digit after then problem.Float
    else if (b == byte "#") && is_digit (last_byte before) then problem.BasedInteger
    else diagnose_sign b after

-- where a term may begin: a term that is a level too deep; or a term with an error further on, which is reported at the
-- start of the term
abbrev pub diagnose_term_start : LexState → List ℕ → ℕ → List ℕ → SyntaxProblem
diagnose_term_start state before b after = if nat_le max_depth state.levels && begins_nested_term b then problem.TooDeep
    else if begins_atom b then problem.LongName
    else if begins_number b then problem.IntegerOutOfRange
    else diagnose_unexpected_byte before b after

-- a byte, by the text before it and the text after it
abbrev pub diagnose_byte : List ℕ → ℕ → List ℕ → SyntaxProblem
diagnose_byte before b after = if not (is_line_byte b) then problem.NotPrintable b
    else if is_quoted (lex_state_of before).quotes then diagnose_in_quotes (lex_state_of before) b
    else if (lex_state_of before).has_closed then diagnose_after_call b
    else if expects_term before then diagnose_term_start (lex_state_of before) before b after
    else diagnose_unexpected_byte before b after

-- the rest of a line, by the text before it
abbrev pub diagnose_rest : List ℕ → List ℕ → SyntaxProblem
diagnose_rest before [] = diagnose_end (lex_state_of before)
diagnose_rest before (b ∷ after) = diagnose_byte before b after

-- the problem at an offset of a line
abbrev pub diagnose_at : List ℕ → ℕ → SyntaxProblem
diagnose_at line at = diagnose_rest (take at line) (drop at line)

-- the problem of a text that should be a call: at offset 0, usually that it is a term that is not a call
abbrev pub in_call : ℕ → SyntaxProblem → SyntaxProblem
in_call at (problem.Other b) = if (at == 0) && may_begin_term b then problem.NotACall else problem.Other b
in_call at other = other

-- the problem at an offset of a text that should be a call
abbrev pub diagnose_in_call : List ℕ → ℕ → SyntaxProblem
diagnose_in_call text at = in_call at (diagnose_at text at)
