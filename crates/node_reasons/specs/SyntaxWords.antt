-- The text of what is wrong at a syntax error.
use Rattle.std.specs.Prelude.{ℕ, List, ◌++◌, codes, decimal, encode_utf8}
use Rattle.node_reasons.specs.declared.syntax_problem.SyntaxProblem.{SyntaxProblem}
use Rattle.node_reasons.specs.declared.syntax_problem.SyntaxProblem.TheVariants as problem

-- the text of what is wrong, without the byte that some texts name
abbrev pub words_of : SyntaxProblem → List ℕ
words_of problem.EndOfLine = codes "unexpected end of line"
words_of problem.EndOfLineInCall = codes "unexpected end of line inside a call"
words_of problem.EndOfLineInTerm = codes "unexpected end of line inside a term"
words_of (problem.NotPrintable b) = codes "not a printable ASCII character"
words_of problem.FullStop = codes "unexpected '.'"
words_of problem.Comment = codes "comments must be on their own line"
words_of problem.TrailingText = codes "unexpected text after the call"
words_of problem.Variable = codes "variables are not supported"
words_of problem.Float = codes "floats are not supported"
words_of problem.Map = codes "maps are not supported"
words_of problem.UnsupportedReference = codes "references other than #Tid<N> are not supported"
words_of problem.Character = codes "character literals are not supported"
words_of problem.BasedInteger = codes "integers with a base are not supported"
words_of problem.ImproperList = codes "improper lists are not supported"
words_of problem.Colon = codes "unexpected ':' (calls have no module)"
words_of problem.PlusSign = codes "unexpected '+'"
words_of (problem.Escape quote) = codes "can be escaped"
words_of problem.IntegerOutOfRange = codes "integer out of range"
words_of problem.LongName = codes "atom longer than 255 characters"
words_of problem.TooDeep = codes "more than 128 levels deep"
words_of problem.NotACall = codes "expected a tuple that begins with the call's name"
words_of (problem.Other b) = codes "unexpected"

-- `unexpected '.'`; with the byte, `not a printable ASCII character (195)`, `only \' and \\ can be escaped` and
-- `unexpected ';'`
abbrev pub problem_text : SyntaxProblem → List ℕ
problem_text (problem.NotPrintable b) = words_of (problem.NotPrintable b) ++ (codes " (" ++ (decimal b ++ codes ")"))
problem_text (problem.Escape quote) =
    codes "only \\" ++ (encode_utf8 quote ++ (codes " and \\\\ " ++ words_of (problem.Escape quote)))
problem_text (problem.Other b) = words_of (problem.Other b) ++ (codes " '" ++ (encode_utf8 b ++ codes "'"))
problem_text other = words_of other
