-- The words of what is wrong with bytes that are not a call.
use Rattle.std.specs.Prelude.{ℕ, List, codes}
use Rattle.node_text.specs.declared.call_problem.CallProblem.{CallProblem}
use Rattle.node_text.specs.declared.call_problem.CallProblem.TheVariants as problem

abbrev pub words_of : CallProblem → List ℕ
words_of problem.Truncated = codes "the bytes end inside a term"
words_of problem.BadVersion = codes "the first byte is not the version 131"
words_of problem.UnsupportedTag = codes "unsupported tag"
words_of problem.TooDeep = codes "more than 128 levels deep"
words_of problem.ImproperList = codes "improper lists are not supported"
words_of problem.BadAtom = codes "not an atom of at most 255 printable ASCII characters"
words_of problem.BadInteger = codes "integer out of range"
words_of problem.ForeignIdentifier = codes "a pid or reference of another node"
words_of problem.NotACall = codes "expected a tuple of the call's name and the list of its arguments"
words_of problem.TrailingBytes = codes "unexpected bytes after the call"
