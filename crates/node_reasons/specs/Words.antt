-- The text of each reason.
use Rattle.std.specs.Prelude.{ℕ, List, ◌++◌, Option, Some, None, codes, decimal}
use Rattle.node_reasons.specs.declared.reason.Rule.{Rule}
use Rattle.node_reasons.specs.declared.reason.Rule.TheVariants as rule
use Rattle.node_reasons.specs.declared.reason.Reason.{Reason}

-- the text of a broken rule
abbrev pub words_of : Rule → List ℕ
words_of rule.NoProcess = codes "no such process (or it has exited)"
words_of rule.AlreadyEnrolled = codes "process number already used"
words_of rule.TooDeep = codes "more than 128 levels deep"
words_of rule.NoCall = codes "unknown call"
words_of rule.WrongArity = codes "wrong number of arguments"
words_of rule.NoTable = codes "no such table"
words_of rule.NotReadable = codes "the process may not read this table"
words_of rule.NotWritable = codes "the process may not write to this table"
words_of rule.NotOwner = codes "the process does not own this table"
words_of rule.NotASet = codes "the table is not a set"
words_of rule.NotAnObject = codes "not a tuple that has the key position, or the key is '$end_of_table'"
words_of rule.NoKey = codes "no such key"
words_of rule.NotAPosition = codes "position must be at least 1"
words_of rule.NoElement = codes "position is past the end of the object"
words_of rule.NotAPattern = codes "pattern must be a tuple or an atom"
words_of rule.NotASpecification = codes "malformed match specification"
words_of rule.NotAnUpdate = codes "malformed update, or it would change the key"
words_of rule.NotACounter = codes "the element is missing or not an integer"
words_of rule.NotAnAtom = codes "table name must be an atom"
words_of rule.NameIsTaken = codes "table name already in use"
words_of rule.NotOptions = codes "unknown or malformed option"
words_of rule.NotAnItem = codes "unknown info item"
words_of rule.NotABoolean = codes "must be true or false"
words_of rule.NotAPid = codes "not a pid"
words_of rule.ToSelf = codes "the process already owns the table"
words_of rule.NotAlive = codes "no such process (or it has exited)"
words_of rule.TooManyProcesses = codes "process limit reached"
words_of rule.TooManyTables = codes "table limit reached"
words_of rule.TooManyObjects = codes "object limit reached"
words_of rule.TooManyFixes = codes "fix limit reached"
words_of rule.LimitExceeded = codes "integer range, depth limit or object limit would be exceeded"

-- puts the number of the argument before a text, if there is one
abbrev pub with_argument : Option ℕ → List ℕ → List ℕ
with_argument None words = words
with_argument (Some n) words = codes "argument " ++ (decimal n ++ (codes ": " ++ words))

-- `argument 1: no such table`, or the text alone if the rule is about the whole step
abbrev pub reason_text : Reason → List ℕ
reason_text reason = with_argument reason.argument (words_of reason.rule)
