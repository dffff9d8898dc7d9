-- The result of reading a text as one function, for specifications of texts that contain terms. The automaton in
-- inside/Reader.antt defines `reading`, and the laws of laws.rt say what it returns: `found t n` if and only if
-- Front text t n, and `fails f` if and only if IsFault text f.
use Rattle.std.specs.Prelude.{◌≡◌, ℕ, Result, Ok, Err}
use Rattle.ets_term.specs.declared.term.Term.{Term}
pub use Rattle.term_text.specs.inside.Reader.{Reading, reads_on, found, fails, reading}
use Rattle.term_text.specs.declared.fault.TextFault.{TextFault}
use Rattle.term_text.specs.declared.fault.TextFault.TheVariants.{Memory}

-- the reader fails with this fault, or memory ran out
abbrev pub ReaderFails : TextFault → Reading → Type 0
ReaderFails Memory s = Unit {0}
ReaderFails f s = s ≡ fails f

-- a call returns the result of the reader, or memory ran out
abbrev pub ReaderReturns : Reading → Result (Term × ℕ) TextFault → Type 0
ReaderReturns s (Ok x) = s ≡ found x.0 x.1
ReaderReturns s (Err f) = ReaderFails f s
