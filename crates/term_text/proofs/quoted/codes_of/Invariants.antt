use Rattle.std.proofs.Common.{◌≡◌, take, map}
use Rattle.term_text.specs.inside.Reader.{code}
use Rattle.term_text.proofs.quoted.codes_of.Given as goal

abbrev pub invariant-loop-c : goal.invariant-loop-c
invariant-loop-c l = l.codes.items ≡ map code (take l.c-index l.chars)
