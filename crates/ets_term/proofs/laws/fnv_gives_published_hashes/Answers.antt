use Rattle.ets_term.specs.laws.Hashed.{fnv-of-none, fnv-of-a, fnv-of-foobar}
use Rattle.ets_term.proofs.laws.fnv_gives_published_hashes.Goals as goal

pub returns-clause-none : goal.returns-clause-none
returns-clause-none c = fnv-of-none

pub returns-clause-a : goal.returns-clause-a
returns-clause-a c = fnv-of-a

pub returns-clause-foobar : goal.returns-clause-foobar
returns-clause-foobar c = fnv-of-foobar
