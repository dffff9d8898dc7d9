use Rattle.std.proofs.Common.{rules}
use Rattle.ets_term.specs.Encoding.{integer_bytes}
use Rattle.ets_term.proofs.integer.integer_bytes.Goals as goal

pub returns : goal.returns
unfolding integer_bytes
returns c = search rules
