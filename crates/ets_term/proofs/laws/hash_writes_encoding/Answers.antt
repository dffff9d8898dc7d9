use Rattle.ets_term.proofs.Joined.{concat-writes}
use Rattle.ets_term.proofs.laws.hash_writes_encoding.Goals as goal

pub returns : goal.returns
returns c = concat-writes c.args.term.now
