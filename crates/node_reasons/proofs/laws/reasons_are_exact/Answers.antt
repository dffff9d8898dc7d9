use Rattle.node_reasons.proofs.Exact.{exact}
use Rattle.node_reasons.proofs.laws.reasons_are_exact.Goals as goal

pub returns : goal.returns
returns c = exact
