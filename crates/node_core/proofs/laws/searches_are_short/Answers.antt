use Rattle.node_core.proofs.pending.Searches.{searches-are-short}
use Rattle.node_core.proofs.laws.searches_are_short.Goals as goal

pub returns : goal.returns
returns c = searches-are-short
