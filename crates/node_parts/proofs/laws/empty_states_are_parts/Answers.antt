use Rattle.node_parts.proofs.Empties.{empties-are-parts}
use Rattle.node_parts.proofs.laws.empty_states_are_parts.Goals as goal

pub returns : goal.returns
returns c = empties-are-parts
