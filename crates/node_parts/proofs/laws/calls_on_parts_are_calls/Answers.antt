use Rattle.node_parts.proofs.Calls.{calls-are-calls}
use Rattle.node_parts.proofs.laws.calls_on_parts_are_calls.Goals as goal

pub returns : goal.returns
returns c = calls-are-calls
