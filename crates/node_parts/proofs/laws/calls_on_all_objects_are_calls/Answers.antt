use Rattle.node_parts.proofs.Counted.{calls-join}
use Rattle.node_parts.proofs.laws.calls_on_all_objects_are_calls.Goals as goal

pub returns : goal.returns
returns c = calls-join
