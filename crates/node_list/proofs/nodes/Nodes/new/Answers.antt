use Rattle.node_list.proofs.WeaveLaws.{weave-empty}
use Rattle.node_list.proofs.nodes.Nodes.new.Goals as goal

pub returns : goal.returns
returns c = record { empty = weave-empty c.new.result.items c.new-2.result.slots c.new.ensures.items c.new-2.ensures.empty }
