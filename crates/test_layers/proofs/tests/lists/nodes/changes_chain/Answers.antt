use Rattle.node_list.proofs.CallerLaws.{put-has_item}
use Rattle.test_layers.proofs.tests.lists.nodes.changes_chain.Goals as goal

pub chain_mut-requires : goal.chain_mut-requires
chain_mut-requires c = put-has_item _ _ _ _ _ c.in_ok-at.ensures.cells c.in_ok-at.ensures.fresh
