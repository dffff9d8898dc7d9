use Rattle.node_list.proofs.CallerLaws.{item-after_head}
use Rattle.test_layers.proofs.tests.lists.nodes.unlinks.Goals as goal

pub unlink-term-requires : goal.unlink-term-requires
unlink-term-requires c = item-after_head _ _ _ c.head-head.ensures.first c.head-head.ensures.dummy c.requires
