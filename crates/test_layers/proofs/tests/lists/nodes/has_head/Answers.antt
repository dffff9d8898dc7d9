use Rattle.node_list.proofs.CallerLaws.{head-is_place}
use Rattle.test_layers.proofs.tests.lists.nodes.has_head.Goals as goal

pub split_key-requires : goal.split_key-requires
split_key-requires c = head-is_place c.head-head.result c.args.list.now.cells c.head-head.ensures.first c.head-head.ensures.dummy

pub item-requires : goal.item-requires
item-requires c = head-is_place c.head-head.result c.args.list.now.cells c.head-head.ensures.first c.head-head.ensures.dummy
