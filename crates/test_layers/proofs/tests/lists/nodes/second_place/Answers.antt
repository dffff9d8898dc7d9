use Rattle.node_list.proofs.CallerLaws.{head-is_place}
use Rattle.test_layers.proofs.tests.lists.nodes.second_place.Goals as goal

pub after-requires : goal.after-requires
after-requires c = head-is_place c.head.result c.args.list.now.cells c.head.ensures.first c.head.ensures.dummy
