use Rattle.node_list.proofs.CallerLaws.{head-is_place}
use Rattle.test_layers.proofs.tests.lists.nodes.search.Goals as goal

pub find-found-requires : goal.find-found-requires
find-found-requires c = head-is_place c.head-head.result c.args.list.now.cells c.head-head.ensures.first c.head-head.ensures.dummy
