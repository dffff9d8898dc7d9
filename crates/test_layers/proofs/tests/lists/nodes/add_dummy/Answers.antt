use Rattle.std.proofs.Common.{◌*◌}
use Rattle.node_list.proofs.CallerLaws.{head-has_key_at_most}
use Rattle.test_layers.proofs.tests.lists.nodes.add_dummy.Goals as goal

pub insert_dummy-requires : goal.insert_dummy-requires
insert_dummy-requires c = record {
  start = head-has_key_at_most c.head-head.result (2 * c.args.reversed) c.args.list.now.cells c.head-head.ensures.first c.head-head.ensures.dummy;
}
