use Rattle.std.proofs.Common.{◌*◌, ◌+◌}
use Rattle.node_list.proofs.CallerLaws.{head-has_key_at_most}
use Rattle.test_layers.proofs.tests.lists.nodes.add_item.Goals as goal

pub insert_item-requires-clause-start : goal.insert_item-requires-clause-start
insert_item-requires-clause-start c =
    head-has_key_at_most c.head-head.result (2 * c.args.reversed + 1) c.reserve.new.self.cells c.head-head.ensures.first c.head-head.ensures.dummy
