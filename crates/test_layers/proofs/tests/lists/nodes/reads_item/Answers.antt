use Rattle.node_list.proofs.CallerLaws.{put-has_item, item-is_place}
use Rattle.test_layers.proofs.tests.lists.nodes.reads_item.Goals as goal

pub split_key-requires : goal.split_key-requires
split_key-requires c = item-is_place _ _ (put-has_item _ _ _ _ _ c.in_ok-at.ensures.cells c.in_ok-at.ensures.fresh)

pub is_item-requires : goal.is_item-requires
is_item-requires c = item-is_place _ _ (put-has_item _ _ _ _ _ c.in_ok-at.ensures.cells c.in_ok-at.ensures.fresh)
