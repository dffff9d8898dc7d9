use Rattle.node_list.proofs.CallerLaws.{put-has_item, put-keeps_item}
use Rattle.test_layers.proofs.tests.lists.nodes.unlinks_first_of_two.Goals as goal

pub unlinks-requires : goal.unlinks-requires
unlinks-requires c =
    put-keeps_item _ _ _ _ c.in_ok-add_item.ensures.cells c.in_ok-add_item.ensures.fresh (put-has_item _ _ _ _ _ c.in_ok-first.ensures.cells c.in_ok-first.ensures.fresh)
