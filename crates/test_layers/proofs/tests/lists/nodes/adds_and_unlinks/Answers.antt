use Rattle.node_list.proofs.CallerLaws.{put-has_item}
use Rattle.test_layers.proofs.tests.lists.nodes.adds_and_unlinks.Goals as goal

pub unlinks-requires : goal.unlinks-requires
unlinks-requires c = put-has_item _ _ _ _ _ c.in_ok-last.ensures.cells c.in_ok-last.ensures.fresh
