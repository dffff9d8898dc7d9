use Rattle.std.proofs.Common.{sym, ap}
use Rattle.node_core.specs.rules.Replies.{list_reply}
use Rattle.node_core.proofs.replies.Trees.{terms-back}
use Rattle.node_core.proofs.node.searching.results_reply.Goals as goal

pub returns : goal.returns
returns c = ap list_reply (sym (terms-back c.args.found))
