use Rattle.node_shared.proofs.Lines.{own-within}
use Rattle.node_shared.proofs.caller.Caller.look.Goals as goal

pub confirm-requires : goal.confirm-requires
confirm-requires g c =
    let own = c.self.inside.writer in
    own-within own.pid own.entries c.self.inside.seen c.token-all.result c.self.invariant.1 c.begins.ensures
