use Rattle.std.proofs.Common.{List, sym, subst}
use mathlib.Core.List.{IsPrefix}
use Rattle.node_shared.specs.declared.entry.Entry.{Entry}
use Rattle.node_shared.proofs.Lines.{own-within}
use Rattle.node_shared.proofs.caller.Caller.look_alone.Goals as goal

pub confirm-requires : goal.confirm-requires
confirm-requires g c =
    let own = c.self.inside.writer in
    let was = c.self.inside.seen in
    let later : IsPrefix was c.show.new.seen = subst (λ (es : List Entry). IsPrefix was es) (sym c.show.ensures.seen) c.show.ensures.before in
    own-within own.pid own.entries was c.show.new.seen c.self.invariant.1 later
