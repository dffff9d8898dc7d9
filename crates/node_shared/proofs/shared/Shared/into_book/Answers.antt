use Rattle.std.proofs.Common.{◌≡◌, sym, ◌∙◌}
use Rattle.node_shared.proofs.shared.Shared.into_book.Goals as goal

pub returns-then-are_same : goal.returns-then-are_same
returns-then-are_same g c =
    let same : c.limits.result ≡ c.args.self.limits = c.are_same.ensures.0 c.if-are_same.true in
    sym c.limits.ensures ∙ same
