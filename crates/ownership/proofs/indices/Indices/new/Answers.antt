use Rattle.std.proofs.Common.{rules, None}
use Rattle.ownership.proofs.Keeping.{kept-empty}
use Rattle.ownership.proofs.indices.Indices.new.Goals as goal

pub returns : goal.returns
returns c = kept-empty (record { names = c.new.result; owned = c.new-2.result; fixed = c.new-3.result; dirty = None }) (λ name. search rules) (λ p. search rules) c.new-3.ensures.items
