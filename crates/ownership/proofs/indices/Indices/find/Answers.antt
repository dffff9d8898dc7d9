use Rattle.std.proofs.Common.{sym, ◌∙◌}
use Rattle.ownership.proofs.Naming.{name-found}
use Rattle.ownership.proofs.indices.Indices.find.Goals as goal

pub returns-in-Some : goal.returns-in-Some
returns-in-Some c = λ tables kept. sym c.in-Some.ensures ∙ name-found _ _ kept.by_name c.args.name.now

pub returns-in-None : goal.returns-in-None
returns-in-None c = λ tables kept. c.look_up.ensures ∙ name-found _ _ kept.by_name c.args.name.now
