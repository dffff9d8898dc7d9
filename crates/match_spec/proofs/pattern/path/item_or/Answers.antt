use Rattle.std.proofs.Common.{ap, ◌∙◌}
use Rattle.ets_term.specs.Data.{data_of}
use Rattle.match_spec.proofs.PartLaws.{element_or-get, element_or-past}
use Rattle.match_spec.proofs.pattern.path.item_or.Goals as goal

pub returns-then-i-items : goal.returns-then-i-items
returns-then-i-items c = ap data_of c.index-items-i.is ∙ element_or-get _ _ _ _ c.if-i-items.true

pub returns-else-i-items : goal.returns-else-i-items
returns-else-i-items c = element_or-past _ _ _ c.if-i-items.false
