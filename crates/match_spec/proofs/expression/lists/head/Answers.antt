use Rattle.std.proofs.Common.{ap, ◌∙◌}
use Rattle.std.specs.Option.{option_map}
use Rattle.ets_term.specs.Data.{data_of}
use Rattle.match_spec.proofs.ValueLaws.{head-List}
use Rattle.match_spec.proofs.expression.lists.head.Goals as goal

pub returns-in-List : goal.returns-in-List
returns-in-List c = ap (option_map data_of) c.get.ensures ∙ head-List _ _ c.in-List.is
