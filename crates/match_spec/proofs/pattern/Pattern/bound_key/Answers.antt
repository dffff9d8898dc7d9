use Rattle.ets_term.specs.Data.{data_of}
use Rattle.match_spec.proofs.KeyLaws.{every_match}
use Rattle.match_spec.proofs.pattern.Pattern.bound_key.Goals as goal

pub returns-clause-every : goal.returns-clause-every
returns-clause-every c = rw (← c.self.view_is) (every_match c.args.keypos (data_of c.self.inside.source) c.bound_part.result c.bound_part.ensures)
