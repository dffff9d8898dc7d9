use Rattle.match_spec.proofs.laws.bindings_are_the_only_ones.Goals as goal
use Rattle.match_spec.proofs.MatchLaws.{are_the_bindings}

pub returns : goal.returns
returns c = are_the_bindings
