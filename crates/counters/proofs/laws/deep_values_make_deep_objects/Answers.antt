use Rattle.counters.proofs.laws.deep_values_make_deep_objects.Goals as goal
use Rattle.counters.proofs.DepthLaws.{make_too_deep-object}

pub returns : goal.returns
returns c = make_too_deep-object
