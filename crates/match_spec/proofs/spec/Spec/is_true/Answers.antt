use Rattle.ets_term.specs.Data.{data_of}
use Rattle.match_spec.proofs.SpecLaws.{result_of_first-spec}
use Rattle.match_spec.proofs.spec.Spec.is_true.Goals as goal

pub returns : goal.returns
returns c = rw (← c.self.view_is, ← result_of_first-spec (data_of c.args.object.now) (data_of c.self.inside.source) c.self.invariant.good, ← c.self.invariant.compiled, ← c.as_slice.ensures) c.first_result_is_true.ensures
