use Rattle.ets_term.specs.Data.{data_of}
use Rattle.match_spec.proofs.QuickLaws.{no_result}
use Rattle.match_spec.proofs.spec.Spec.rejects_packed.Goals as goal

pub returns-in-Some : goal.returns-in-Some
returns-in-Some c =
    λ e. rw (← c.self.view_is) (no_result (data_of c.self.inside.source) c.self.inside.clauses c.self.inside.quick c.in-Some.quick (data_of c.args.object.now) c.self.invariant c.in-Some.is (c.rejects_packed.ensures e))
