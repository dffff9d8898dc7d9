use Rattle.std.proofs.Common.{sym, ap, ◌∙◌}
use Rattle.std.specs.Prelude.{vec_items}
use Rattle.std.specs.Str.{bytes_eq}
use Rattle.ets_script.specs.Plan.{index_of}
use Rattle.ets_script.specs.inside.PlanCodes.{LimitedPlanState}
use Rattle.ets_script.proofs.Places.{position-map}
use Rattle.ets_script.proofs.plan.Plan.index_of.Goals as goal

pub returns-clause-index : goal.returns-clause-index
returns-clause-index c = c.get_index_of.ensures.index ∙ sym (position-map (bytes_eq c.args.name.now) vec_items c.self.inside.names.keys) ∙ ap (λ (l : LimitedPlanState). index_of l.plan c.args.name.now) c.self.view_is
