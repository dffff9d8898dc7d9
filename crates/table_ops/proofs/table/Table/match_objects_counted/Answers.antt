use Rattle.std.proofs.Common.{ap, filter, is_some, subst, option_copied, ◌∙◌}
use Rattle.std.proofs.lemmas.Result.{IfOk-weaker}
use Rattle.table_ops.specs.declared.projection.MatchedObject.{MatchedObject}
use Rattle.ets_term.specs.declared.term.Term.{Term}
use Rattle.table_ops.specs.ContentState.{ContentState}
use Rattle.table_ops.specs.Queries.{matches}
use Rattle.table_ops.specs.Results.{matched_object}
use Rattle.table_ops.specs.Read.{all_objects}
use Rattle.table_ops.specs.inside.DeletePlan.{RequiresKey}
use Rattle.table_ops.proofs.BoundKeyLaws.{copied, objects-require}
use Rattle.table_ops.proofs.table.Table.match_objects_counted.Goals as goal

pub collect-requires : goal.collect-requires
collect-requires g c =
    let key = c.bound_key-key.result in
    let pattern = c.args.pattern.now in
    rw c.new.ensures (subst (λ (t : ContentState). RequiresKey t.content.keypos (option_copied key) (λ (o : Term). is_some (matched_object pattern o))) c.self.view_is (objects-require (λ k. k.now) c.self.inside.inner.keypos pattern key c.bound_key-key.ensures.every))

pub returns-clause-objects : goal.returns-clause-objects
returns-clause-objects g c =
    let all = all_objects c.args.self.now.content.slots in
    IfOk-weaker c.collect.result _ _ (λ found e. copied (matches c.new.result.query.now.pattern.now) found all e ∙ ap (λ (m : MatchedObject). filter (matches m.pattern.now) all) c.new.ensures) c.collect.ensures.answers
