use Rattle.std.proofs.Common.{◌≡◌, ◌++◌, Some, sym, ap, ◌∙◌, List}
use Rattle.std.proofs.lemmas.Result.{IfOk-weaker, on_ok_weaker}
use Rattle.bucket_table.specs.Slots.{objects_of}
use Rattle.table_ops.specs.Results.{chosen_count}
use Rattle.table_ops.specs.inside.DeletePlan.{PlannedSlot, plan_of_slot, plan_at}
use Rattle.table_ops.proofs.BoundKeyLaws.{chosen-under, chosen-absent, plan-under, plan-absent}
use Rattle.table_ops.proofs.PutLaws.{own-in, under-some}
use Rattle.table_ops.proofs.table_rows.TableRows.plan_key.Goals as goal

pub returns-in_default-clause-count : goal.returns-in_default-clause-count
returns-in_default-clause-count g c = sym (chosen-absent (g.P.Predicate.tests c.args.trial.now.query.now) c.args.key.now (g.R.Rows.slots c.args.self.now.rows) c.requires.only_key c.in_default.ensures.place)

pub returns-in_default-clause-plan : goal.returns-in_default-clause-plan
returns-in_default-clause-plan g c = ap (plan_at (g.R.Rows.key_at c.args.self.now.rows)) c.requires.empty ∙ sym (plan-absent (g.P.Predicate.tests c.args.trial.now.query.now) c.args.key.now (g.R.Rows.slots c.args.self.now.rows) c.requires.only_key c.in_default.ensures.place)

pub returns-clause-count : goal.returns-clause-count
returns-clause-count g c =
    let slots = g.R.Rows.slots c.args.self.now.rows in
    let choose = g.P.Predicate.tests c.args.trial.now.query.now in
    let key = c.args.key.now in
    let own : objects_of slots key ≡ Some c.objects_at.result.now = own-in slots (g.R.Rows.key_at c.args.self.now.rows c.in-Some.place) key c.objects_at.result.now c.in-Some.ensures.place.0 c.objects_at.ensures in
    IfOk-weaker c.plan_slot.result _ _ (λ n e. e ∙ sym (ap (chosen_count choose) (under-some slots key c.objects_at.result.now own)) ∙ chosen-under choose key slots c.find.ensures.distinct c.requires.only_key) c.plan_slot.ensures.count

pub returns-clause-plan : goal.returns-clause-plan
returns-clause-plan g c =
    let slots = g.R.Rows.slots c.args.self.now.rows in
    let key_at = g.R.Rows.key_at c.args.self.now.rows in
    let choose = g.P.Predicate.tests c.args.trial.now.query.now in
    let key = c.args.key.now in
    let own : objects_of slots key ≡ Some c.objects_at.result.now = own-in slots (key_at c.in-Some.place) key c.objects_at.result.now c.in-Some.ensures.place.0 c.objects_at.ensures in
    on_ok_weaker c.plan_slot.result (λ f. f key_at key c.in-Some.ensures.place.0 ∙ ap (λ (l : List PlannedSlot). l ++ plan_of_slot choose (key, c.objects_at.result.now)) (ap (plan_at key_at) c.requires.empty) ∙ sym (plan-under choose key c.objects_at.result.now slots c.find.ensures.distinct c.requires.only_key own)) c.plan_slot.ensures.plan
