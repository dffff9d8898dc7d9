use Rattle.std.proofs.Common.{ap, ◌∙◌, subst, arith}
use Rattle.ets_script.specs.Plan.{empty_plan, lines_plan}
use Rattle.ets_script.specs.Threads.{RunsJobs}
use Rattle.ets_script.specs.inside.PlanCodes.{LimitedPlanState}
use Rattle.ets_script.specs.inside.Processes.{StopsBeforeOutput}
use Rattle.ets_script.proofs.Clients.{as-many, fault-of-err, unplanned}
use Rattle.ets_script.proofs.threads.run_input.Goals as goal

pub returns-in_err-plan-clause-err : goal.returns-in_err-plan-clause-err
returns-in_err-plan-clause-err g c = fault-of-err (StopsBeforeOutput c.args.settings.limits) c.from_residual.result _ c.from_residual.ensures.1 (unplanned c.args.settings.limits _ c.in_err-plan.ensures.err)

pub returns-in_err-run-clause-err : goal.returns-in_err-run-clause-err
returns-in_err-run-clause-err g c = fault-of-err (StopsBeforeOutput c.args.settings.limits) c.from_residual-in_err-run.result _ c.from_residual-in_err-run.ensures.1 c.in_err-run.ensures.err

pub returns-clause-ok : goal.returns-clause-ok
returns-clause-ok g c =
    let p = c.in_ok-plan.ensures.ok in
    let parts = c.into_parts-planned.ensures.parts in
    let jobs = parts.2 in
    let runs = c.in_ok-run.ensures.ok in
    record {
      input = p.0;
      lines = p.1;
      plan = c.in_ok-plan.plan.plan;
      consumed = p.2;
      end = p.3;
      cut = p.4;
      plans = ap (λ (l : LimitedPlanState). l.plan) p.5 ∙ ap (λ n. lines_plan n p.1 empty_plan) c.max_names.ensures;
      answers = parts.0;
      names = parts.1;
      runs = subst (λ j. RunsJobs c.args.settings.limits j c.in_ok-run.run'.entries.items c.in_ok-run.run'.left.items) jobs runs;
      named =
          let same = as-many runs in
          omega (arith, same, c.into_parts-planned.ensures.named);
    }
