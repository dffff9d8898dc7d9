-- A plan with its greatest number of names, and its code.
use Rattle.std.specs.Prelude.{ℕ, List, refl}
use Rattle.std.specs.Coded.{Coded, code_by, coded×, coded_ℕ, coded_list}
use Rattle.ets_script.specs.declared.answer.Answer.{Answer}
use Rattle.ets_script.specs.contracts.answer.Answer as answer
use Rattle.node_shared.specs.declared.job.Job.{Job}
use Rattle.node_shared.specs.contracts.job.Job as job
use Rattle.ets_script.specs.Plan.{PlanState}

pub record LimitedPlanState : Type 0 where
  pub max_names : ℕ
  pub plan : PlanState

abbrev pub plan_state_code : Coded PlanState
plan_state_code =
    code_by ((List Answer × List (List ℕ)) × List (List Job))
    (coded× (coded× (coded_list answer.the_row.coded) (coded_list (coded_list coded_ℕ)))
    (coded_list (coded_list job.the_row.coded)))
    (λ p. ((p.answers, p.names), p.jobs)) (λ p. record { answers = p.0.0; names = p.0.1; jobs = p.1 }) (λ _. refl)

abbrev pub limited_plan_state_code : Coded LimitedPlanState
limited_plan_state_code =
    code_by (ℕ × PlanState) (coded× coded_ℕ plan_state_code)
    (λ l. (l.max_names, l.plan)) (λ p. record { max_names = p.0; plan = p.1 }) (λ _. refl)
