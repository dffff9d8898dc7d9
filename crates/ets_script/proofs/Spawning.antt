-- A name that is spawned, in a plan.
use Rattle.std.proofs.Common.{◌≡◌, ℕ, Bool, true, false, List, [], ◌∷◌, ◌++◌, length, Option, None, ap, sym, ◌∙◌}
use Rattle.std.specs.Prelude.{nat_le, if◌then◌else◌}
use Rattle.node_core.specs.declared.step.Reply.TheVariants.{SystemLimit}
use Rattle.ets_script.specs.declared.answer.Answer.{Answer}
use Rattle.ets_script.specs.declared.answer.Answer.TheVariants.{Replied}
use Rattle.node_shared.specs.declared.job.Job.{Job}
use Rattle.ets_script.specs.Plan.{PlanState, index_of, add_answer, add_spawn}
use Rattle.ets_script.specs.inside.PlanCodes.{LimitedPlanState}

abbrev with_name : List ℕ → PlanState → PlanState
with_name name plan = record plan { names = plan.names ++ name ∷ []; jobs = plan.jobs ++ [] ∷ [] }

-- a new name, by whether there is room
add_spawn-by_room : (l : LimitedPlanState) (name : List ℕ) (b : Bool) → index_of l.plan name ≡ None → nat_le l.max_names (length l.plan.names) ≡ b
    → add_spawn l.max_names (index_of l.plan name) name l.plan ≡ (if b then add_answer (Replied SystemLimit) l.plan else with_name name l.plan)
add_spawn-by_room l name b none is =
    ap (λ (o : Option ℕ). add_spawn l.max_names o name l.plan) none ∙ ap (λ (c : Bool). if c then add_answer (Replied SystemLimit) l.plan else with_name name l.plan) is

pub add_spawn-full : (old new : LimitedPlanState) (name : List ℕ) → index_of old.plan name ≡ None → nat_le old.max_names (length old.plan.names) ≡ true → new ≡ record old { plan = add_answer (Replied SystemLimit) old.plan }
    → new ≡ record old { plan = add_spawn old.max_names (index_of old.plan name) name old.plan }
add_spawn-full old new name none full is = is ∙ ap (λ (p : PlanState). record old { plan = p }) (sym (add_spawn-by_room old name true none full))

pub add_spawn-new : (old : LimitedPlanState) (max_names : ℕ) (answers : List Answer) (before names : List (List ℕ)) (jobs longer : List (List Job)) (name copy : List ℕ) → record { max_names = max_names; plan = record { answers = answers; names = before; jobs = jobs } } ≡ old
    → index_of old.plan name ≡ None → nat_le old.max_names (length old.plan.names) ≡ false → names ≡ before ++ copy ∷ [] → copy ≡ name → longer ≡ jobs ++ [] ∷ []
    → record { max_names = max_names; plan = record { answers = answers; names = names; jobs = longer } } ≡ record old { plan = add_spawn old.max_names (index_of old.plan name) name old.plan }
add_spawn-new old max_names answers before names jobs longer name copy is none room added copied pushed =
    ap (λ (n : List (List ℕ)). record { max_names = max_names; plan = record { answers = answers; names = n; jobs = longer } }) (added ∙ ap (λ c. before ++ c ∷ []) copied)
    ∙ ap (λ (j : List (List Job)). record { max_names = max_names; plan = record { answers = answers; names = before ++ name ∷ []; jobs = j } }) pushed
    ∙ ap (λ (l : LimitedPlanState). record l { plan = with_name name l.plan }) is
    ∙ ap (λ (p : PlanState). record old { plan = p }) (sym (add_spawn-by_room old name false none room))
