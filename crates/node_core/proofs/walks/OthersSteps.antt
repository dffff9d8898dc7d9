-- The steps of the others run one after another.
use Rattle.std.proofs.Common.{◌≡◌, ℕ, Result, Ok, Err, IfOk, false, true≢false, List, [], ◌∷◌, ◌++◌, refl, sym, subst, ap}
use Rattle.std.specs.List.{AllByRecursion}
use Rattle.std.specs.Result.{is_err}
use Rattle.std.specs.declared.alloc.AllocError.{AllocError}
use Rattle.node_core.specs.declared.step.Reply.{Reply}
use Rattle.node_core.specs.declared.step.Step.{Step}
use Rattle.node_core.specs.State.{State}
use Rattle.node_core.specs.Observable.{observable}
use Rattle.node_core.specs.Machine.{step}
use Rattle.node_core.specs.rules.Growth.{step_on_buckets}
use Rattle.node_core.specs.Buckets.{run_on_buckets}
use Rattle.node_core.specs.Woven.{is_step_of, Given}
use Rattle.node_core.specs.inside.Walker.{steps_of, OthersRan}
use Rattle.node_core.proofs.buckets.Runs.{run-on-buckets-push}

steps-push : (xs : Given) (g : ℕ × Step) → steps_of (xs ++ g ∷ []) ≡ steps_of xs ++ g.1 ∷ []
steps-push [] g = refl
steps-push (x ∷ xs) g = ap (λ ys. x.1 ∷ ys) (steps-push xs g)

all-push : (p : ℕ) (xs : List Step) (s : Step) → AllByRecursion (λ s. is_step_of p s ≡ false) xs → is_step_of p s ≡ false → AllByRecursion (λ s. is_step_of p s ≡ false) (xs ++ s ∷ [])
all-push p [] s h k = (k, tt)
all-push p (x ∷ xs) s h k = (h.0, all-push p xs s h.1 k)

pub did-more : (p : ℕ) (old mid new : State) (xs ys : Given) (g : ℕ × Step) (r : Reply) → ys ≡ xs ++ g ∷ [] → OthersRan p old xs mid → is_step_of p g.1 ≡ false → step (observable mid) g.1 r (observable new) → step_on_buckets mid g.1 r new → OthersRan p old ys new
did-more p old mid new xs ys g r e did other h b = subst (λ (zs : Given). OthersRan p old zs new) (sym e) (record {
  replies = did.replies ++ r ∷ [];
  ran = subst (λ (ss : List Step). run_on_buckets old ss (did.replies ++ r ∷ []) new) (sym (steps-push xs g)) (run-on-buckets-push old mid new (steps_of xs) did.replies g.1 r did.ran h b);
  others = subst (λ (ss : List Step). AllByRecursion (λ s. is_step_of p s ≡ false) ss) (sym (steps-push xs g)) (all-push p (steps_of xs) g.1 did.others other);
})

-- the same of a step that memory was not refused for
pub did-after : (p : ℕ) (old mid new : State) (xs ys : Given) (g : ℕ × Step) (result : Result Reply AllocError) → ys ≡ xs ++ g ∷ [] → OthersRan p old xs mid → is_step_of p g.1 ≡ false → false ≡ is_err result
    → IfOk result (λ r. step (observable mid) g.1 r (observable new)) → IfOk result (λ r. step_on_buckets mid g.1 r new) → OthersRan p old ys new
did-after p old mid new xs ys g (Ok r) e did other good h b = did-more p old mid new xs ys g r e did other h b
did-after p old mid new xs ys g (Err error) e did other good h b = absurd (true≢false (sym good))
