-- A run that goes on when memory runs out, by one step.
use Rattle.std.proofs.Common.{◌≡◌, List, [], ◌∷◌, ◌++◌, Option, Some, None, length, refl, ap, append-nil, arith}
use Rattle.node_core.specs.State.{State}
use Rattle.node_core.specs.Observable.{observable}
use Rattle.node_core.specs.Machine.{run}
use Rattle.node_core.specs.Buckets.{run_on_buckets}
use Rattle.node_core.specs.Through.{steps_with_reply, replies_in}
use Rattle.node_core.specs.inside.Passing.{StepsOrUnchanged}
use Rattle.node_core.specs.declared.step.Step.{Step}
use Rattle.node_core.specs.declared.step.Reply.{Reply}
use Rattle.node_core.proofs.buckets.Runs.{run-push, run-on-buckets-push}

replies-push : (answers : List (Option Reply)) (a : Option Reply) → replies_in (answers ++ a ∷ []) ≡ replies_in answers ++ replies_in (a ∷ [])
replies-push [] a = refl
replies-push (None ∷ answers) a = replies-push answers a
replies-push (Some r ∷ answers) a = ap (λ rs. r ∷ rs) (replies-push answers a)

steps_with_reply-push : (ss : List Step) (answers : List (Option Reply)) (s : Step) (a : Option Reply) → length answers ≡ length ss → steps_with_reply (ss ++ s ∷ []) (answers ++ a ∷ []) ≡ steps_with_reply ss answers ++ steps_with_reply (s ∷ []) (a ∷ [])
steps_with_reply-push [] [] s a e = refl
steps_with_reply-push [] (x ∷ answers) s a e = absurd (omega (arith, e))
steps_with_reply-push (t ∷ ss) [] s a e = absurd (omega (arith, e))
steps_with_reply-push (t ∷ ss) (None ∷ answers) s a e = steps_with_reply-push ss answers s a (omega (arith, e))
steps_with_reply-push (t ∷ ss) (Some r ∷ answers) s a e = ap (λ ts. t ∷ ts) (steps_with_reply-push ss answers s a (omega (arith, e)))

pub through-push : (old mid new : State) (ss : List Step) (answers : List (Option Reply)) (s : Step) (a : Option Reply) → length answers ≡ length ss → run (observable old) (steps_with_reply ss answers) (replies_in answers) (observable mid) → StepsOrUnchanged mid s a new
    → run (observable old) (steps_with_reply (ss ++ s ∷ []) (answers ++ a ∷ [])) (replies_in (answers ++ a ∷ [])) (observable new)
through-push old mid new ss answers s None e p h = rw (steps_with_reply-push ss answers s None e, replies-push answers None, append-nil (steps_with_reply ss answers), append-nil (replies_in answers), h) p
through-push old mid new ss answers s (Some r) e p h = rw (steps_with_reply-push ss answers s (Some r) e, replies-push answers (Some r)) (run-push _ _ _ _ _ _ _ p h.0)

pub through-on-buckets : (old mid new : State) (ss : List Step) (answers : List (Option Reply)) (s : Step) (a : Option Reply) → length answers ≡ length ss → run_on_buckets old (steps_with_reply ss answers) (replies_in answers) mid → StepsOrUnchanged mid s a new
    → run_on_buckets old (steps_with_reply (ss ++ s ∷ []) (answers ++ a ∷ [])) (replies_in (answers ++ a ∷ [])) new
through-on-buckets old mid new ss answers s None e p h = rw (steps_with_reply-push ss answers s None e, replies-push answers None, append-nil (steps_with_reply ss answers), append-nil (replies_in answers), h) p
through-on-buckets old mid new ss answers s (Some r) e p h = rw (steps_with_reply-push ss answers s (Some r) e, replies-push answers (Some r)) (run-on-buckets-push _ _ _ _ _ _ _ p h.0 h.1)
