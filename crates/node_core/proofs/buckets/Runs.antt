-- A run goes on by one step, or by another run.
use Rattle.std.proofs.Common.{◌≡◌, List, [], ◌∷◌, ◌++◌, refl, subst, ap}
use Rattle.node_core.specs.State.{State}
use Rattle.node_core.specs.Observable.{observable}
use Rattle.node_core.specs.Machine.{step, run}
use Rattle.node_core.specs.rules.Growth.{step_on_buckets}
use Rattle.node_core.specs.Buckets.{run_on_buckets, observable_states}
use Rattle.node_core.specs.laws.Walk.{states}
use Rattle.node_core.specs.declared.step.Step.{Step}
use Rattle.node_core.specs.declared.step.Reply.{Reply}

pub run-push : (old mid new : State) (ss : List Step) (rs : List Reply) (s : Step) (r : Reply) → run old ss rs mid → step mid s r new → run old (ss ++ s ∷ []) (rs ++ r ∷ []) new
run-push old mid new [] [] s r p q = (new, rw (← p) q, refl)
run-push old mid new (x ∷ ss) (y ∷ rs) s r p q = (p.0, p.1, run-push p.0 mid new ss rs s r p.2 q)
run-push old mid new [] (y ∷ rs) s r p q = absurd p
run-push old mid new (x ∷ ss) [] s r p q = absurd p

pub run-on-buckets-push : (old mid new : State) (ss : List Step) (rs : List Reply) (s : Step) (r : Reply) → run_on_buckets old ss rs mid → step (observable mid) s r (observable new) → step_on_buckets mid s r new → run_on_buckets old (ss ++ s ∷ []) (rs ++ r ∷ []) new
run-on-buckets-push old mid new [] [] s r p q b = (new, rw (← p) q, rw (← p) b, refl)
run-on-buckets-push old mid new (x ∷ ss) (y ∷ rs) s r p q b = (p.0, p.1, p.2, run-on-buckets-push p.0 mid new ss rs s r p.3 q b)
run-on-buckets-push old mid new [] (y ∷ rs) s r p q b = absurd p
run-on-buckets-push old mid new (x ∷ ss) [] s r p q b = absurd p

pub run-on-buckets-append : (a b c : State) (xs ys : List Step) (rs qs : List Reply) → run_on_buckets a xs rs b → run_on_buckets b ys qs c → run_on_buckets a (xs ++ ys) (rs ++ qs) c
run-on-buckets-append a b c [] ys [] qs h k = subst (λ (s : State). run_on_buckets s ys qs c) h k
run-on-buckets-append a b c (x ∷ xs) ys (r ∷ rs) qs h k = (h.0, h.1, h.2, run-on-buckets-append h.0 b c xs ys rs qs h.3 k)
run-on-buckets-append a b c [] ys (r ∷ rs) qs h k = absurd h
run-on-buckets-append a b c (x ∷ xs) ys [] qs h k = absurd h

-- what calls see of it
pub run-observable : (old new : State) (ss : List Step) (rs : List Reply) → run_on_buckets old ss rs new → run (observable old) ss rs (observable new)
run-observable old new [] [] h = ap observable h
run-observable old new (s ∷ ss) (r ∷ rs) h = (observable h.0, h.1, run-observable h.0 new ss rs h.3)
run-observable old new [] (r ∷ rs) h = absurd h
run-observable old new (s ∷ ss) [] h = absurd h

pub states-observable : (old new : State) (ss : List Step) (rs : List Reply) (h : run_on_buckets old ss rs new)
    → states (observable old) ss rs (observable new) (run-observable old new ss rs h) ≡ observable_states old ss rs new h
unfolding run-observable
states-observable old new [] [] h = refl
states-observable old new (s ∷ ss) (r ∷ rs) h = ap (λ (xs : List State). observable old ∷ xs) (states-observable h.0 new ss rs h.3)
states-observable old new [] (r ∷ rs) h = absurd h
states-observable old new (s ∷ ss) [] h = absurd h
