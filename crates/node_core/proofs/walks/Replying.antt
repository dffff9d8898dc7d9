-- The replies to a process's own steps among those of others.
use Rattle.std.proofs.Common.{◌≡◌, ℕ, Bool, true, false, List, [], ◌∷◌, ◌++◌, refl, ap, ◌∙◌}
use Rattle.std.specs.Prelude.{if◌then◌else◌}
use Rattle.std.specs.List.{AllByRecursion}
use Rattle.node_core.specs.declared.step.Reply.{Reply}
use Rattle.node_core.specs.declared.step.Step.{Step}
use Rattle.node_core.specs.State.{State}
use Rattle.node_core.specs.Machine.{run}
use Rattle.node_core.specs.Woven.{is_step_of, replies_to}

module _ (p : ℕ) where
  pub own-replied : (s : Step) (r : Reply) (steps : List Step) (replies : List Reply) → is_step_of p s ≡ true → replies_to p (s ∷ steps) (r ∷ replies) ≡ r ∷ replies_to p steps replies
  own-replied s r steps replies e = ap (λ (b : Bool). if b then r ∷ replies_to p steps replies else replies_to p steps replies) e

  pub other-replied : (s : Step) (r : Reply) (steps : List Step) (replies : List Reply) → is_step_of p s ≡ false → replies_to p (s ∷ steps) (r ∷ replies) ≡ replies_to p steps replies
  other-replied s r steps replies e = ap (λ (b : Bool). if b then r ∷ replies_to p steps replies else replies_to p steps replies) e

  -- steps of others have none
  pub none-replied : (old new : State) (steps : List Step) (replies : List Reply) → run old steps replies new → AllByRecursion (λ s. is_step_of p s ≡ false) steps → replies_to p steps replies ≡ []
  none-replied old new [] [] h others = refl
  none-replied old new (s ∷ steps) (r ∷ replies) h others = other-replied s r steps replies others.0 ∙ none-replied h.0 new steps replies h.2 others.1
  none-replied old new [] (r ∷ replies) h others = absurd h
  none-replied old new (s ∷ steps) [] h others = absurd h

  pub replied-append : (old mid : State) (steps more : List Step) (replies further : List Reply) → run old steps replies mid
      → replies_to p (steps ++ more) (replies ++ further) ≡ replies_to p steps replies ++ replies_to p more further
  replied-append old mid [] more [] further h = refl
  replied-append old mid (s ∷ steps) more (r ∷ replies) further h =
      by (is_step_of p s) (replies_to p (steps ++ more) (replies ++ further)) (replies_to p steps replies) (replies_to p more further) (replied-append h.0 mid steps more replies further h.2)
    where
      by : (own : Bool) (whole first last : List Reply) → whole ≡ first ++ last → (if own then r ∷ whole else whole) ≡ (if own then r ∷ first else first) ++ last
      by true whole first last e = ap (λ rs. r ∷ rs) e
      by false whole first last e = e
  replied-append old mid [] more (r ∷ replies) further h = absurd h
  replied-append old mid (s ∷ steps) more [] further h = absurd h
