-- Runs that go on past steps that run out of memory.
use Rattle.std.specs.Prelude.{List, [], ◌∷◌, Option, Some, None}
use Rattle.node_core.specs.declared.step.Step.{Step}
use Rattle.node_core.specs.declared.step.Reply.{Reply}

-- the steps that have a reply; one that ran out of memory has None
abbrev pub steps_with_reply : List Step → List (Option Reply) → List Step
steps_with_reply [] answers = []
steps_with_reply (s ∷ steps) [] = []
steps_with_reply (s ∷ steps) (None ∷ answers) = steps_with_reply steps answers
steps_with_reply (s ∷ steps) (Some r ∷ answers) = s ∷ steps_with_reply steps answers

-- the replies to those steps, in order
abbrev pub replies_in : List (Option Reply) → List Reply
replies_in [] = []
replies_in (None ∷ answers) = replies_in answers
replies_in (Some r ∷ answers) = r ∷ replies_in answers
