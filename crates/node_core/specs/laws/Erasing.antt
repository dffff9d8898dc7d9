-- What runs keep if growth steps are left out, and if they are cut.
use Rattle.std.specs.Prelude.{Bool, true, false, not, List, ◌++◌, length, filter, zip, take, drop}
use Rattle.std.specs.Map.{keys_of, values_of}
use Rattle.node_core.specs.declared.step.Step.{Step}
use Rattle.node_core.specs.declared.step.Step.TheVariants.{Grow, Ready}
use Rattle.node_core.specs.declared.step.Reply.{Reply}
use Rattle.node_core.specs.State.{State}
use Rattle.node_core.specs.Machine.{run}

-- whether a step doubles the buckets of a table, or readies one
abbrev pub is_growth : Step → Bool
is_growth (Grow t) = true
is_growth (Ready t bucket) = true
is_growth _ = false

-- the steps of a run with their replies, without the growth steps
abbrev pub without_growth : List Step → List Reply → List (Step × Reply)
without_growth steps replies = filter (λ done. not (is_growth done.0)) (zip steps replies)

-- a run without its growth steps is a run with the other replies
abbrev pub GrowthErases : Type 0
GrowthErases =
    (old : State) (steps : List Step) (replies : List Reply) (new : State) → run old steps replies new
    → run old (keys_of (without_growth steps replies)) (values_of (without_growth steps replies)) new

-- a run can be cut at any point: its first steps are a run, and so are the others
abbrev pub RunsCut : Type 0
RunsCut =
    (old : State) (first rest : List Step) (replies : List Reply) (new : State) → run old (first ++ rest) replies new
    → (mid : State) × run old first (take (length first) replies) mid × run mid rest (drop (length first) replies) new
