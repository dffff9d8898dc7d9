-- Steps with replies at the end of a run, with any beginning.
use Rattle.std.specs.Prelude.{◌≡◌, ◌⊎◌, ℕ, ◌+◌, List, [], ◌∷◌, ◌++◌}
use Rattle.std.specs.List.{All}
use Rattle.node_core.specs.declared.limits.Limits.{Limits}
use Rattle.node_core.specs.declared.step.Step.{Step}
use Rattle.node_core.specs.declared.step.Step.TheVariants.{Enrol}
use Rattle.node_core.specs.declared.step.Reply.{Reply}
use Rattle.node_core.specs.declared.step.Reply.TheVariants.{Badarg, SystemLimit}
use Rattle.node_core.specs.State.{State}
use Rattle.node_shared.specs.declared.entry.Entry.{Entry}
use Rattle.node_shared.specs.Journal.{entry, IsRun}

-- Some run of a node ends with this step and this reply. The limit of processes of this node is one less than the
-- number of parts of a ledger.
abbrev pub EndsRun : ℕ → Step → Reply → Type 0
EndsRun parts s r =
    (limits : Limits) × (before : List Entry) × (state : State)
    × (limits.processes + 1 ≡ parts) × IsRun limits (before ++ entry s r ∷ []) state

-- each of these entries ends some run
abbrev pub AllEndRuns : ℕ → List Entry → Type 0
AllEndRuns parts entries = All (λ e. EndsRun parts e.step e.reply) entries

-- the reply is one of the two refusals of an enrolment
abbrev pub IsEnrolRefusal : Reply → Type 0
IsEnrolRefusal r = (r ≡ Badarg) ⊎ (r ≡ SystemLimit)

-- this refusal to enrol p ends some run
abbrev pub RefusesEnrol : ℕ → ℕ → Reply → Type 0
RefusesEnrol parts p r = IsEnrolRefusal r × EndsRun parts (Enrol p) r
