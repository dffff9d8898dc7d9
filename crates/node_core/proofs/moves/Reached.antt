-- What steps keep, every state has that a run reaches from one that has it.
use Rattle.std.proofs.Common.{◌≡◌, ℕ, Bool, true, ◌&&◌, List, [], ◌∷◌, Option, None, Some, refl, sym, subst, ap, ◌∙◌, true≢false}
use Rattle.std.specs.List.{IsDistinct}
use Rattle.std.specs.Str.{bytes_eq}
use Rattle.std.proofs.lemmas.Slice.Eq.{bytes_eq-Decides}
use Rattle.ets_term.specs.Order.{same}
use Rattle.bucket_table.specs.Rows.{HasDistinctKeys}
use Rattle.ownership.specs.World.{Table, Tables, table_at, metadata_of, all_metadata, is_named, whereis}
use Rattle.ownership.specs.inside.Names.{metadata_at}
use Rattle.ownership.proofs.MetadataLaws.{metadata-there}
use Rattle.ownership.proofs.Naming.{is_within}
use Rattle.ownership.proofs.Places.{position-None}
use Rattle.node_core.specs.declared.limits.Limits.{Limits}
use Rattle.node_core.specs.declared.step.Reply.{Reply}
use Rattle.node_core.specs.declared.step.Step.{Step}
use Rattle.node_core.specs.State.{State, empty}
use Rattle.node_core.specs.Machine.{step, run}
use Rattle.node_core.specs.laws.Reached.{HasNoEnd, IsSound, RunsStaySound, ReachedAreSound}
use Rattle.node_core.specs.Woven.{is_step_of}
use Rattle.node_core.proofs.moves.Moves.{Came}
use Rattle.node_core.proofs.moves.Preserves.{AreBounded}
use Rattle.node_core.proofs.calls.EachCall.{step-follows}

pub run-keeps : (P : State → Type 0) → ((old new : State) (s : Step) (reply : Reply) → step old s reply new → P old → P new)
    → (old : State) (steps : List Step) (replies : List Reply) (new : State) → run old steps replies new → P old → P new
run-keeps P keeps old [] [] new r h = subst P (sym r) h
run-keeps P keeps old (s ∷ steps) (reply ∷ replies) new r h = run-keeps P keeps r.0 steps replies new r.2 (keeps old r.0 s reply r.1 h)
run-keeps P keeps old [] (reply ∷ replies) new r h = absurd r
run-keeps P keeps old (s ∷ steps) [] new r h = absurd r

-- ---- keys
abbrev HasDistinctSlots : State → Type 0
HasDistinctSlots s = (t : ℕ) (table : Table) → table_at s.world.tables t ≡ Some table → HasDistinctKeys table.state.content.slots

pub distinct-none : HasDistinctKeys []
unfolding IsDistinct
distinct-none = tt

distinct-came : (own : ℕ → Bool) (old : Tables) (t : ℕ) (o : Option Table) (table : Table) → Came own old t o table → ((was : Table) → o ≡ Some was → HasDistinctKeys was.state.content.slots) → HasDistinctKeys table.state.content.slots
distinct-came own old t None table came d = subst HasDistinctKeys (sym came.bare) distinct-none
distinct-came own old t (Some was) table came d = came.fixed.keys.distinct (d was refl)

keys-step : (old new : State) (s : Step) (reply : Reply) → step old s reply new → HasDistinctSlots old → HasDistinctSlots new
keys-step old new s reply h d t table at = distinct-came (λ w. is_step_of w s) old.world.tables t (table_at old.world.tables t) table ((step-follows old new s reply h).came t table at) (λ was before. d t was before)

abbrev HasNoEnds : State → Type 0
HasNoEnds s = (t : ℕ) (table : Table) → table_at s.world.tables t ≡ Some table → HasNoEnd table.state.content.slots

end-came : (own : ℕ → Bool) (old : Tables) (t : ℕ) (o : Option Table) (table : Table) → Came own old t o table → ((was : Table) → o ≡ Some was → HasNoEnd was.state.content.slots) → HasNoEnd table.state.content.slots
end-came own old t None table came d = subst HasNoEnd (sym came.bare) tt
end-came own old t (Some was) table came d = came.fixed.ends (d was refl)

ends-step : (old new : State) (s : Step) (reply : Reply) → step old s reply new → HasNoEnds old → HasNoEnds new
ends-step old new s reply h d t table at = end-came (λ w. is_step_of w s) old.world.tables t (table_at old.world.tables t) table ((step-follows old new s reply h).came t table at) (λ was before. d t was before)

-- ---- fixes
-- no process has more fixes of a table than it may have
abbrev pub HaveBoundedFixes : State → Type 0
HaveBoundedFixes s = (t : ℕ) (table : Table) → table_at s.world.tables t ≡ Some table → AreBounded table.state.fixes

bounded-came : (own : ℕ → Bool) (old : Tables) (t : ℕ) (o : Option Table) (table : Table) → Came own old t o table → ((was : Table) → o ≡ Some was → AreBounded was.state.fixes) → AreBounded table.state.fixes
bounded-came own old t None table came d = came.bounded
bounded-came own old t (Some was) table came d = came.fixed.bounded (d was refl)

bounded-step : (old new : State) (s : Step) (reply : Reply) → step old s reply new → HaveBoundedFixes old → HaveBoundedFixes new
bounded-step old new s reply h d t table at = bounded-came (λ w. is_step_of w s) old.world.tables t (table_at old.world.tables t) table ((step-follows old new s reply h).came t table at) (λ was before. d t was before)

-- ---- names
abbrev HasDistinctNames : State → Type 0
HasDistinctNames s = (t u : ℕ) (one other : Table) → table_at s.world.tables t ≡ Some one → table_at s.world.tables u ≡ Some other → one.metadata.named ≡ true → other.metadata.named ≡ true → one.metadata.name ≡ other.metadata.name → t ≡ u

-- a name that no table has is not that of a named table
none-named : (ts : Tables) (name : List ℕ) (u : ℕ) (was : Table) → whereis ts name ≡ None → table_at ts u ≡ Some was → was.metadata.named ≡ true → was.metadata.name ≡ name → ⊥
none-named ts name u was none at named same =
    let there : metadata_at (all_metadata ts) u ≡ Some was.metadata = metadata-there ts u ∙ ap metadata_of at in
    let within = is_within (all_metadata ts) u was.metadata there in
    let is : is_named name (metadata_at (all_metadata ts) u) ≡ true = ap (is_named name) there ∙ (ap (λ b. b && bytes_eq name was.metadata.name) named ∙ (bytes_eq-Decides name was.metadata.name).1 (sym same)) in
    true≢false (sym is ∙ position-None (is_named name) (all_metadata ts) u None none within)

names-came : (own : ℕ → Bool) (ts : Tables) (t u : ℕ) (before other_before : Option Table) (one other : Table) → table_at ts t ≡ before → table_at ts u ≡ other_before → Came own ts t before one → Came own ts u other_before other
    → ((was other_was : Table) → table_at ts t ≡ Some was → table_at ts u ≡ Some other_was → was.metadata.named ≡ true → other_was.metadata.named ≡ true → was.metadata.name ≡ other_was.metadata.name → t ≡ u)
    → one.metadata.named ≡ true → other.metadata.named ≡ true → one.metadata.name ≡ other.metadata.name → t ≡ u
names-came own ts t u (Some was) (Some other_was) one other at at' came came' distinct named named' same =
    distinct was other_was at at' (sym came.named ∙ named) (sym came'.named ∙ named') (sym came.name ∙ (same ∙ came'.name))
names-came own ts t u None None one other at at' came came' distinct named named' same = came.place ∙ sym came'.place
names-came own ts t u None (Some other_was) one other at at' came came' distinct named named' same =
    absurd (none-named ts one.metadata.name u other_was (came.free named) at' (sym came'.named ∙ named') (sym came'.name ∙ sym same))
names-came own ts t u (Some was) None one other at at' came came' distinct named named' same =
    absurd (none-named ts other.metadata.name t was (came'.free named') at (sym came.named ∙ named) (sym came.name ∙ same))

names-step : (old new : State) (s : Step) (reply : Reply) → step old s reply new → HasDistinctNames old → HasDistinctNames new
names-step old new s reply h distinct t u one other at at' named named' same =
    let follows = step-follows old new s reply h in
    names-came (λ w. is_step_of w s) old.world.tables t u (table_at old.world.tables t) (table_at old.world.tables u) one other refl refl (follows.came t one at) (follows.came u other at') (λ was other_was. distinct t u was other_was) named named' same

-- ---- runs
pub sound-step : (old new : State) (s : Step) (reply : Reply) → step old s reply new → IsSound old → IsSound new
sound-step old new s reply h sound = record { keys = keys-step old new s reply h sound.keys; ends = ends-step old new s reply h sound.ends; names = names-step old new s reply h sound.names }

pub sound-run : RunsStaySound
sound-run = run-keeps IsSound sound-step

sound-empty : (limits : Limits) → IsSound (empty limits)
sound-empty limits = record { keys = λ t table at. cc; ends = λ t table at. cc; names = λ t u one other at at'. cc }

pub sound-reached : ReachedAreSound
sound-reached limits steps replies s done = sound-run (empty limits) steps replies s done (sound-empty limits)

pub bounded-reached : (limits : Limits) (steps : List Step) (replies : List Reply) (s : State) → run (empty limits) steps replies s → HaveBoundedFixes s
bounded-reached limits steps replies s done = run-keeps HaveBoundedFixes bounded-step (empty limits) steps replies s done (λ t table at. cc)
