-- A run without its growth steps is a run, and so is each part of a run.
use Rattle.std.proofs.Common.{[], ◌∷◌, refl, subst}
use Rattle.std.specs.Map.{keys_of, values_of}
use Rattle.node_core.specs.declared.step.Step.TheVariants.{Enrol, End, Ask, Grow, Ready}
use Rattle.node_core.specs.State.{State}
use Rattle.node_core.specs.Machine.{run}
use Rattle.node_core.specs.laws.Erasing.{without_growth, GrowthErases, RunsCut}

-- a growth step leaves the state, so the run goes on from the one before it
pub growth-erases : GrowthErases
growth-erases old [] [] new done = done
growth-erases old (Enrol p ∷ steps) (r ∷ replies) new done = (done.0, done.1, growth-erases done.0 steps replies new done.2)
growth-erases old (End p ∷ steps) (r ∷ replies) new done = (done.0, done.1, growth-erases done.0 steps replies new done.2)
growth-erases old (Ask p asked ∷ steps) (r ∷ replies) new done = (done.0, done.1, growth-erases done.0 steps replies new done.2)
growth-erases old (Grow t ∷ steps) (r ∷ replies) new done =
    subst (λ (s : State). run s (keys_of (without_growth steps replies)) (values_of (without_growth steps replies)) new) done.1.1 (growth-erases done.0 steps replies new done.2)
growth-erases old (Ready t bucket ∷ steps) (r ∷ replies) new done =
    subst (λ (s : State). run s (keys_of (without_growth steps replies)) (values_of (without_growth steps replies)) new) done.1.1 (growth-erases done.0 steps replies new done.2)
growth-erases old [] (r ∷ replies) new done = absurd done
growth-erases old (s ∷ steps) [] new done = absurd done

pub runs-cut : RunsCut
runs-cut old [] rest replies new done = (old, refl, done)
runs-cut old (s ∷ first) rest [] new done = absurd done
runs-cut old (s ∷ first) rest (r ∷ replies) new done =
    let cut = runs-cut done.0 first rest replies new done.2 in
    (cut.0, (done.0, done.1, cut.1), cut.2)
