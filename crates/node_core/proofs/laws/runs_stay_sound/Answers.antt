use Rattle.node_core.proofs.moves.Reached.{sound-run, sound-reached}
use Rattle.node_core.proofs.laws.runs_stay_sound.Goals as goal

pub returns-clause-runs : goal.returns-clause-runs
returns-clause-runs c = sound-run

pub returns-clause-reached : goal.returns-clause-reached
returns-clause-reached c = sound-reached
