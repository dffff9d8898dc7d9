use Rattle.node_core.proofs.walks.WholeWalks.{walks-whole, sound-keys}
use Rattle.node_core.proofs.laws.walks_are_whole.Goals as goal

pub returns-clause-whole : goal.returns-clause-whole
returns-clause-whole c = walks-whole

pub returns-clause-sound : goal.returns-clause-sound
returns-clause-sound c = sound-keys
