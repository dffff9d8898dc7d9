use Rattle.std.proofs.Common.{take}
use Rattle.node_core.specs.inside.Walker.{OthersRan}
use Rattle.node_core.proofs.walk.run_steps.Given as goal

abbrev pub invariant-loop-step : goal.invariant-loop-step
invariant-loop-step g l = OthersRan l.pid l.fn.node (take l.step-index l.steps) l.node
