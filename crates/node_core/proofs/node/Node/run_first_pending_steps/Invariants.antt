use Rattle.std.proofs.Common.{◌≡◌}
use Rattle.node_core.specs.Observable.{observable}
use Rattle.node_core.specs.Pending.{RunsAtMost}
use Rattle.node_core.proofs.node.Node.run_first_pending_steps.Given as goal

-- at most as many steps were run as there were rounds
abbrev pub invariant-loop : goal.invariant-loop
invariant-loop g l = RunsAtMost l.counter l.fn.self l.self × (observable l.self ≡ observable l.fn.self)
