use Rattle.std.proofs.Common.{arith, sym, subst, ◌∙◌}
use Rattle.node_core.specs.Pending.{RunsAtMost}
use Rattle.node_core.proofs.pending.Running.{at-most, and-one, one-was-run, none-was-run, one-more}
use Rattle.node_core.proofs.node.Node.run_first_pending_steps.Goals as goal

pub returns-in-Ok-false-clause-steps : goal.returns-in-Ok-false-clause-steps
returns-in-Ok-false-clause-steps g c =
    let mid = c.run_pending_of_last_table.new.self in
    let same = none-was-run c.loop.self mid c.in-Ok-false.field-0 c.in-Ok-false.field-0-test c.in-Ok-false.ensures.pending in
    and-one c.loop.counter c.args.max_steps c.args.self.now mid c.run_pending_in_turn.new.self (omega (arith, c.loop-test.true))
    (subst (RunsAtMost c.loop.counter c.args.self.now) (sym same) c.loop.invariant.0)
    c.run_pending_in_turn.ensures.steps

pub returns-in-Err-clause-steps : goal.returns-in-Err-clause-steps
returns-in-Err-clause-steps g c =
    at-most c.loop.counter c.args.max_steps c.args.self.now c.run_pending_of_last_table.new.self (omega (arith, c.loop-test.true))
    (subst (RunsAtMost c.loop.counter c.args.self.now) (sym c.in-Err.ensures.err) c.loop.invariant.0)

pub loop-preserved : goal.loop-preserved
loop-preserved g c =
    let mid = c.run_pending_of_last_table.new.self in
    let step = one-was-run c.loop.self mid c.in-Ok-true.field-0 c.in-Ok-true.field-0-test c.in-Ok-true.ensures.pending in
    (one-more c.loop.counter c.args.self.now c.loop.self mid c.loop.invariant.0 step, c.in-Ok-true.ensures.observable ∙ c.loop.invariant.1)
