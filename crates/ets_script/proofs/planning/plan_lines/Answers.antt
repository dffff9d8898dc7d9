use Rattle.std.proofs.Common.{◌∙◌, ℕ, Option, None, subst}
use Rattle.ets_script.specs.inside.Planning.{PlansNext, PlansFirstLine}
use Rattle.ets_script.proofs.BufferedLines.{refill-end}
use Rattle.ets_script.specs.inside.Planning.{IsUnplanned}
use Rattle.ets_script.proofs.Clients.{fault-of-err}
use Rattle.ets_script.proofs.PlannedLines.{planning-start, planning-line, planning-read, planning-end}
use Rattle.ets_script.proofs.planning.plan_lines.Goals as goal

pub loop-taken-init : goal.loop-taken-init
loop-taken-init g c = planning-start c.args.plan.now c.args.buffer.now (g.R.Read.remaining c.args.reader.now) c.requires.0 c.requires.1

pub returns-then-branch-eq0-clause-ok : goal.returns-then-branch-eq0-clause-ok
returns-then-branch-eq0-clause-ok g c =
    let l = c.loop-taken in
    let before = g.R.Read.remaining c.args.reader.now in
    let left = g.R.Read.remaining c.refill.new.reader in
    let waits : PlansNext l.buffer l.plan c.plan_next.new.plan None = subst (λ (o : Option ℕ). PlansNext l.buffer l.plan c.plan_next.new.plan o) c.in_default.is c.in_ok-taken.ensures in
    let going = planning-read c.args.plan.now l.plan c.plan_next.new.plan before l.buffer c.skip_long.new.self c.refill.new.self (g.R.Read.remaining l.reader) left c.in_ok-refill.field-0 l.invariant waits.1 waits.0 c.skip_long.ensures c.in_ok-refill.ensures.ok in
    let end = refill-end l.buffer c.skip_long.new.self c.refill.new.self (g.R.Read.remaining l.reader) left c.in_ok-refill.field-0 waits.0 c.skip_long.ensures c.in_ok-refill.ensures.ok c.if-branch-eq0.true in
    planning-end c.args.plan.now c.plan_next.new.plan c.plan_last.new.plan before c.refill.new.self left going end c.in_ok-plan_last.ensures

pub loop-taken-preserved-in_default : goal.loop-taken-preserved-in_default
loop-taken-preserved-in_default g c =
    let l = c.loop-taken in
    let waits : PlansNext l.buffer l.plan c.plan_next.new.plan None = subst (λ (o : Option ℕ). PlansNext l.buffer l.plan c.plan_next.new.plan o) c.in_default.is c.in_ok-taken.ensures in
    planning-read c.args.plan.now l.plan c.plan_next.new.plan (g.R.Read.remaining c.args.reader.now) l.buffer c.skip_long.new.self c.refill.new.self (g.R.Read.remaining l.reader) (g.R.Read.remaining c.refill.new.reader) c.in_ok-refill.field-0
    l.invariant waits.1 waits.0 c.skip_long.ensures c.in_ok-refill.ensures.ok

pub loop-taken-preserved : goal.loop-taken-preserved
loop-taken-preserved g c =
    let l = c.loop-taken in
    let n : PlansFirstLine l.buffer l.plan c.plan_next.new.plan c.in-Some.taken = subst (λ (o : Option ℕ). PlansNext l.buffer l.plan c.plan_next.new.plan o) c.in-Some.is c.in_ok-taken.ensures in
    planning-line c.args.plan.now l.plan c.count_line.new.self (g.R.Read.remaining c.args.reader.now) l.buffer c.consume.new.self (g.R.Read.remaining l.reader) c.in-Some.taken n.line l.invariant n.ends (c.count_line.ensures ∙ n.plans) c.consume.ensures.bytes c.consume.ensures.whole

pub returns-in_err-taken-clause-err : goal.returns-in_err-taken-clause-err
returns-in_err-taken-clause-err g c = fault-of-err IsUnplanned c.from_residual.result _ c.from_residual.ensures.1 tt

pub returns-in_err-refill-clause-err : goal.returns-in_err-refill-clause-err
returns-in_err-refill-clause-err g c = fault-of-err IsUnplanned c.from_residual-in_err-refill.result _ c.from_residual-in_err-refill.ensures.1 tt

pub returns-in_err-plan_last-clause-err : goal.returns-in_err-plan_last-clause-err
returns-in_err-plan_last-clause-err g c = fault-of-err IsUnplanned c.from_residual-in_err-plan_last.result _ c.from_residual-in_err-plan_last.ensures.1 tt
