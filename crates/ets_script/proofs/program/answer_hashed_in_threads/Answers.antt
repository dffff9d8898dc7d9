use Rattle.ets_script.proofs.Statuses.{threads-status}
use Rattle.ets_script.proofs.program.answer_hashed_in_threads.Goals as goal

pub returns-then-seed-eq0 : goal.returns-then-seed-eq0
returns-then-seed-eq0 g c = rw (← c.limits_of-limits.ensures) (threads-status _ _ c.run_threads-run.result c.report.result c.run_threads-run.ensures.ok c.run_threads-run.ensures.err c.report.ensures.ok c.report.ensures.err)

pub returns : goal.returns
returns g c = rw (← c.limits_of-limits.ensures) (threads-status _ _ c.run_threads-run-2.result c.report-2.result c.run_threads-run-2.ensures.ok c.run_threads-run-2.ensures.err c.report-2.ensures.ok c.report-2.ensures.err)
