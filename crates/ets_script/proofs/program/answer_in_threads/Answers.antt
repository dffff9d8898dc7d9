use Rattle.ets_script.proofs.Statuses.{threads-status}
use Rattle.ets_script.proofs.program.answer_in_threads.Goals as goal

pub returns-then-options : goal.returns-then-options
returns-then-options g c = rw (← c.limits_of-limits.ensures) (threads-status _ _ c.run_threads-run.result c.report.result c.run_threads-run.ensures.ok c.run_threads-run.ensures.err c.report.ensures.ok c.report.ensures.err)
