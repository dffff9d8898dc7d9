use Rattle.ets_script.proofs.Statuses.{lines-status}
use Rattle.ets_script.proofs.program.answer_hashed.Goals as goal

pub returns-then-seed-eq0 : goal.returns-then-seed-eq0
returns-then-seed-eq0 g c = lines-status _ _ c.run_lines-run.result c.report.result c.run_lines-run.ensures.ok c.run_lines-run.ensures.err c.report.ensures.ok c.report.ensures.err

pub returns : goal.returns
returns g c = lines-status _ _ c.run_lines-run-2.result c.report-2.result c.run_lines-run-2.ensures.ok c.run_lines-run-2.ensures.err c.report-2.ensures.ok c.report-2.ensures.err
