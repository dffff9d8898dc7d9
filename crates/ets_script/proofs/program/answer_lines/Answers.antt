use Rattle.ets_script.proofs.Statuses.{lines-status}
use Rattle.ets_script.proofs.program.answer_lines.Goals as goal

pub returns-then-options : goal.returns-then-options
returns-then-options g c = lines-status _ _ c.run_lines-run.result c.report.result c.run_lines-run.ensures.ok c.run_lines-run.ensures.err c.report.ensures.ok c.report.ensures.err
