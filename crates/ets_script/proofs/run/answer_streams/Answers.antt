use Rattle.ets_script.proofs.ScriptEnds.{not-begun}
use Rattle.ets_script.proofs.run.answer_streams.Goals as goal

pub returns-in_default-clause-err : goal.returns-in_default-clause-err
returns-in_default-clause-err g c = not-begun c.args.script.now (g.R.Read.remaining c.args.streams.now.input) (g.W.Write.contents c.args.streams.now.output)

pub returns-in_default-output_buffer-clause-err : goal.returns-in_default-output_buffer-clause-err
returns-in_default-output_buffer-clause-err g c = not-begun c.args.script.now (g.R.Read.remaining c.args.streams.now.input) (g.W.Write.contents c.args.streams.now.output)
