use Rattle.ets_script.proofs.LineForms.{silent-form, spawn-form, exit-form, grow-form, ready-form, call-form}
use Rattle.ets_script.proofs.laws.lines_of_forms_have_their_commands.Goals as goal

pub returns-clause-spawn : goal.returns-clause-spawn
returns-clause-spawn c line name p f = spawn-form line name p f

pub returns-clause-exit : goal.returns-clause-exit
returns-clause-exit c line name p f = exit-form line name p f

pub returns-clause-grow : goal.returns-clause-grow
returns-clause-grow c line t p f = grow-form line t p f

pub returns-clause-ready : goal.returns-clause-ready
returns-clause-ready c line t b p f = ready-form line t b p f

pub returns-clause-ask : goal.returns-clause-ask
returns-clause-ask c line name word terms p f = call-form line name word terms p f

pub returns-clause-silent : goal.returns-clause-silent
returns-clause-silent c line f = silent-form line f
