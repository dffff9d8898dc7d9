use Rattle.term_text.proofs.FaultLaws.{row-holds, reported}
use Rattle.term_text.proofs.laws.faults_say_why.Goals as goal

pub returns : goal.returns
returns c = record { noticed = row-holds; reported = reported }
