use Rattle.term_text.proofs.Prefixes.{goes-on, stuck}
use Rattle.term_text.proofs.laws.faults_are_noticed_first.Goals as goal

pub returns : goal.returns
returns c = record { before = goes-on; from = stuck }
