use Rattle.term_text.proofs.RoundTrip.{reads-back}
use Rattle.term_text.proofs.laws.printed_term_reads_back.Goals as goal

pub returns : goal.returns
returns c = record { same = reads-back }
