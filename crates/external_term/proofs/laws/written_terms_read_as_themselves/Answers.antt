use Rattle.external_term.proofs.RoundTrip.{reads_back}
use Rattle.external_term.proofs.laws.written_terms_read_as_themselves.Goals as goal

pub returns : goal.returns
returns c = reads_back
