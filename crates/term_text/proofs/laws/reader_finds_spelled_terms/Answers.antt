use Rattle.term_text.proofs.laws.reader_finds_spelled_terms.Goals as goal
use Rattle.term_text.proofs.Sound.{sound}
use Rattle.term_text.proofs.Spelled.{front-read}

pub returns : goal.returns
returns c = record { spelled = sound; found = front-read }
