use Rattle.node_parts.proofs.Calls.{reads-are-reads}
use Rattle.node_parts.proofs.laws.reads_on_parts_are_reads.Goals as goal

pub returns : goal.returns
returns c = reads-are-reads
