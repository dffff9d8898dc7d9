use Rattle.std.proofs.Common.{◌≤◌, ◌-◌, List, [], length}
use Rattle.term_text.specs.inside.Reader.{OpenBracket, byte, digit, reads_on}
use Rattle.term_text.specs.inside.Parts.{Reaches}
use Rattle.term_text.proofs.binary.bytes_at.Given as goal

abbrev pub invariant-loop-bytes : goal.invariant-loop-bytes
invariant-loop-bytes l = record {
  reads : (os : List OpenBracket) → Reaches l.text l.at (reads_on (digit (byte []) l.at) os) l.offset (reads_on (digit (byte l.bytes.items) l.offset) os);
  forward : l.at ≤ l.offset;
  within : l.offset ≤ length l.text;
}

abbrev pub decreases-loop-bytes : goal.decreases-loop-bytes
decreases-loop-bytes l = length l.text - l.offset
