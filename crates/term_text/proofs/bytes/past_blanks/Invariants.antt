use Rattle.std.proofs.Common.{◌≤◌, ◌-◌, length}
use Rattle.term_text.specs.inside.Reader.{Reading}
use Rattle.term_text.specs.inside.Parts.{IgnoresBlanks, Reaches}
use Rattle.term_text.proofs.bytes.past_blanks.Given as goal

abbrev pub invariant-loop-offset : goal.invariant-loop-offset
invariant-loop-offset l = record {
  stays : (s : Reading) → IgnoresBlanks s → Reaches l.text l.at s l.offset s;
  forward : l.at ≤ l.offset;
  within : l.offset ≤ length l.text;
}

abbrev pub decreases-loop-offset : goal.decreases-loop-offset
decreases-loop-offset l = length l.text - l.offset
