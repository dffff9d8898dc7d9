use Rattle.std.proofs.Common.{◌≡◌, ◌≤◌, List, length, drop}
use Rattle.term_text.specs.inside.Reader.{Expect, OpenBracket, expect, read_from}
use Rattle.term_text.proofs.number.literal_at.Given as goal

abbrev pub invariant-loop-sign : goal.invariant-loop-sign
invariant-loop-sign l = record {
  reads : (goal : Expect) (os : List OpenBracket) → read_from l.at (expect l.at l.signs goal os) (drop l.at l.text) ≡ read_from l.offset (expect l.offset (drop l.sign-index l.signs) goal os) (drop l.offset l.text);
  forward : l.at ≤ l.offset;
  within : l.offset ≤ length l.text;
}
