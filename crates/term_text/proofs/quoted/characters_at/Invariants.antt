use Rattle.std.proofs.Common.{◌≤◌, ◌-◌, List, [], length, IsTrue}
use Rattle.std.specs.List.{list_all}
use Rattle.ets_term.specs.Character.{is_character}
use Rattle.term_text.specs.inside.Reader.{OpenBracket, in_quotes, reads_on}
use Rattle.term_text.specs.inside.Parts.{Reaches, IsOutOfLevels, IsShort}
use Rattle.term_text.proofs.quoted.characters_at.Given as goal

abbrev pub invariant-loop-offset : goal.invariant-loop-offset
invariant-loop-offset l = record {
  reads : (os : List OpenBracket) → IsOutOfLevels l.quotes l.out_of_levels os → Reaches l.text l.at (reads_on (in_quotes l.quotes []) os) l.offset (reads_on (in_quotes l.quotes l.chars.items) os);
  characters : IsTrue (list_all is_character l.chars.items);
  short : IsShort l.quotes (length l.chars.items);
  forward : l.at ≤ l.offset;
  within : l.offset ≤ length l.text;
}

abbrev pub decreases-loop-offset : goal.decreases-loop-offset
decreases-loop-offset l = length l.text - l.offset
