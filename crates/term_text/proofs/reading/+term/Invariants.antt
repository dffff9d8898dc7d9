use Rattle.std.proofs.Common.{◌≡◌, ◌≤◌, ◌+◌, ◌-◌, ◌*◌, ◌∷◌, List, length, true, false}
use Rattle.term_text.specs.inside.Reader.{OpenBracket, wants, reads_on, open_bracket}
use Rattle.term_text.specs.inside.Parts.{Reaches, is_square}
use Rattle.term_text.proofs.reading.+term.Given as goal

abbrev pub decreases-term_at : goal.decreases-term_at
decreases-term_at l = 4 * l.levels_left + 2

abbrev pub decreases-form_at : goal.decreases-form_at
decreases-form_at l = 4 * l.levels_left + 1

abbrev pub decreases-any_form_at : goal.decreases-any_form_at
decreases-any_form_at l = 4 * l.levels_left

abbrev pub decreases-bracket_at : goal.decreases-bracket_at
decreases-bracket_at l = 4 * l.levels_left + 3

abbrev pub invariant-bracket_at-loop-found : goal.invariant-bracket_at-loop-found
invariant-bracket_at-loop-found l = record {
  reads : (os : List OpenBracket) → length os + 1 + l.levels_left ≡ 128 → Reaches l.text l.at (reads_on (wants true) (open_bracket (is_square l.bracket) ∷ os)) l.offset (reads_on (wants false) (record { square = is_square l.bracket; terms = l.items } ∷ os));
  forward : l.at ≤ l.offset;
  within : l.offset ≤ length l.text;
}

abbrev pub decreases-bracket_at-loop-found : goal.decreases-bracket_at-loop-found
decreases-bracket_at-loop-found l = length l.text - l.offset
