use Rattle.std.proofs.Common.{◌≡◌, ◌≤◌, ◌+◌, ◌-◌, length, drop}
use Rattle.std.specs.List.{prefix_len}
use Rattle.term_text.specs.Text.{is_digit, value_of_digits}
use Rattle.term_text.proofs.number.digits_at.Given as goal

abbrev pub invariant-loop-offset : goal.invariant-loop-offset
invariant-loop-offset l = record {
  value : value_of_digits l.n (drop l.offset l.text) ≡ value_of_digits 0 (drop l.at l.text);
  small : l.n ≤ l.limit;
  end : l.offset + prefix_len is_digit (drop l.offset l.text) ≡ l.at + prefix_len is_digit (drop l.at l.text);
  within : l.offset ≤ length l.text;
}

abbrev pub decreases-loop-offset : goal.decreases-loop-offset
decreases-loop-offset l = length l.text - l.offset
