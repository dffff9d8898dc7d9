use Rattle.std.proofs.Common.{◌≡◌, ◌≤◌, ◌+◌, ◌-◌, ◌*◌, [], length}
use Rattle.external_term.specs.Reader.{term_at, items}
use Rattle.external_term.proofs.reading.+term.Given as goal

abbrev pub decreases-term_at : goal.decreases-term_at
decreases-term_at l = 4 * l.levels_left

abbrev pub decreases-form_at : goal.decreases-form_at
decreases-form_at l = 4 * l.levels_left + 3

abbrev pub decreases-tuple_at : goal.decreases-tuple_at
decreases-tuple_at l = 4 * l.levels_left + 2

abbrev pub decreases-list_at : goal.decreases-list_at
decreases-list_at l = 4 * l.levels_left + 2

abbrev pub decreases-items_at : goal.decreases-items_at
decreases-items_at l = 4 * l.levels_left + 1

abbrev pub invariant-items_at-loop : goal.invariant-items_at-loop
invariant-items_at-loop l = record {
  reads : items (term_at l.bytes l.levels_left) l.items.items (l.count - l.counter) l.next
      ≡ items (term_at l.bytes l.levels_left) [] l.count l.at;
  within : l.next ≤ length l.bytes;
}
