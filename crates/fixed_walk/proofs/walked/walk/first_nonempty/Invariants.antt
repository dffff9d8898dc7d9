use Rattle.std.proofs.Common.{◌≡◌, ◌+◌, ◌≤◌, length}
use Rattle.fixed_walk.specs.Walk.{first_slot}
use Rattle.fixed_walk.specs.inside.From.{slots_from, HasSlotAt}
use Rattle.fixed_walk.proofs.walked.walk.first_nonempty.Given as goal

abbrev pub invariant-loop : goal.invariant-loop
invariant-loop g l = record {
  has_slot : HasSlotAt (g.R.Rows.key_at l.rows) l.at;
  same : first_slot (slots_from (g.R.Rows.key_at l.rows) (g.R.Rows.slots l.rows) l.at) ≡ first_slot (slots_from (g.R.Rows.key_at l.rows) (g.R.Rows.slots l.rows) l.fn.start);
  few : length (slots_from (g.R.Rows.key_at l.rows) (g.R.Rows.slots l.rows) l.at) + l.counter ≤ length (g.R.Rows.slots l.rows);
}
