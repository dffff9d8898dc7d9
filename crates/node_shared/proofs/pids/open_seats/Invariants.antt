use Rattle.std.proofs.Common.{◌≡◌, ◌-◌, [], vec_len}
use Rattle.std.specs.Prelude.{All}
use Rattle.node_shared.specs.inside.Seats.{opening_view}
use Rattle.node_shared.proofs.pids.open_seats.Given as goal

abbrev pub invariant-loop : goal.invariant-loop
invariant-loop l = record {
  first : l.first.me ≡ (opening_view (l.n - l.counter), []);
  same : l.first.table_id ≡ l.table.shared.table_id;
  count : vec_len l.seats ≡ l.counter;
  seats : All (λ s. s.seat.table_id ≡ l.table.shared.table_id) l.seats.items;
  key : l.table.shared.key ≡ l.n;
}
