use Rattle.std.proofs.Common.{◌≡◌, All, vec_len}
use Rattle.bench_calls.proofs.clients.enrol_client_of_each_seat.Given as goal

abbrev pub invariant-loop-seat : goal.invariant-loop-seat
invariant-loop-seat g l = All (λ s. s.seat.table_id ≡ l.pids.table.shared.table_id) l.seats.items

abbrev pub decreases-loop-seat : goal.decreases-loop-seat
decreases-loop-seat g l = vec_len l.seats
