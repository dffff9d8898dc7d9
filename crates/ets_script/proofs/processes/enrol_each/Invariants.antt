use Rattle.std.proofs.Common.{◌≡◌, ◌++◌, length, vec_len}
use Rattle.std.specs.Vec.Iter.{into_iter_items, into_iter_len}
use Rattle.ets_script.specs.inside.Processes.{AreEnrolled, AreSeatsOf}
use Rattle.ets_script.proofs.processes.enrol_each.Given as goal

abbrev pub invariant-loop-own : goal.invariant-loop-own
invariant-loop-own g l = record {
  all : l.yielded ++ into_iter_items l.own-iterator ≡ l.fn.jobs;
  len : into_iter_len l.own-iterator ≡ length (into_iter_items l.own-iterator);
  done : AreEnrolled 0 l.yielded l.work.items;
  counted : length l.yielded ≡ vec_len l.work;
  seats : AreSeatsOf l.pids l.seats.items;
}
