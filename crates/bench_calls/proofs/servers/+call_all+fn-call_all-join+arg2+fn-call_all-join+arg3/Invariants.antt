use Rattle.std.proofs.Common.{◌+◌, ◌*◌, vec_len}
use Rattle.bench_calls.proofs.servers.+call_all+fn-call_all-join+arg2+fn-call_all-join+arg3.Given as goal

abbrev pub decreases-join+arg2 : goal.decreases-join+arg2
decreases-join+arg2 g l = 2 * vec_len l.work + 1

abbrev pub decreases-join+arg3 : goal.decreases-join+arg3
decreases-join+arg3 g l = 2 * vec_len l.back + 1

abbrev pub decreases-call_all : goal.decreases-call_all
decreases-call_all g l = 2 * vec_len l.work
