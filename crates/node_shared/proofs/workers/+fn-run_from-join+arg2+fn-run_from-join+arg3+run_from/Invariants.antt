use Rattle.std.proofs.Common.{◌+◌, ◌*◌, vec_len}
use Rattle.node_shared.proofs.workers.+fn-run_from-join+arg2+fn-run_from-join+arg3+run_from.Given as goal

abbrev pub decreases-join+arg2 : goal.decreases-join+arg2
decreases-join+arg2 g l = 2 * vec_len l.work + 1

abbrev pub decreases-join+arg3 : goal.decreases-join+arg3
decreases-join+arg3 g l = 2 * vec_len l.back + 1

abbrev pub decreases-run_from : goal.decreases-run_from
decreases-run_from g l = 2 * vec_len l.work
