use Rattle.std.proofs.Common.{◌+◌, ◌*◌, vec_len}
use Rattle.test_shared.proofs.tests.stressing.+count_right+fn-count_right-join+arg2+fn-count_right-join+arg3.Given as goal

abbrev pub decreases-join+arg2 : goal.decreases-join+arg2
decreases-join+arg2 g l = 2 * vec_len l.teams + 1

abbrev pub decreases-join+arg3 : goal.decreases-join+arg3
decreases-join+arg3 g l = 2 * vec_len l.back + 1

abbrev pub decreases-count_right : goal.decreases-count_right
decreases-count_right g l = 2 * vec_len l.teams
