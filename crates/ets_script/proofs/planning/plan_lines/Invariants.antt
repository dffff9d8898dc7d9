use Rattle.std.proofs.Common.{◌+◌, ◌*◌, length}
use Rattle.ets_script.proofs.PlannedLines.{Planning}
use Rattle.ets_script.proofs.planning.plan_lines.Given as goal

abbrev pub invariant-loop-taken : goal.invariant-loop-taken
invariant-loop-taken g l = Planning l.initial.plan (g.R.Read.remaining l.initial.reader) l.buffer (g.R.Read.remaining l.reader) l.plan

abbrev pub decreases-loop-taken : goal.decreases-loop-taken
decreases-loop-taken g l = l.buffer.reads * 131073 + length l.buffer.bytes
