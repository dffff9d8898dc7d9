use Rattle.fixed_walk.proofs.CountLaws.{counted-none}
use Rattle.fixed_walk.proofs.fixes.Fixes.new.Goals as goal

pub invariant_of-result : goal.invariant_of-result
invariant_of-result c = counted-none c.new.result.entries c.new.ensures.len
