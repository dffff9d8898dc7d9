use Rattle.std.proofs.Common.{◌∙◌}
use Rattle.std.proofs.Math.Nat.{mod-eq_of_lt}
use Rattle.split_key.proofs.Revs.{rev-twice}
use Rattle.split_key.proofs.laws.reversal_undoes_itself.Goals as goal

pub returns : goal.returns
returns c = rev-twice 32 c.args.number ∙ mod-eq_of_lt c.ranges.number.fits
